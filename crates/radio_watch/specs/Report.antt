-- The text that is written of each entry.
use Rattle.std.specs.Prelude.{ℕ, List, [], ◌∷◌, ◌++◌, Ok, Err, codes, decimal}
use Rattle.call_sheet.specs.Texts.{event_text}
use Rattle.radio_watch.specs.declared.entry.Unreadable.{Unreadable}
use Rattle.radio_watch.specs.Journal.{Entry}

-- a line of the script that cannot be read, by its number
abbrev pub unreadable_text : Unreadable → List ℕ
unreadable_text line = codes "script line " ++ (decimal line.number ++ codes " cannot be read")

-- an entry: an event, or a line that cannot be read
abbrev pub entry_text : Entry → List ℕ
entry_text (Ok event) = event_text event
entry_text (Err unreadable) = unreadable_text unreadable

-- a report: the text of each entry, and a line feed behind it
abbrev pub report_text : List Entry → List ℕ
report_text [] = []
report_text (entry ∷ more) = entry_text entry ++ (10 ∷ report_text more)
