-- The journal of a watch: what came of each item of a script, in the script's order.
use Rattle.std.specs.Prelude.{◌≡◌, ℕ, List, [], ◌∷◌, map, Ok, Err, Result}
use Rattle.call_sheet.specs.Sheets.{call_of}
use Rattle.call_sheet.specs.History.{AllRight}
use Rattle.call_sheet.specs.declared.call.Event.{Event}
use Rattle.radio_watch.specs.declared.entry.Unreadable.{Unreadable}
use Rattle.radio_watch.specs.Script.{Item}

-- what came of an item: the call and its answer, or the line that could not be read
abbrev pub Entry : Type 0
Entry = Result Event Unreadable

-- the item that an entry is of
abbrev pub item_of : Entry → Item
item_of (Ok event) = Ok (call_of event)
item_of (Err unreadable) = Err unreadable

-- what happened on the sheet, the newest first, after what the log has already
abbrev pub log_from : List Event → List Entry → List Event
log_from log [] = log
log_from log (Ok event ∷ entries) = log_from (event ∷ log) entries
log_from log (Err unreadable ∷ entries) = log_from log entries

-- The journal has an entry for each item, and on a sheet of this capacity, empty at first, every call of
-- it was answered rightly.
pub record Kept (capacity : ℕ) (items : List Item) (journal : List Entry) : Type 0 where
  pub in_turn : map item_of journal ≡ items
  pub right : AllRight capacity (log_from [] journal)
