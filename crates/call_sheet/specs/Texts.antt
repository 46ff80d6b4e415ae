-- The text that is written of each event.
use Rattle.std.specs.Prelude.{ℕ, true, false, List, ◌++◌, Some, None, Ok, Err, codes, decimal}
use Rattle.call_sheet.specs.Lines.{refusal_number}
use Rattle.call_sheet.specs.declared.call.Event.{Event}
use Rattle.call_sheet.specs.declared.call.Event.TheVariants.{OnAwait, OnHeard, OnOverdue}
use Rattle.call_sheet.specs.declared.refusal.Refusal.{Refusal}
use Rattle.call_sheet.specs.declared.refusal.Refusal.TheVariants.{NoSuchLine}

-- a refused call on a line
abbrev pub refused_text : ℕ → Refusal → List ℕ
refused_text line NoSuchLine = codes "refused " ++ (decimal (refusal_number NoSuchLine) ++ (codes ": line " ++ (decimal line ++ codes " is not below the capacity")))

-- an event: which call it was, and what the call answered
abbrev pub event_text : Event → List ℕ
event_text (OnAwait line second (Ok _)) = codes "line " ++ (decimal line ++ (codes " awaited at " ++ decimal second))
event_text (OnAwait line second (Err e)) = refused_text line e
event_text (OnHeard line (Ok true)) = codes "line " ++ (decimal line ++ codes " heard")
event_text (OnHeard line (Ok false)) = codes "line " ++ (decimal line ++ codes " was not awaited")
event_text (OnHeard line (Err e)) = refused_text line e
event_text (OnOverdue given (Some hail)) = codes "hail line " ++ (decimal hail.line ++ (codes ", awaited at " ++ decimal hail.second))
event_text (OnOverdue given None) = codes "none"
