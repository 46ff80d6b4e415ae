-- What each call on a sheet does to what the sheet holds: for some lines, the second at which each is
-- awaited. It is what the sheet's queue holds, line for ticket.
use Rattle.std.specs.Prelude.{◌≡◌, ℕ, ◌<◌, Bool, is_some, Some, None, Ok, Err, Option, Result, nat_lt}
use Rattle.event_queue.specs.Queues.{Meaning, Only, Unchanged, HandedOut}
use Rattle.call_sheet.specs.Lines.{line_refusal}
use Rattle.call_sheet.specs.declared.call.Call.{Call}
use Rattle.call_sheet.specs.declared.call.Call.TheVariants.{Await, Heard, Overdue}
use Rattle.call_sheet.specs.declared.call.Event.{Event}
use Rattle.call_sheet.specs.declared.call.Event.TheVariants.{OnAwait, OnHeard, OnOverdue}
use Rattle.call_sheet.specs.declared.call.Hail.{Hail}
use Rattle.call_sheet.specs.declared.refusal.Refusal.{Refusal}

-- the call that an event is of
abbrev pub call_of : Event → Call
call_of (OnAwait line second answer) = Await line second
call_of (OnHeard line answer) = Heard line
call_of (OnOverdue second answer) = Overdue second

module _ {Q : Type 0} (m : Meaning Q ℕ) where
  -- await: the line is awaited at the second, whether or not it was awaited before. Any queue's sheet refuses just
  -- the lines that are not below its capacity.
  abbrev pub Awaits : Q → Q → ℕ → ℕ → Result Unit Refusal → Type 0
  Awaits q q' line second (Ok _) = (line_refusal (m.capacity q) line ≡ None) × (m.sound q → Only m q q' line (Some second))
  Awaits q q' line second (Err e) = (q' ≡ q) × (line_refusal (m.capacity q) line ≡ Some e)

  -- heard: the line is awaited no more; the answer is whether it was. It refuses the lines that await refuses.
  abbrev pub Hears : Q → Q → ℕ → Result Bool Refusal → Type 0
  Hears q q' line (Ok there) = (line_refusal (m.capacity q) line ≡ None) × (m.sound q → (there ≡ is_some (m.held q line)) × Only m q q' line None)
  Hears q q' line (Err e) = (q' ≡ q) × (line_refusal (m.capacity q) line ≡ Some e)

  -- overdue: the line awaited earliest is handed out, if its second is not after the given one. Which of
  -- several lines with the same second comes first is the queue's choice.
  abbrev pub Hails : Q → Q → ℕ → Option Hail → Type 0
  Hails q q' given (Some hail) = m.sound q → HandedOut m nat_lt q q' given hail.line hail.second
  Hails q q' given None = m.sound q → ((line second : ℕ) → m.held q line ≡ Some second → given < second) × Unchanged m q q'

  -- an event is what came of its call
  abbrev pub Does : Q → Q → Event → Type 0
  Does q q' (OnAwait line second answer) = Awaits q q' line second answer
  Does q q' (OnHeard line answer) = Hears q q' line answer
  Does q q' (OnOverdue given answer) = Hails q q' given answer
