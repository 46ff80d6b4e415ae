-- A sheet by what happened on it since it was empty. A log has the newest event first.
use Rattle.std.specs.Prelude.{◌≡◌, ℕ, ◌<◌, ◌≤◌, Bool, true, false, ◌⊎◌, List, [], ◌∷◌, Some, None, Ok, Err, ◌==◌}
use Rattle.event_queue.specs.Queues.{Meaning}
use Rattle.call_sheet.specs.Lines.{line_refusal}
use Rattle.call_sheet.specs.declared.call.Event.{Event}
use Rattle.call_sheet.specs.declared.call.Event.TheVariants.{OnAwait, OnHeard, OnOverdue}
use Rattle.call_sheet.specs.declared.call.Hail.{Hail}

-- the event awaits the line, hears it or hands it out
abbrev pub concerns : ℕ → Event → Bool
concerns line (OnAwait l second (Ok _)) = line == l
concerns line (OnAwait l second (Err e)) = false
concerns line (OnHeard l (Ok there)) = line == l
concerns line (OnHeard l (Err e)) = false
concerns line (OnOverdue given (Some hail)) = line == hail.line
concerns line (OnOverdue given None) = false

-- The line waits for the second: it was awaited at it, and has since been neither heard nor handed out,
-- nor awaited at another.
abbrev pub Waits : ℕ → ℕ → List Event → Type 0
Waits line second [] = ⊥
Waits line second (e ∷ older) = (e ≡ OnAwait line second (Ok tt)) ⊎ ((concerns line e ≡ false) × Waits line second older)

-- a line was handed out rightly
pub record RightlyHailed (older : List Event) (given : ℕ) (hail : Hail) : Type 0 where
  -- it was awaited at that second, and neither heard nor handed out since
  pub waits : Waits hail.line hail.second older
  -- its second is not after the given one
  pub not_after : hail.second ≤ given
  -- and is the least of those that wait
  pub least : (line second : ℕ) → Waits line second older → hail.second ≤ second

-- The event is answered rightly on a sheet of this capacity, after the events that came before it.
abbrev pub Right : ℕ → List Event → Event → Type 0
Right capacity older (OnAwait line second (Ok _)) = line_refusal capacity line ≡ None
Right capacity older (OnAwait line second (Err e)) = line_refusal capacity line ≡ Some e
Right capacity older (OnHeard line (Ok true)) = (line_refusal capacity line ≡ None) × ((second : ℕ) × Waits line second older)
Right capacity older (OnHeard line (Ok false)) = (line_refusal capacity line ≡ None) × ((second : ℕ) → Waits line second older → ⊥)
Right capacity older (OnHeard line (Err e)) = line_refusal capacity line ≡ Some e
Right capacity older (OnOverdue given (Some hail)) = RightlyHailed older given hail
Right capacity older (OnOverdue given None) = (line second : ℕ) → Waits line second older → given < second

-- every event of the log was answered rightly
abbrev pub AllRight : ℕ → List Event → Type 0
AllRight capacity [] = Unit {0}
AllRight capacity (e ∷ older) = Right capacity older e × AllRight capacity older

-- The sheet over the queue q is where the log leads from an empty sheet: every answer on the way was
-- right, and it holds the lines that wait, each with its second, and no other.
pub record LedTo {Q : Type 0} (m : Meaning Q ℕ) (log : List Event) (q : Q) : Type 0 where
  pub sound : m.sound q
  pub right : AllRight (m.capacity q) log
  pub holds : (line second : ℕ) → Waits line second log → m.held q line ≡ Some second
  pub only : (line second : ℕ) → m.held q line ≡ Some second → Waits line second log
