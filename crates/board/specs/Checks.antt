-- What the check of a call hands on, before the call acts.
use Rattle.std.specs.Prelude.{◌≡◌, ℕ, ℤ, Some, None, Ok, Err, Result}
use Rattle.event_queue.specs.Queues as queues
use Rattle.fairway.specs.Instants.{stamp_of}
use Rattle.fairway.specs.Rosters.{changed_by}
use Rattle.fairway.specs.declared.course.Course.{Course}
use Rattle.fairway.specs.declared.instant.Instant.{Instant}
use Rattle.kinetic.specs.Structures as structures
use Rattle.board.specs.Boards.{refusal}
use Rattle.board.specs.Books.{course_at, at_speed, goal}
use Rattle.board.specs.Tickets.{Ticket}
use Rattle.board.specs.declared.board.Board.{Board}
use Rattle.board.specs.declared.call.Call.{Call}
use Rattle.board.specs.declared.call.Call.TheVariants.{Enter, Leave, Steer, Advance}
use Rattle.board.specs.declared.refusal.Refusal.{Refusal}

module _ {S Q : Type 0} (m : structures.Meaning S) (n : queues.Meaning Q Ticket) where
  -- A check of a call that is lent so many rows: why it is refused; or, where it is not, a value of which P holds.
  abbrev pub CallChecked : {A : Type 0} → Board S Q → Call → ℕ → (A → Type 0) → Result A Refusal → Type 0
  CallChecked b call lent P (Ok x) = (refusal m n b call lent ≡ None) × P x
  CallChecked b call lent P (Err e) = refusal m n b call lent ≡ Some e

  -- of an entry, with the course of the vessel that enters
  abbrev pub EnterChecked : Board S Q → ℕ → ℤ → ℤ → Result Course Refusal → Type 0
  EnterChecked b v position speed r = CallChecked b (Enter v position speed) 0 (λ c. c ≡ course_at v position speed b.clock.seconds) r

  -- of a departure
  abbrev pub LeaveChecked : Board S Q → ℕ → Result Unit Refusal → Type 0
  LeaveChecked b v r = CallChecked b (Leave v) 0 (λ u. Unit {0}) r

  -- of a change of speed, with the course that the vessel has from the clock on
  abbrev pub SteerChecked : Board S Q → ℕ → ℤ → Result Course Refusal → Type 0
  SteerChecked b v speed r = CallChecked b (Steer v speed) 0 (λ c. changed_by (at_speed speed b.clock.seconds) (m.roster b.structure v) ≡ Some c) r

  -- of an advance, with its instant
  abbrev pub AdvanceChecked : Board S Q → ℕ → ℕ → ℕ → ℕ → Result Instant Refusal → Type 0
  AdvanceChecked b s n d lent r = CallChecked b (Advance s n d) lent (λ to. stamp_of to ≡ goal s n d) r
