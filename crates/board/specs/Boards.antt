-- A board that is right, and which calls it refuses.
use Rattle.std.specs.Prelude.{◌≡◌, ℕ, ◌+◌, ◌*◌, ◌≤◌, Bool, cond, not, ◌||◌, ◌⊎◌, [], ◌∷◌, ℤ, pos, negsuc, is_some, Some, None, Option, ◌==◌, int_lt, nat_eq, nat_le, nat_lt}
use Rattle.event_queue.specs.Queues as queues
use Rattle.event_queue.specs.Refusals.{◌when◌, topmost}
use Rattle.fairway.specs.Instants.{stamp_of, instant_refusal}
use Rattle.fairway.specs.Stamps.{time_of, earlier}
use Rattle.fairway.specs.declared.course.Course.{Course}
use Rattle.fairway.specs.declared.instant.Instant.{Instant}
use Rattle.fairway.specs.declared.stamp.Stamp.{Stamp}
use Rattle.kinetic.specs.Limits.{out_of_range}
use Rattle.kinetic.specs.Structures as structures
use Rattle.kinetic.specs.Structures.{Rests}
use Rattle.board.specs.Books.{at_speed, goal}
use Rattle.board.specs.Tickets.{Ticket, Tickets}
use Rattle.board.specs.declared.board.Board.{Board}
use Rattle.board.specs.declared.call.Call.{Call}
use Rattle.board.specs.declared.call.Call.TheVariants.{Open, Enter, Leave, Steer, Advance}
use Rattle.board.specs.declared.refusal.Refusal.{Refusal}
use Rattle.board.specs.declared.refusal.Refusal.TheVariants.{NumberZero, OutOfRange, ClockHasFraction, AlreadyAboard, Full, UnknownVessel, NoSuchInstant, Early, FewRows, SmallQueue}

-- ---- the total

-- the seconds begun
abbrev pub begun : Instant → ℕ
begun i = cond (i.numerator == 0) i.seconds (i.seconds + 1)

-- at most 2,016 mends for each second begun, and as many with those that the load still allows
pub record TotalBounded (clock : Instant) (total load : ℕ) : Type 0 where
  pub so_far : total ≤ 2016 * begun clock
  pub to_come : total + load ≤ 2016 * (clock.seconds + 1)

-- ---- the tests of refusals

-- the clock has a fraction
abbrev pub has_fraction : Stamp → Bool
has_fraction clock = not (clock.numerator == 0)

-- a speed above 1,000 in size
unfoldable pub speed_out : ℤ → Bool
speed_out speed = int_lt speed (negsuc 999) || int_lt (pos 1000) speed

-- a position above 100,000,000 in size
unfoldable pub position_out : ℤ → Bool
position_out position = int_lt position (negsuc 99999999) || int_lt (pos 100000000) position

-- position or speed of an entry out of range; where they are not, neither is the base
abbrev pub entry_out : ℤ → ℤ → Bool
entry_out position speed = position_out position || speed_out speed

-- the new speed out of range, or the base of the course that a vessel would have
abbrev pub steer_out : Option Course → ℤ → ℕ → Bool
steer_out None speed second = speed_out speed
steer_out (Some c) speed second = out_of_range (at_speed speed second c)

-- ---- the table of refusals

-- What a refusal depends on: the clock, each vessel's course, how many vessels there are, the load, the queue's capacity.
pub record Facts : Type 0 where
  pub clock : Stamp
  pub roster : ℕ → Option Course
  pub count : ℕ
  pub load : ℕ
  pub capacity : ℕ

-- The table of refusals: of each call, lent so many rows, from the top. Where it is none, the call is accepted.
abbrev pub refusal_of : Facts → Call → ℕ → Option Refusal
refusal_of f Open lent = None
refusal_of f (Enter number position speed) lent =
    topmost (
    NumberZero when nat_eq number 0 ∷
    OutOfRange when entry_out position speed ∷
    ClockHasFraction when has_fraction f.clock ∷
    AlreadyAboard when is_some (f.roster number) ∷
    Full when nat_le 64 f.count ∷
    SmallQueue when nat_lt f.capacity 64 ∷ [])
refusal_of f (Leave number) lent =
    topmost (
    NumberZero when nat_eq number 0 ∷
    ClockHasFraction when has_fraction f.clock ∷
    UnknownVessel when not (is_some (f.roster number)) ∷ [])
refusal_of f (Steer number speed) lent =
    topmost (
    NumberZero when nat_eq number 0 ∷
    OutOfRange when steer_out (f.roster number) speed f.clock.seconds ∷
    ClockHasFraction when has_fraction f.clock ∷
    UnknownVessel when not (is_some (f.roster number)) ∷ [])
refusal_of f (Advance s n d) lent =
    topmost (
    NoSuchInstant when is_some (instant_refusal s n d) ∷
    Early when earlier (goal s n d) f.clock ∷
    FewRows when nat_lt lent f.load ∷ [])

module _ {S Q : Type 0} (m : structures.Meaning S) (n : queues.Meaning Q Ticket) where
  -- A board is right: its queue is sound, and has a ticket number for each certificate or there is no
  -- vessel; its structure stands at the clock with none due; the queue holds the tickets that the
  -- certificates ask for and no others; the total is within its bound.
  pub record Right (b : Board S Q) : Type 0 where
    pub sound : n.sound b.queue
    pub capacity : b.capacity ≡ n.capacity b.queue
    pub room : (n.capacity b.queue ≡ 64) ⊎ ((v : ℕ) → m.roster b.structure v ≡ None)
    pub rests : Rests m (time_of (stamp_of b.clock)) b.structure
    pub tickets : Tickets m n b.structure b.queue
    pub total : TotalBounded b.clock b.total (m.load b.structure)

  -- the facts of a board
  abbrev pub facts_of : Board S Q → Facts
  facts_of b =
      record {
        clock = stamp_of b.clock;
        roster = m.roster b.structure;
        count = m.count b.structure;
        load = m.load b.structure;
        capacity = b.capacity;
      }

  -- why a board refuses a call that is lent so many rows, or none
  abbrev pub refusal : Board S Q → Call → ℕ → Option Refusal
  refusal b call lent = refusal_of (facts_of b) call lent
