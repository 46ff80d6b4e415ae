-- The plain book: what a clerk would write down who is told each call and whether it was accepted, and
-- nothing more.
use Rattle.std.specs.Prelude.{ℕ, ◌+◌, ◌*◌, Bool, true, false, cond, List, [], ◌∷◌, ℤ, pos, ◌+ℤ◌, ◌-ℤ◌, ◌*ℤ◌}
use Rattle.fairway.specs.Meetings.{lowest_stamp}
use Rattle.fairway.specs.Rosters.{without, altered}
use Rattle.fairway.specs.declared.course.Course.{Course}
use Rattle.fairway.specs.declared.stamp.Stamp.{Stamp}
use Rattle.board.specs.declared.call.Call.{Call}
use Rattle.board.specs.declared.call.Call.TheVariants.{Open, Enter, Leave, Steer, Advance}
use Rattle.board.specs.declared.call.Outcome.{Outcome}
use Rattle.board.specs.declared.call.Outcome.TheVariants.{Accepted, Refused}
use Rattle.board.specs.declared.call.Row.{Row}

-- a clock and the courses of the vessels aboard
pub record Book : Type 0 where
  pub clock : Stamp
  pub roster : List Course

-- second 0
abbrev pub start_stamp : Stamp
start_stamp = record { seconds = 0; numerator = 0; denominator_less_one = 0 }

-- the book at the start, and at each opening
abbrev pub start : Book
start = record { clock = start_stamp; roster = [] }

-- the course of a vessel that is at a position at a whole second: its base is that position less the way
-- made since second 0
abbrev pub course_at : ℕ → ℤ → ℤ → ℕ → Course
course_at number position speed second = record { number = number; speed = speed; base = position -ℤ (speed *ℤ pos second) }

-- the course of another speed that has the same position at that second
abbrev pub at_speed : ℤ → ℕ → Course → Course
at_speed speed second c = record { number = c.number; speed = speed; base = c.base +ℤ ((c.speed -ℤ speed) *ℤ pos second) }

-- the instant of s seconds and n / d, in lowest terms
abbrev pub goal : ℕ → ℕ → ℕ → Stamp
goal s n d = lowest_stamp (s * d + n) d

-- the book after an accepted call
abbrev pub accepted : Book → Call → Book
accepted b Open = start
accepted b (Enter number position speed) = record { clock = b.clock; roster = course_at number position speed b.clock.seconds ∷ b.roster }
accepted b (Leave number) = record { clock = b.clock; roster = without number b.roster }
accepted b (Steer number speed) = record { clock = b.clock; roster = altered (at_speed speed b.clock.seconds) number b.roster }
accepted b (Advance s n d) = record { clock = goal s n d; roster = b.roster }

-- whether a call was accepted, and how many mends it answered
abbrev pub is_accepted : Outcome → Bool
is_accepted (Accepted mends) = true
is_accepted (Refused refusal) = false

abbrev pub mends_of : Outcome → ℕ
mends_of (Accepted mends) = mends
mends_of (Refused refusal) = 0

-- a call with what came of it: how many rows it was lent, what it answered, and the rows that it wrote
pub record Event : Type 0 where
  pub call : Call
  pub lent : ℕ
  pub outcome : Outcome
  pub rows : List Row

-- the events since the board was made, the newest first
abbrev pub Log : Type 0
Log = List Event

-- the book after a log: a refused call changes nothing
abbrev pub book : Log → Book
book [] = start
book (e ∷ log) = cond (is_accepted e.outcome) (accepted (book log) e.call) (book log)

-- the sum of the advances' answers since the latest opening
abbrev pub sum_after : Call → ℕ → ℕ → ℕ
sum_after Open mends sum = 0
sum_after (Enter number position speed) mends sum = sum
sum_after (Leave number) mends sum = sum
sum_after (Steer number speed) mends sum = sum
sum_after (Advance s n d) mends sum = sum + mends

abbrev pub sum_since : Log → ℕ
sum_since [] = 0
sum_since (e ∷ log) = cond (is_accepted e.outcome) (sum_after e.call (mends_of e.outcome) (sum_since log)) (sum_since log)
