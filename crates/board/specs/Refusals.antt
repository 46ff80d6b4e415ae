-- The refusals of a board, and the number of each.
use Rattle.std.specs.Prelude.{ℕ}
use Rattle.board.specs.declared.refusal.Refusal.{Refusal}
use Rattle.board.specs.declared.refusal.Refusal.TheVariants.{NumberZero, OutOfRange, ClockHasFraction, AlreadyAboard, Full, UnknownVessel, NoSuchInstant, Early, FewRows, SmallQueue}
use Rattle.fairway.specs.declared.refusal.Refusal.{Refusal as InstantRefusal}
use Rattle.fairway.specs.declared.refusal.Refusal.TheVariants as instant

abbrev pub refusal_number : Refusal → ℕ
refusal_number NumberZero = 1
refusal_number OutOfRange = 2
refusal_number ClockHasFraction = 3
refusal_number AlreadyAboard = 4
refusal_number Full = 5
refusal_number UnknownVessel = 6
refusal_number NoSuchInstant = 7
refusal_number Early = 8
refusal_number FewRows = 9
refusal_number SmallQueue = 10

-- the refusal of numbers that are no instant, as the board's
abbrev pub of_instant : InstantRefusal → Refusal
of_instant instant.NoSuchInstant = NoSuchInstant
