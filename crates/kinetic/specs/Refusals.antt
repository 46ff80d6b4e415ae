-- The refusals of this layer, and the number of each.
use Rattle.std.specs.Prelude.{ℕ}
use Rattle.kinetic.specs.declared.refusal.Refusal.{Refusal}
use Rattle.kinetic.specs.declared.refusal.Refusal.TheVariants.{NumberZero, OutOfRange, AlreadyAboard, Full, UnknownVessel, NotDue}

-- the number of a refusal
abbrev pub refusal_number : Refusal → ℕ
refusal_number NumberZero = 1
refusal_number OutOfRange = 2
refusal_number AlreadyAboard = 4
refusal_number Full = 5
refusal_number UnknownVessel = 6
refusal_number NotDue = 6
