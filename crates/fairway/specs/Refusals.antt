-- The refusals of this layer, and the number of each.
use Rattle.std.specs.Prelude.{ℕ}
use Rattle.fairway.specs.declared.refusal.Refusal.{Refusal}
use Rattle.fairway.specs.declared.refusal.Refusal.TheVariants.{NoSuchInstant}

-- the number of a refusal
abbrev pub refusal_number : Refusal → ℕ
refusal_number NoSuchInstant = 7
