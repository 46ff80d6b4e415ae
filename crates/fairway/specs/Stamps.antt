-- Stamps: instants as plain triples of numbers, and their comparison.
use Rattle.std.specs.Prelude.{◌≡◌, ℕ, ◌+◌, ◌*◌, ◌<◌, Bool, ◌&&◌, ◌||◌, ◌==◌, nat_lt}
use Rattle.fairway.specs.Times.{Time, whole_and, ◌<ᵗ◌}
use Rattle.std.specs.Bool.{Decides}
use Rattle.fairway.specs.declared.stamp.Stamp.{Stamp}

-- the denominator
abbrev pub den : Stamp → ℕ
den s = s.denominator_less_one + 1

-- the time that a stamp stands for
abbrev pub time_of : Stamp → Time
time_of s = whole_and s.seconds s.numerator (den s)

-- the numerator is below the denominator
abbrev pub BelowOne : Stamp → Type 0
BelowOne s = s.numerator < den s

-- by whole seconds, then by each numerator times the other's denominator, whatever the numbers are
unfoldable pub earlier : Stamp → Stamp → Bool
earlier a b =
    nat_lt a.seconds b.seconds || (a.seconds == b.seconds && nat_lt (a.numerator * den b) (b.numerator * den a))

-- what the comparison answers; it agrees with the order of time where both numerators are below their denominators
pub record Compared (a b : Stamp) (answer : Bool) : Type 0 where
  pub value : answer ≡ earlier a b
  pub in_time : BelowOne a → BelowOne b → Decides answer (time_of a <ᵗ time_of b)
