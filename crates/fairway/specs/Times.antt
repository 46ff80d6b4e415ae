-- Times as fractions of seconds, and their order.
use Rattle.std.specs.Prelude.{◌≡◌, ℕ, ◌+◌, ◌*◌, ◌<◌, ◌≤◌}

infix 50 ◌≤ᵗ◌ ◌<ᵗ◌ ◌=ᵗ◌
-- the time num / den
pub record Time : Type 0 where
  pub num : ℕ
  pub den : ℕ

-- the time n / d
abbrev pub ratio : ℕ → ℕ → Time
ratio n d = record { num = n; den = d }

-- whole seconds and a fraction n / d, as one fraction
abbrev pub whole_and : ℕ → ℕ → ℕ → Time
whole_and s n d = ratio (s * d + n) d

-- the denominator is not 0
abbrev pub Proper : Time → Type 0
Proper t = 0 < t.den

-- not later
abbrev pub ◌≤ᵗ◌ : Time → Time → Type 0
t ≤ᵗ u = t.num * u.den ≤ u.num * t.den

-- earlier
abbrev pub ◌<ᵗ◌ : Time → Time → Type 0
t <ᵗ u = t.num * u.den < u.num * t.den

-- equal in value
abbrev pub ◌=ᵗ◌ : Time → Time → Type 0
t =ᵗ u = t.num * u.den ≡ u.num * t.den
