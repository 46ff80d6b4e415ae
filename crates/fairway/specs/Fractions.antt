-- Lowest terms by Euclid.
use Rattle.std.specs.Prelude.{◌≡◌, ℕ, zero, suc, ◌%◌}
use Rattle.std.specs.Int.{◌∣◌}
use Rattle.fairway.specs.Times.{Time}

-- Euclid's greatest common divisor, in at most the given number of steps
abbrev pub gcd_in : ℕ → ℕ → ℕ → ℕ
gcd_in zero a b = a
gcd_in (suc k) a zero = a
gcd_in (suc k) a (suc b) = gcd_in k (suc b) (a % suc b)

-- the second number falls with each step, so as many steps as it says are enough
unfoldable pub gcd : ℕ → ℕ → ℕ
gcd a b = gcd_in b a b

-- g divides both, and every number that divides both divides g
pub record CommonDivisor (a b g : ℕ) : Type 0 where
  pub value : g ≡ gcd a b
  pub divides_first : g ∣ a
  pub divides_second : g ∣ b
  pub greatest : (k : ℕ) → k ∣ a → k ∣ b → k ∣ g

-- no common factor
abbrev pub Coprime : ℕ → ℕ → Type 0
Coprime a b = (k : ℕ) → k ∣ a → k ∣ b → k ≡ 1

-- a time in lowest terms
abbrev pub Reduced : Time → Type 0
Reduced t = Coprime t.num t.den
