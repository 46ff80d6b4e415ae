-- Lowest terms.
use Rattle.std.proofs.Common.{◌≡◌, ℕ, zero, suc, ◌*◌, ◌/◌, ◌%◌, ◌<◌, ◌≤◌, sym, refl, ap, ◌∙◌, subst, mod-lt, mul_assoc, mul_comm, arith}
use Prim.Native.Nat.{◌∣◌}
use native.Mathlib.Nat.{dvd_of_mul-dvd-mul_right, pos_of_dvd_of_pos, eq-one_of_dvd-one, mul-dvd-mul_right, div-mul_cancel}
use Rattle.std.specs.Int.{IsGcd}
use Rattle.std.proofs.lemmas.Nat.Gcd.{IsGcd-from_zero, IsGcd-from_mod, IsGcd-swap, same_from_IsGcd}
use Rattle.fairway.specs.Times.{Time, ratio, Proper, ◌=ᵗ◌}
use Rattle.fairway.specs.Fractions.{gcd_in, gcd, CommonDivisor, Reduced}
use Rattle.fairway.specs.InstantsLemmas.{same_fraction}

abbrev pub lowest : Time → Time
lowest t = ratio (t.num / gcd t.num t.den) (t.den / gcd t.num t.den)

-- lowest terms have the same value and no common factor
abbrev pub Lowers : Type 0
Lowers = (t : Time) → Proper t → Proper (lowest t) × Reduced (lowest t) × (t =ᵗ lowest t)

-- two times in lowest terms with equal values are one
abbrev pub OneForm : Type 0
OneForm = (t u : Time) → Proper t → Proper u → Reduced t → Reduced u → t =ᵗ u → t ≡ u

-- ---- the greatest common divisor
gcd_in_is : (k a b : ℕ) → b ≤ k → IsGcd a b (gcd_in k a b)
gcd_in_is zero a b h = IsGcd-from_zero a b (omega arith)
gcd_in_is (suc k) a zero h = IsGcd-from_zero a 0 refl
gcd_in_is (suc k) a (suc b) h =
    let l : a % suc b < suc b = mod-lt a (omega arith) in
    IsGcd-from_mod a (suc b) _ (gcd_in_is k (suc b) (a % suc b) (omega arith))

pub gcd_is : (a b : ℕ) → IsGcd a b (gcd a b)
unfolding gcd
gcd_is a b = gcd_in_is b a b (omega arith)

pub common_divisor : (a b g : ℕ) → IsGcd a b g → CommonDivisor a b g
common_divisor a b g i =
    record { value = same_from_IsGcd a b g (gcd a b) i (gcd_is a b); divides_first = i.0; divides_second = i.1; greatest = i.2 }

pub divisor_swapped : (a b g : ℕ) → CommonDivisor a b g → CommonDivisor b a g
divisor_swapped a b g c = common_divisor b a g (IsGcd-swap a b g (c.divides_first, c.divides_second, c.greatest))

left_pos : (q g d : ℕ) → q * g ≡ d → 0 < d → 0 < q
left_pos zero g d e h = absurd (omega arith)
left_pos (suc q) g d e h = omega arith

pub lowers : Lowers
lowers t h =
    let n = t.num in
    let d = t.den in
    let g = gcd n d in
    let i = gcd_is n d in
    let gp : 0 < g = pos_of_dvd_of_pos i.1 h in
    let en : n / g * g ≡ n = div-mul_cancel g i.0 in
    let ed : d / g * g ≡ d = div-mul_cancel g i.1 in (
      left_pos (d / g) g d ed h,
      (λ k a b.
          let x : k * g ∣ n = rw en at (mul-dvd-mul_right k a g) in
          let y : k * g ∣ d = rw ed at (mul-dvd-mul_right k b g) in
          let z : k * g ∣ 1 * g = subst (λ m. k * g ∣ m) (omega arith) (i.2 (k * g) x y) in
          eq-one_of_dvd-one (dvd_of_mul-dvd-mul_right k gp z)),
      ap (λ m. m * (d / g)) (sym en) ∙ mul_assoc (n / g) g (d / g) ∙ ap (λ m. n / g * m) (mul_comm g (d / g) ∙ ed),
    )

pub one_form : OneForm
one_form t u pt pu rt ru e =
    let s = same_fraction t.num t.den u.num u.den pt pu rt ru e in
    ap (λ n. ratio n t.den) s.0 ∙ ap (ratio u.num) s.1
