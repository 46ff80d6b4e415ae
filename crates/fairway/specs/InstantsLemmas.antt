-- The order of instants: total, and equal just where the three numbers are.
use Rattle.std.specs.Prelude.{◌≡◌, ℕ, zero, suc, ◌+◌, ◌-◌, ◌*◌, ◌<◌, ◌≤◌, ◌&&◌, ◌==◌}
use Rattle.std.specs.Int.{◌∣◌}
use Rattle.std.specs.Ordering.{is_eq, nat_cmp, on}
use Rattle.std.specs.declared.cmp.Ordering.TheVariants.{Less, Equal}
use Rattle.std.specs.Cmp.{IsTotalOrder, then_total, on_total, nat_cmp_total, both_tied, both_ways}
use Rattle.std.proofs.Common.{refl, sym, ap, ◌∙◌, subst, ⊎_elim, mul-le-mul_right, mul-lt-mul_of_pos_right, mul_comm, mul-pos, le_of_mul-le-mul_right, arith}
use native.Mathlib.Nat.{mul-sub, dvd_refl, dvd-zero, dvd-add}
use Rattle.std.proofs.lemmas.Bool.{cases_lt, cases_order, eqb-true, eq-eqb}
use Rattle.std.proofs.lemmas.Bool.Decides.{nat_tests}
use Rattle.fairway.specs.Fractions.{Coprime}
use Rattle.fairway.specs.Instants.{fraction_order, time_order}
use Rattle.fairway.specs.declared.instant.Instant.{Instant}

-- ---- two fractions in lowest terms, taken down together by Euclid's subtractions
same : (k a b c e : ℕ) → a + b ≤ k → 0 < b → 0 < e → Coprime a b → Coprime c e → a * e ≡ c * b → (a ≡ c) × (b ≡ e)
same zero a b c e f pb pe x y q = absurd (omega arith)
same (suc k) zero b c e f pb pe x y q =
    let z : c ≡ 0 = mul_zero_left c b pb (sym q) in
    let b1 = x b (dvd-zero b) (dvd_refl b) in
    let e1 = y e (rw z (dvd-zero e)) (dvd_refl e) in
    (sym z, omega arith)
  where
    mul_zero_left : (c b : ℕ) → 0 < b → c * b ≡ 0 * e → c ≡ 0
    mul_zero_left zero b h q = refl
    mul_zero_left (suc c) b h q = absurd (omega (arith, mul-pos {m = suc c} {n = b} (omega arith) h))
same (suc k) (suc a) b c e f pb pe x y q =
    ⊎_elim
    (λ (l : suc a < b).
    let m : c < e = ⊎_elim (λ h. h) (λ h. absurd (omega (arith, mul-le-mul_right b h, mul-lt-mul_of_pos_right l pe, mul_comm e b))) (cases_lt c e) in
    let r = same k (suc a) (b - suc a) c (e - c) (omega arith) (omega arith) (omega arith)
    (λ i u v. x i u (subst (λ w. i ∣ w) (omega arith) (dvd-add i u v)))
    (λ i u v. y i u (subst (λ w. i ∣ w) (omega arith) (dvd-add i u v)))
    (rw (mul-sub (suc a) e c, mul-sub c b (suc a)) (omega (arith, mul_comm (suc a) c))) in
    omega arith)
    (λ (l : b ≤ suc a).
    let m : e ≤ c = le_of_mul-le-mul_right {k = b} (omega (arith, mul-le-mul_right e l, mul_comm e b)) pb in
    let r = same k (suc a - b) b (c - e) e (omega arith) pb pe
    (λ i u v. x i (subst (λ w. i ∣ w) (omega arith) (dvd-add i u v)) v)
    (λ i u v. y i (subst (λ w. i ∣ w) (omega arith) (dvd-add i u v)) v)
    (rw (mul_comm (suc a - b) e, mul_comm (c - e) b, mul-sub e (suc a) b, mul-sub b c e) (omega (arith, mul_comm e (suc a), mul_comm b c, mul_comm e b))) in
    omega arith)
    (cases_lt (suc a) b)

pub same_fraction : (a b c e : ℕ) → 0 < b → 0 < e → Coprime a b → Coprime c e → a * e ≡ c * b → (a ≡ c) × (b ≡ e)
same_fraction a b c e pb pe x y q = same (a + b) a b c e (omega arith) pb pe x y q

-- ---- comparisons of numbers
cmp_less : (x y : ℕ) → nat_cmp x y ≡ Less → x < y
cmp_less x y e = grind (arith, nat_tests)

less_cmp : (x y : ℕ) → x < y → nat_cmp x y ≡ Less
less_cmp x y h = grind (arith, nat_tests)

cmp_equal : (x y : ℕ) → nat_cmp x y ≡ Equal → x ≡ y
cmp_equal x y e = grind (arith, nat_tests)

cmp_tied : (x y : ℕ) → (x == y) ≡ is_eq (nat_cmp x y)
cmp_tied x y = grind (arith, nat_tests)

-- both times k
cmp_scaled : (x y k : ℕ) → 0 < k → nat_cmp (x * k) (y * k) ≡ nat_cmp x y
cmp_scaled x y k p =
    ⊎_elim (λ e. rw e (grind (arith, nat_tests)))
    (⊎_elim
    (λ l. less_cmp (x * k) (y * k) (mul-lt-mul_of_pos_right l p) ∙ sym (less_cmp x y l))
    (λ l. let h = mul-lt-mul_of_pos_right l p in grind (arith, nat_tests)))
    (cases_order x y)

-- ---- fractions by their products
cross_less : (an ad bn bd cn cd : ℕ) → 0 < ad → 0 < cd → an * bd < bn * ad → bn * cd < cn * bd → an * cd < cn * ad
cross_less an ad bn bd cn cd p q h k =
    let one : an * bd * cd < bn * ad * cd = mul-lt-mul_of_pos_right h q in
    let two : bn * cd * ad < cn * bd * ad = mul-lt-mul_of_pos_right k p in
    let all : (an * cd) * bd < (cn * ad) * bd = grind arith in
    ⊎_elim (λ l. l) (λ l. absurd (omega (arith, mul-le-mul_right bd l))) (cases_lt (an * cd) (cn * ad))

positive : (i : Instant) → 0 < i.denominator
positive i = let b : i.numerator < i.denominator = i.below in omega arith

fractions_trans : (a b c : Instant) → fraction_order a b ≡ Less → fraction_order b c ≡ Less → fraction_order a c ≡ Less
fractions_trans a b c e f =
    less_cmp _ _
    (cross_less a.numerator a.denominator b.numerator b.denominator c.numerator c.denominator (positive a) (positive c) (cmp_less _ _ e) (cmp_less _ _ f))

fractions_congr : (a b c : Instant) → fraction_order a b ≡ Equal → fraction_order a c ≡ fraction_order b c
fractions_congr a b c e =
    let q : a.numerator * b.denominator ≡ b.numerator * a.denominator = cmp_equal _ _ e in
    let p = ap (λ n. n * c.denominator) q in
    let x : a.numerator * c.denominator * b.denominator ≡ b.numerator * c.denominator * a.denominator = grind arith in
    let y : c.numerator * a.denominator * b.denominator ≡ c.numerator * b.denominator * a.denominator = grind arith in
    sym (cmp_scaled (a.numerator * c.denominator) (c.numerator * a.denominator) b.denominator (positive b))
    ∙ ap (λ n. nat_cmp n (c.numerator * a.denominator * b.denominator)) x
    ∙ ap (nat_cmp (b.numerator * c.denominator * a.denominator)) y
    ∙ cmp_scaled (b.numerator * c.denominator) (c.numerator * b.denominator) a.denominator (positive a)

fraction_total : IsTotalOrder fraction_order
fraction_total = record {
  antisymm = λ a b. nat_cmp_total.antisymm (a.numerator * b.denominator) (b.numerator * a.denominator);
  trans = fractions_trans;
  congr = fractions_congr;
}

-- equal by the products just where the numbers are, in lowest terms
fraction_ties : (a b : Instant) → (a.numerator == b.numerator && a.denominator == b.denominator) ≡ is_eq (fraction_order a b)
fraction_ties a b = go a.numerator a.denominator b.numerator b.denominator (same_fraction a.numerator a.denominator b.numerator b.denominator (positive a) (positive b) a.lowest b.lowest)
  where
    go : (n d m e : ℕ) → (n * e ≡ m * d → (n ≡ m) × (d ≡ e)) → (n == m && d == e) ≡ is_eq (nat_cmp (n * e) (m * d))
    go n d m e h =
        both_ways (n == m && d == e) (is_eq (nat_cmp (n * e) (m * d)))
        (λ t. let p : n ≡ m = grind (arith, nat_tests) in let q : d ≡ e = grind (arith, nat_tests) in rw (p, q) (sym (cmp_tied (m * e) (m * e)) ∙ eq-eqb _ _ refl))
        (λ t. let s = h (eqb-true _ _ (cmp_tied (n * e) (m * d) ∙ t)) in let p = s.0 in let q = s.1 in grind (arith, nat_tests))

-- ---- the laws
pub total : IsTotalOrder time_order
total = then_total {R = on (λ i. i.seconds) nat_cmp} {S = fraction_order} (on_total (λ i. i.seconds) nat_cmp_total) fraction_total

pub ties : (a b : Instant) → (a.seconds == b.seconds && (a.numerator == b.numerator && a.denominator == b.denominator)) ≡ is_eq (time_order a b)
ties a b =
    both_tied (a.seconds == b.seconds) (a.numerator == b.numerator && a.denominator == b.denominator) (nat_cmp a.seconds b.seconds) (fraction_order a b) (cmp_tied a.seconds b.seconds) (fraction_ties a b)
