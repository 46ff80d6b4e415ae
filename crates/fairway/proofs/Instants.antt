-- Instants: lowest terms, which numbers make one, and that a value has one.
use Rattle.std.proofs.Common.{◌≡◌, ℕ, ◌+◌, ◌-◌, ◌*◌, ◌/◌, ◌%◌, ◌<◌, ◌≤◌, Bool, true, false, ◌⊎◌, inl, inr, ◌&&◌, ◌==◌, None, sym, ap, ◌∙◌, subst, ⊎_elim, mul-le-mul_right, mod-eq_of_lt, div-le_self, add-mul, arith}
use Prim.Native.Nat.{◌∣◌}
use native.Mathlib.Nat.{pos_of_dvd_of_pos, div-mul_cancel, dvd-mod_iff, mul-add-mod_self_right}
use Rattle.std.proofs.lemmas.Bool.Decides.{nat_tests, Decides-at, Decides-like}
use Rattle.std.proofs.lemmas.Bool.{cases_order, cases_lt, cases_Bool}
use Rattle.std.specs.Ordering.{is_lt, ordering_then, nat_cmp}
use Rattle.fairway.specs.Times.{ratio, whole_and, ◌=ᵗ◌, ◌<ᵗ◌}
use Rattle.fairway.specs.Fractions.{CommonDivisor, Coprime, Reduced}
use Rattle.std.specs.Bool.{Decides}
use Rattle.fairway.specs.Stamps.{time_of, den, BelowOne}
use Rattle.fairway.specs.StampsLemmas.{crossed, crossed_lt}
use Rattle.fairway.specs.Instants.{time_order, value, stamp_of, instant_refusal, SameNumbers, SameInstant}
use Rattle.fairway.specs.declared.instant.Instant.{Instant}
use Rattle.fairway.specs.declared.stamp.Stamp.{Stamp}
use Rattle.fairway.proofs.Fractions.{lowers, one_form}

-- ---- n / d in lowest terms, by a common divisor g
pub record Lowered (s n d n' d' : ℕ) : Type 0 where
  pub below : n' < d'
  pub coprime : Coprime n' d'
  pub smaller : d' ≤ d
  pub nothing : n ≡ 0 → n' ≡ 0
  pub same : whole_and s n' d' =ᵗ whole_and s n d

pub divisor_pos : (n d g : ℕ) → 0 < d → CommonDivisor n d g → 0 < g
divisor_pos n d g h c = pos_of_dvd_of_pos c.divides_second h

pub first_divisor_pos : (n d g : ℕ) → 0 < n → CommonDivisor n d g → 0 < g
first_divisor_pos n d g h c = pos_of_dvd_of_pos c.divides_first h

-- q and n' / d' have the value of q and n / d, which are g times them
pub same_value : (q n' d' g n d : ℕ) → n' * g ≡ n → d' * g ≡ d → (q * d' + n') * d ≡ (q * d + n) * d'
same_value q n' d' g n d en ed = rw (← en, ← ed) (go q n' d' g)
  where
    go : (q n' d' g : ℕ) → (q * d' + n') * (d' * g) ≡ (q * (d' * g) + n' * g) * d'
    go q n' d' g = grind arith

pub lowered : (s n d g : ℕ) → n < d → CommonDivisor n d g → Lowered s n d (n / g) (d / g)
lowered s n d g h c =
    let gp : 0 < g = divisor_pos n d g (omega arith) c in
    let en : n / g * g ≡ n = div-mul_cancel g c.divides_first in
    let ed : d / g * g ≡ d = div-mul_cancel g c.divides_second in
    let l = lowers (ratio n d) (omega arith) in
    record {
      below = ⊎_elim (λ k. k) (λ k. absurd (omega (arith, mul-le-mul_right g k))) (cases_lt (n / g) (d / g));
      coprime = subst (λ x. Coprime (n / x) (d / x)) (sym c.value) l.1;
      smaller = div-le_self d g;
      nothing = λ z. omega (arith, div-le_self n g);
      same = same_value s (n / g) (d / g) g n d en ed;
    }

-- ---- what is accepted
pub accepted : (s n d : ℕ) → 0 < d → d ≤ 1000 → n < d → s ≤ 16777216 → (s ≡ 16777216 → n ≡ 0) → instant_refusal s n d ≡ None
accepted s n d p q h b l = grind (arith, nat_tests)

-- ---- a value has one instant
-- whole seconds and a fraction in lowest terms make one fraction in lowest terms
reduced_whole : (s n d : ℕ) → n < d → Coprime n d → Reduced (whole_and s n d)
reduced_whole s n d b l k h e =
    let p : k ∣ (s * d + n) % d = (dvd-mod_iff k e).1 h in
    l k (subst (λ x. k ∣ x) (mul-add-mod_self_right s d n ∙ mod-eq_of_lt b) p) e

parts : (s n t m d : ℕ) → n < d → m < d → s * d + n ≡ t * d + m → (s ≡ t) × (n ≡ m)
parts s n t m d h k e =
    ⊎_elim
    (λ i. (i, omega (arith, ap (λ x. x * d) i)))
    (⊎_elim
    (λ (l : s < t). absurd (omega (arith, mul-le-mul_right {m = s + 1} {n = t} d (omega arith), add-mul s 1 d)))
    (λ (l : t < s). absurd (omega (arith, mul-le-mul_right {m = t + 1} {n = s} d (omega arith), add-mul t 1 d))))
    (cases_order s t)

-- of two that are equal the three numbers are
one_whole : (s n d t m e : ℕ) → n < d → m < e → Coprime n d → Coprime m e → whole_and s n d =ᵗ whole_and t m e → (s ≡ t) × (n ≡ m) × (d ≡ e)
one_whole s n d t m e p q cn cm eq =
    let f = one_form (whole_and s n d) (whole_and t m e) (omega arith) (omega arith) (reduced_whole s n d p cn) (reduced_whole t m e q cm) eq in
    let de : d ≡ e = ap (λ t. t.den) f in
    let k : s * d + n ≡ t * e + m = ap (λ t. t.num) f in
    let r = parts s n t m d p (omega arith) (k ∙ ap (λ x. t * x + m) (sym de)) in
    (r.0, r.1, de)

pub one_instant : (a b : Instant) → value a =ᵗ value b → SameNumbers a b
one_instant a b e = one_whole a.seconds a.numerator a.denominator b.seconds b.numerator b.denominator a.below b.below a.lowest b.lowest e

-- two stamps below one in lowest terms with equal values are one
pub one_stamp : (a b : Stamp) → BelowOne a → BelowOne b → Coprime a.numerator (den a) → Coprime b.numerator (den b) → time_of a =ᵗ time_of b → a ≡ b
one_stamp a b p q ca cb e =
    let r = one_whole a.seconds a.numerator (den a) b.seconds b.numerator (den b) p q ca cb e in
    same_stamp a.seconds a.numerator a.denominator_less_one b.seconds b.numerator b.denominator_less_one r.0 r.1 (omega (arith, r.2))
  where
    same_stamp : (s n d t m e : ℕ) → s ≡ t → n ≡ m → d ≡ e → ◌≡◌ {A = Stamp} (record { seconds = s; numerator = n; denominator_less_one = d }) (record { seconds = t; numerator = m; denominator_less_one = e })
    same_stamp s n d t m e a b c = rw (a, b, c)

same_times : (a b : Instant) → SameNumbers a b → value a =ᵗ value b
same_times a b s =
    let t : value a ≡ value b =
    ap (λ x. whole_and x a.numerator a.denominator) s.0 ∙ ap (λ x. whole_and b.seconds x a.denominator) s.1 ∙ ap (whole_and b.seconds b.numerator) s.2 in
    ap (λ x. x.num * (value b).den) t ∙ ap (λ x. (value b).num * x.den) (sym t)

-- the three numbers compared, as the derived equality does
same_tests : (s n d t m e : ℕ) (r : Bool) → r ≡ (s == t && (n == m && d == e)) → Decides r ((s ≡ t) × (n ≡ m) × (d ≡ e))
same_tests s n d t m e r h = (
  (λ y. (grind (arith, nat_tests), grind (arith, nat_tests), grind (arith, nat_tests))),
  (λ p. let a = p.0 in let b = p.1 in let c = p.2 in grind (arith, nat_tests)),
)

pub told_same : (a b : Instant) (r : Bool) → r ≡ (a.seconds == b.seconds && (a.numerator == b.numerator && a.denominator == b.denominator)) → SameInstant a b r
told_same a b r h =
    let d : Decides r (SameNumbers a b) = same_tests a.seconds a.numerator a.denominator b.seconds b.numerator b.denominator r h in
    record {
      by_value = Decides-like r (same_times a b) (one_instant a b) d;
      by_numbers = d;
      one_form = one_instant a b;
    }

-- ---- the order of instants is the order of time
less_yes : (s t x y : ℕ) → is_lt (ordering_then (nat_cmp s t) (nat_cmp x y)) ≡ true → (s < t) ⊎ ((s ≡ t) × (x < y))
less_yes s t x y e =
    ⊎_elim (λ i. inr (i, grind (arith, nat_tests))) (⊎_elim (λ l. inl l) (λ l. absurd (grind (arith, nat_tests)))) (cases_order s t)

less_no : (s t x y : ℕ) → is_lt (ordering_then (nat_cmp s t) (nat_cmp x y)) ≡ false → (t ≤ s) × (s ≡ t → y ≤ x)
less_no s t x y e = (grind (arith, nat_tests), λ h. grind (arith, nat_tests))

earlier_by : (a b : Instant) → Decides (is_lt (time_order a b)) (value a <ᵗ value b)
earlier_by a b =
    let p : a.numerator < a.denominator = a.below in
    let q : b.numerator < b.denominator = b.below in (
      (λ e.
          crossed_lt a.seconds a.numerator a.denominator b.seconds b.numerator b.denominator p (omega arith)
          (less_yes a.seconds b.seconds (a.numerator * b.denominator) (b.numerator * a.denominator) e)),
      (λ h. ⊎_elim (λ e. e)
          (λ e.
          let n = less_no a.seconds b.seconds (a.numerator * b.denominator) (b.numerator * a.denominator) e in
          let k = crossed b.seconds b.numerator b.denominator a.seconds a.numerator a.denominator q n.0 n.1 in
          absurd (omega arith))
          (cases_Bool (is_lt (time_order a b)))),
    )

pub told_before : (a b : Instant) (r : Bool) → r ≡ is_lt (time_order a b) → Decides r (value a <ᵗ value b)
told_before a b r e = Decides-at r (is_lt (time_order a b)) e (earlier_by a b)

-- ---- an instant as a stamp
pub stamp_time : (i : Instant) → time_of (stamp_of i) ≡ value i
stamp_time i =
    let b : i.numerator < i.denominator = i.below in
    let e : i.denominator - 1 + 1 ≡ i.denominator = omega arith in
    ap (whole_and i.seconds i.numerator) e

pub stamp_below : (i : Instant) → BelowOne (stamp_of i)
stamp_below i = let b : i.numerator < i.denominator = i.below in omega arith

pub stamp_lowest : (i : Instant) → Coprime (stamp_of i).numerator (den (stamp_of i))
stamp_lowest i =
    let b : i.numerator < i.denominator = i.below in
    let e : i.denominator ≡ i.denominator - 1 + 1 = omega arith in
    subst (Coprime i.numerator) e i.lowest
