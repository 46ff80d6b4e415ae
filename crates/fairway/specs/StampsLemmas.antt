-- The comparison of stamps: a total order, which agrees with the order of time.
use Rattle.std.specs.Prelude.{◌≡◌, ℕ, ◌+◌, ◌*◌, ◌<◌, ◌≤◌, Bool, true, false, ◌&&◌, ◌||◌, ◌⊎◌, ◌≢◌, ◌==◌, nat_lt}
use Rattle.std.proofs.Common.{sym, inl, inr, ⊎_elim, add-mul, mul_right_comm, mul-le-mul_right, le_of_mul-le-mul_right, mul-lt-mul_of_pos_right, arith}
use Rattle.std.proofs.lemmas.Bool.Decides.{nat_tests, Decides-at}
use Rattle.std.proofs.lemmas.Bool.{cases_order, cases_Bool}
use Rattle.fairway.specs.Times.{Proper, ◌≤ᵗ◌, ◌<ᵗ◌}
use Rattle.std.specs.Bool.{Decides}
use Rattle.fairway.specs.Stamps.{den, time_of, BelowOne, earlier, Compared}
use Rattle.fairway.specs.declared.stamp.Stamp.{Stamp}

pub proper : (t : Stamp) → Proper (time_of t)
proper t = omega arith

-- ---- the test, taken apart
tests_from : (a b c d : ℕ) → (nat_lt a b || (a == b && nat_lt c d)) ≡ false → (b ≤ a) × (a ≡ b → d ≤ c)
tests_from a b c d e = (grind (arith, nat_tests), λ h. grind (arith, nat_tests))

tests_to : (a b c d : ℕ) → b ≤ a → (a ≡ b → d ≤ c) → (nat_lt a b || (a == b && nat_lt c d)) ≡ false
tests_to a b c d h k = grind (arith, nat_tests)

tests_yes : (a b c d : ℕ) → (nat_lt a b || (a == b && nat_lt c d)) ≡ true → (a < b) ⊎ ((a ≡ b) × (c < d))
tests_yes a b c d e =
    ⊎_elim (λ i. inr (i, grind (arith, nat_tests))) (⊎_elim (λ l. inl l) (λ l. absurd (grind (arith, nat_tests)))) (cases_order a b)

pub late_from : (x y : Stamp) → earlier x y ≡ false → (y.seconds ≤ x.seconds) × (x.seconds ≡ y.seconds → y.numerator * den x ≤ x.numerator * den y)
unfolding earlier
late_from x y e = tests_from x.seconds y.seconds (x.numerator * den y) (y.numerator * den x) e

pub late_to : (x y : Stamp) → y.seconds ≤ x.seconds → (x.seconds ≡ y.seconds → y.numerator * den x ≤ x.numerator * den y) → earlier x y ≡ false
unfolding earlier
late_to x y h k = tests_to x.seconds y.seconds (x.numerator * den y) (y.numerator * den x) h k

pub early_from : (x y : Stamp) → earlier x y ≡ true → (x.seconds < y.seconds) ⊎ ((x.seconds ≡ y.seconds) × (x.numerator * den y < y.numerator * den x))
unfolding earlier
early_from x y e = tests_yes x.seconds y.seconds (x.numerator * den y) (y.numerator * den x) e

-- by whole seconds where they differ, and else by the products
pub by_seconds : (x y : Stamp) → (x.seconds ≢ y.seconds) → nat_lt x.seconds y.seconds ≡ earlier x y
unfolding earlier
by_seconds x y n = go x.seconds y.seconds (nat_lt (x.numerator * den y) (y.numerator * den x)) n
  where
    go : (a b : ℕ) (t : Bool) → (a ≢ b) → nat_lt a b ≡ (nat_lt a b || (a == b && t))
    go a b t n = grind (arith, nat_tests)

pub by_fraction : (x y : Stamp) → x.seconds ≡ y.seconds → nat_lt (x.numerator * den y) (y.numerator * den x) ≡ earlier x y
unfolding earlier
by_fraction x y e = go x.seconds y.seconds (nat_lt (x.numerator * den y) (y.numerator * den x)) e
  where
    go : (a b : ℕ) (t : Bool) → a ≡ b → t ≡ (nat_lt a b || (a == b && t))
    go a b t n = grind (arith, nat_tests)

-- ---- the laws of a key kind
pub asymmetric : (a b : Stamp) → earlier a b ≡ true → earlier b a ≡ false
asymmetric a b e = late_to b a (⊎_elim (λ h. omega arith) (λ h. omega arith) (early_from a b e)) (λ s. ⊎_elim (λ h. absurd (omega arith)) (λ h. omega arith) (early_from a b e))

cross : (an ad bn bd cn cd : ℕ) → 0 < bd → an * bd ≤ bn * ad → bn * cd ≤ cn * bd → an * cd ≤ cn * ad
cross an ad bn bd cn cd p h k =
    let one : an * bd * cd ≤ bn * ad * cd = mul-le-mul_right cd h in
    let two : bn * cd * ad ≤ cn * bd * ad = mul-le-mul_right ad k in
    let all : (an * cd) * bd ≤ (cn * ad) * bd = grind arith in
    le_of_mul-le-mul_right all p

pub carries : (a b c : Stamp) → earlier b a ≡ false → earlier c b ≡ false → earlier c a ≡ false
carries a b c e f =
    let h = late_from b a e in
    let k = late_from c b f in
    late_to c a (omega arith) (λ same.
    let p : b.seconds ≡ a.seconds = omega arith in
    let q : c.seconds ≡ b.seconds = omega arith in
    cross a.numerator (den a) b.numerator (den b) c.numerator (den c) (omega arith) (h.1 p) (k.1 q))

-- ---- seconds first and then the fraction, as one fraction
pub crossed : (ts tn td us un ud : ℕ) → tn < td → ts ≤ us → (us ≡ ts → tn * ud ≤ un * td) → (ts * td + tn) * ud ≤ (us * ud + un) * td
crossed ts tn td us un ud p h k =
    ⊎_elim (λ e. let a = k (sym e) in rw e (grind arith))
    (⊎_elim
    (λ (l : ts < us). let a : (ts + 1) * td * ud ≤ us * td * ud = mul-le-mul_right ud (mul-le-mul_right td (omega arith)) in
    let b : tn * ud ≤ td * ud = mul-le-mul_right ud (omega arith) in
    grind arith)
    (λ (l : us < ts). absurd (omega arith)))
    (cases_order ts us)

pub not_later : (t u : Stamp) → BelowOne t → earlier u t ≡ false → time_of t ≤ᵗ time_of u
not_later t u p e =
    let k = late_from u t e in
    crossed t.seconds t.numerator (den t) u.seconds u.numerator (den u) p k.0 k.1

pub crossed_lt : (ts tn td us un ud : ℕ) → tn < td → 0 < ud → (ts < us) ⊎ ((ts ≡ us) × (tn * ud < un * td)) → (ts * td + tn) * ud < (us * ud + un) * td
crossed_lt ts tn td us un ud p pu (inl l) =
    let a : (ts * td + tn) < us * td = omega (arith, mul-le-mul_right {m = ts + 1} {n = us} td (omega arith), add-mul ts 1 td) in
    let b : (ts * td + tn) * ud < us * td * ud = mul-lt-mul_of_pos_right a pu in
    rw (add-mul (us * ud) un td, mul_right_comm us ud td) (omega arith)
crossed_lt ts tn td us un ud p pu (inr (e, h)) =
    rw (add-mul (ts * td) tn ud, add-mul (us * ud) un td, mul_right_comm us ud td, ← e) (omega arith)

pub sooner : (t u : Stamp) → BelowOne t → earlier t u ≡ true → time_of t <ᵗ time_of u
sooner t u p e = crossed_lt t.seconds t.numerator (den t) u.seconds u.numerator (den u) p (omega arith) (early_from t u e)

pub agrees : (a b : Stamp) → BelowOne a → BelowOne b → Decides (earlier a b) (time_of a <ᵗ time_of b)
agrees a b pa pb = (
  sooner a b pa,
  (λ h. ⊎_elim (λ e. e) (λ e. let k = not_later b a pb e in absurd (omega arith)) (cases_Bool (earlier a b))),
)

pub compared : (a b : Stamp) (r : Bool) → r ≡ earlier a b → Compared a b r
compared a b r e = record { value = e; in_time = λ pa pb. Decides-at r (earlier a b) e (agrees a b pa pb) }
