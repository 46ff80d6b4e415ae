-- Lists of courses as rosters, their neighbours as certificates.
use Rattle.std.specs.Prelude.{◌≡◌, ℕ, zero, suc, ◌<◌, ◌≤◌, true, ◌&&◌, ◌≢◌, ◌⊎◌, List, [], ◌∷◌, length, Some, None, slice_index_or, refl}
use Rattle.std.proofs.Common.{sym, ap, subst, inl, inr, arith}
use Rattle.std.specs.List.{AllByRecursion}
use Rattle.std.proofs.lemmas.Bool.Decides.{nat_tests}
use Rattle.std.proofs.lemmas.Bool.{and_from}
use Rattle.event_queue.proofs.Options.{none_some, some_same}
use Rattle.fairway.specs.declared.course.Course.{Course}
use Rattle.fairway.specs.Times.{Time}
use Rattle.fairway.specs.Courses.{InRange}
use Rattle.fairway.specs.Behind.{behind}
use Rattle.fairway.specs.Orders.{Holds, Apart, Sorted}
use Rattle.fairway.specs.Standing.{Neighbours}
use Rattle.fairway.proofs.Sorting.{held}
use Rattle.kinetic.proofs.Tests.{within, of_range}
use Rattle.sorted_list.specs.Rosters.{allowed, fresh, well, last_of}
use Rattle.sorted_list.specs.Rosters.{certificate_at}

-- ---- within limits, apart
-- within its limits, as the code keeps them
pub record Fits (c : Course) : Type 0 where
  pub in_range : InRange c
  pub number : c.number < 65536

to_fits : (c : Course) → allowed c ≡ true → Fits c
to_fits c e = record { in_range = within c (grind (arith, nat_tests)) (grind (arith, nat_tests)); number = grind (arith, nat_tests) }

of_fits : (c : Course) → Fits c → allowed c ≡ true
of_fits c f =
    let r = of_range c f.in_range in
    let n = f.in_range.numbered in
    grind (arith, nat_tests)

pub fresh_all : (n : ℕ) (xs : List Course) → fresh n xs ≡ true → AllByRecursion (λ y. n ≢ y.number) xs
fresh_all n [] e = tt
fresh_all n (y ∷ ys) e = (grind (arith, nat_tests), fresh_all n ys (grind arith))

pub all_fresh : (n : ℕ) (xs : List Course) → AllByRecursion (λ y. n ≢ y.number) xs → fresh n xs ≡ true
all_fresh n [] h = refl
all_fresh n (y ∷ ys) h = let ih = all_fresh n ys h.1 in let o = h.0 in grind (arith, nat_tests)

pub well_ranged : (xs : List Course) → well xs ≡ true → AllByRecursion Fits xs
well_ranged [] e = tt
well_ranged (x ∷ xs) e = (to_fits x (grind arith), well_ranged xs (grind arith))

pub well_apart : (xs : List Course) → well xs ≡ true → Apart xs
well_apart [] e = tt
well_apart (x ∷ xs) e = (fresh_all x.number xs (grind arith), well_apart xs (grind arith))

pub to_well : (xs : List Course) → AllByRecursion Fits xs → Apart xs → well xs ≡ true
to_well [] r a = refl
to_well (x ∷ xs) r a =
    and_from (allowed x && fresh x.number xs) (well xs)
    (and_from (allowed x) (fresh x.number xs) (of_fits x r.0) (all_fresh x.number xs a.0)) (to_well xs r.1 a.1)

-- ---- certificates
pub cert_near : (P : Course → Course → Type 0) (xs : List Course) → Neighbours P xs → (i : ℕ) (r f : Course) → certificate_at xs i ≡ Some (r, f) → P r f
cert_near P [] n i r f e = absurd (none_some e)
cert_near P (x ∷ []) n i r f e = absurd (none_some e)
cert_near P (x ∷ y ∷ ys) n zero r f e =
    let q = some_same e in
    subst (λ z. P z f) (ap (λ z. z.0) q) (subst (P x) (ap (λ z. z.1) q) n.0)
cert_near P (x ∷ y ∷ ys) n (suc i) r f e = cert_near P (y ∷ ys) n.1 i r f e

pub near_cert : (P : Course → Course → Type 0) (xs : List Course) → ((i : ℕ) (r f : Course) → certificate_at xs i ≡ Some (r, f) → P r f) → Neighbours P xs
near_cert P [] h = tt
near_cert P (x ∷ []) h = tt
near_cert P (x ∷ y ∷ ys) h = (h 0 x y refl, near_cert P (y ∷ ys) (λ i r f e. h (suc i) r f e))

pub cert_holds : (xs : List Course) (i : ℕ) (r f : Course) → certificate_at xs i ≡ Some (r, f) → (suc i < length xs) × Holds xs r × Holds xs f
cert_holds [] i r f e = absurd (none_some e)
cert_holds (x ∷ []) i r f e = absurd (none_some e)
cert_holds (x ∷ y ∷ ys) zero r f e = let q = some_same e in (omega arith, inl (ap (λ z. z.0) q), inr (inl (ap (λ z. z.1) q)))
cert_holds (x ∷ y ∷ ys) (suc i) r f e = let k = cert_holds (y ∷ ys) i r f e in (omega (arith, k.0), inr k.1, inr k.2)

pub cert_past : (xs : List Course) (i : ℕ) → length xs ≤ suc i → certificate_at xs i ≡ None
cert_past [] i h = refl
cert_past (x ∷ []) i h = refl
cert_past (x ∷ y ∷ ys) zero h = absurd (omega arith)
cert_past (x ∷ y ∷ ys) (suc i) h = cert_past (y ∷ ys) i (omega arith)

pub cert_is : (xs : List Course) (i : ℕ) (d : Course) → suc i < length xs → certificate_at xs i ≡ Some ((slice_index_or xs i d), (slice_index_or xs (suc i) d))
cert_is [] i d h = absurd (omega arith)
cert_is (x ∷ []) i d h = absurd (omega arith)
cert_is (x ∷ y ∷ ys) zero d h = refl
cert_is (x ∷ y ∷ ys) (suc i) d h = cert_is (y ∷ ys) i d (omega arith)

-- ---- the last
pub holds_last : (x : Course) (xs : List Course) → Holds (x ∷ xs) (last_of x xs)
holds_last x [] = inl refl
holds_last x (y ∷ ys) = inr (holds_last y ys)

pub behind_last : (t : Time) (x : Course) (xs : List Course) → Sorted t (x ∷ xs) → (d : Course) → Holds (x ∷ xs) d → (d ≡ last_of x xs) ⊎ (behind t d (last_of x xs) ≡ true)
behind_last t x [] s d (inl e) = inl (sym e)
behind_last t x [] s d (inr h) = absurd h
behind_last t x (y ∷ ys) s d (inl e) =
    inr (subst (λ z. behind t z (last_of y ys) ≡ true) e (held (λ z. behind t x z ≡ true) (y ∷ ys) (last_of y ys) s.0 (holds_last y ys)))
behind_last t x (y ∷ ys) s d (inr h) = behind_last t y ys s.1 d h

pub last_is : (x : Course) (xs : List Course) (d : Course) → slice_index_or (x ∷ xs) (length xs) d ≡ last_of x xs
last_is x [] d = refl
last_is x (y ∷ ys) d = last_is y ys d
