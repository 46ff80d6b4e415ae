-- A list that stands.
use Rattle.std.proofs.Common.{◌≡◌, true, List, ◌≤ℤ◌, inl, inr, ⊎_elim, arith}
use Rattle.std.proofs.lemmas.Int.{ints, by_lt_z}
use Rattle.std.proofs.lemmas.Bool.{cases_Bool, both_ways}
use Rattle.fairway.specs.Times.{Time, Proper, ◌≤ᵗ◌}
use Rattle.fairway.specs.Courses.{place, faster, Due}
use Rattle.fairway.specs.Behind.{behind}
use Rattle.fairway.specs.declared.course.Course.{Course}
use Rattle.fairway.specs.Pairwise.{Pairwise}
use Rattle.fairway.specs.Orders.{Sorted}
use Rattle.fairway.specs.Standing.{InOrderOrDue, Stands, Neighbours, NotLevelBefore, StandsSorted, StandsLater, StandsMended}
pub use Rattle.fairway.proofs.Pairwise.{all_exchange}
use Rattle.fairway.proofs.Pairwise.{pairwise_exchange, pairwise_near, near_pairwise, pairwise_both, near_both, pairwise_weaker}
use Rattle.fairway.proofs.Laws.{transitive, lesser_behind}
use Rattle.fairway.proofs.Kinetic.{passes, stays, sub_mul}
use Rattle.fairway.proofs.Sorting.{back}

-- neighbours in order: all in order
pub chain : (t : Time) (xs : List Course) → Neighbours (λ r f. behind t r f ≡ true) xs → Sorted t xs
chain t = near_pairwise (λ r f. behind t r f ≡ true) (transitive t)

-- every two in order or due, or in order: so are neighbours
pub near : (t : Time) (xs : List Course) → Stands t xs → Neighbours (InOrderOrDue t) xs
near t = pairwise_near (InOrderOrDue t)

pub sorted_near : (t : Time) (xs : List Course) → Sorted t xs → Neighbours (λ r f. behind t r f ≡ true) xs
sorted_near t = pairwise_near (λ r f. behind t r f ≡ true)

pub stands_sorted : StandsSorted
stands_sorted t xs s n =
    chain t xs (near_both (InOrderOrDue t) (λ r f. Due t r f → ⊥) (λ r f. behind t r f ≡ true) (λ r f h k. ⊎_elim (λ b. b) (λ d. absurd (k d)) h) xs (near t xs s) n)

-- ---- mends
pub due_back : (t : Time) (r f : Course) → Due t r f → behind t f r ≡ true
due_back t r f d =
    let F : faster r f ≡ true = grind (arith, ints) in
    (passes t r f F).3 (omega (arith, ints, d.0, sub_mul r.speed f.speed t.num, sub_mul f.base r.base t.den))

-- whoever is behind is not past the other
pub behind_place : (t : Time) (r f : Course) → behind t r f ≡ true → place t r ≤ℤ place t f
behind_place t r f b = by_lt_z (place t f) (place t r) (λ h. absurd (both_ways (behind t f r) (back t r f b) (lesser_behind t f r h))) (λ h. h)

pub stands_mended : StandsMended
stands_mended t r f xs ys s d e = pairwise_exchange (InOrderOrDue t) (λ _. inl (due_back t r f d)) e s

-- ---- later
module _ (t u : Time) (pt : Proper t) (pu : Proper u) (later : t ≤ᵗ u) where
  -- neighbours are not past each other at u
  not_past : (r f : Course) → InOrderOrDue t r f → NotLevelBefore u r f → place u r ≤ℤ place u f
  not_past r f h n =
      ⊎_elim
      (λ F. omega (arith, ints, n F, sub_mul r.speed f.speed u.num, sub_mul f.base r.base u.den))
      (λ S. ⊎_elim (λ b. behind_place u r f (stays r f S t u pt pu later b)) (λ d. absurd (grind (arith, ints))) h)
      (cases_Bool (faster r f))

  one_of : (x y : Course) → InOrderOrDue t x y → place u x ≤ℤ place u y → InOrderOrDue u x y
  one_of x y h l =
      ⊎_elim
      (λ F. by_lt_z (place u x) (place u y) (λ k. inl (lesser_behind u x y k)) (λ k. inr (omega (arith, ints), omega (arith, ints))))
      (λ S. ⊎_elim (λ b. inl (stays x y S t u pt pu later b)) (λ d. absurd (grind (arith, ints))) h)
      (cases_Bool (faster x y))

pub stands_later : StandsLater
stands_later t u pt pu later xs s n =
    let NotPast : Course → Course → Type 0 = λ r f. place u r ≤ℤ place u f in
    let near_rise : Neighbours NotPast xs = near_both (InOrderOrDue t) (NotLevelBefore u) NotPast (not_past t u pt pu later) xs (near t xs s) n in
    let rise : Pairwise NotPast xs = near_pairwise NotPast (λ x y z h k. omega (arith, ints)) xs near_rise in
    pairwise_both (InOrderOrDue t) NotPast (InOrderOrDue u) (one_of t u pt pu later) xs s rise

-- a sorted list stands, and none is due
pub not_due : (t : Time) (r f : Course) → behind t r f ≡ true → Due t r f → ⊥
not_due t r f b d = both_ways (behind t f r) (back t r f b) (due_back t r f d)

pub sorted_stands : (t : Time) (xs : List Course) → Sorted t xs → Stands t xs
sorted_stands t = pairwise_weaker (λ r f. behind t r f ≡ true) (InOrderOrDue t) (λ r f b. inl b)

pub sorted_none_due : (t : Time) (xs : List Course) → Sorted t xs → Neighbours (λ r f. Due t r f → ⊥) xs
sorted_none_due t xs s =
    let NotDue : Course → Course → Type 0 = λ r f. Due t r f → ⊥ in
    pairwise_near NotDue xs (pairwise_weaker (λ r f. behind t r f ≡ true) NotDue (not_due t) xs s)

-- one pair alone: what a match of a tournament needs
pub pair_lasts : (t u : Time) → Proper t → Proper u → t ≤ᵗ u → (r f : Course) → InOrderOrDue t r f → NotLevelBefore u r f → InOrderOrDue u r f
pair_lasts t u pt pu l r f h n = one_of t u pt pu l r f h (not_past t u pt pu l r f h n)
