-- The laws of a kinetic structure, for lists of courses.
use Rattle.std.specs.Prelude.{◌≡◌, ℕ, zero, suc, ◌<◌, ◌≤◌, true, cond, List, [], ◌∷◌, length, Some, refl}
use Rattle.std.proofs.Common.{sym, ap, subst, ◌∙◌, ⊎_elim, arith}
use Rattle.std.proofs.lemmas.Bool.{cond-true}
use Rattle.std.proofs.lemmas.List.Sums.{sum_by-cons}
use Rattle.event_queue.proofs.Options.{none_some, some_same}
use Rattle.fairway.specs.Times.{Time, Proper, ◌≤ᵗ◌}
use Rattle.fairway.specs.Courses.{Due, faster}
use Rattle.fairway.specs.Orders.{Sorted, load}
use Rattle.fairway.specs.Standing.{Stands, InOrderOrDue, NotLevelBefore}
use Rattle.fairway.specs.declared.course.Course.{Course}
use Rattle.fairway.proofs.Advance.{due_faster}
use Rattle.fairway.proofs.Loads.{load_cons}
use Rattle.fairway.proofs.Sorting.{held}
use Rattle.fairway.proofs.Standings.{near, stands_sorted, stands_later, sorted_stands, sorted_none_due}
use Rattle.fairway.specs.Rosters.{course_of}
use Rattle.fairway.proofs.Rosters.{found, of_found}
use Rattle.kinetic.specs.Structures.{Aboard, Front, vessels}
use Rattle.kinetic.proofs.Counts.{vessels_listed}
use Rattle.sorted_list.specs.Rosters.{last_number, last_of, well}
use Rattle.sorted_list.specs.RostersLemmas.{Fits, cert_near, near_cert, cert_holds, holds_last, behind_last, well_ranged, well_apart}
use Rattle.sorted_list.specs.Rosters.{certificate_at}

module _ (xs : List Course) where
  -- P of each two neighbours
  abbrev pub Each : (Course → Course → Type 0) → Type 0
  Each P = (i : ℕ) (r f : Course) → certificate_at xs i ≡ Some (r, f) → P r f

  pub ordered : (t : Time) → Stands t xs → Each (InOrderOrDue t)
  ordered t s = cert_near (InOrderOrDue t) xs (near t xs s)

  -- standing with none due: sorted, and back
  pub rests_sorted : (t : Time) → Stands t xs → Each (λ r f. Due t r f → ⊥) → Sorted t xs
  rests_sorted t s n = stands_sorted t xs s (near_cert (λ r f. Due t r f → ⊥) xs n)

  pub sorted_rests : (t : Time) → Sorted t xs → Stands t xs × Each (λ r f. Due t r f → ⊥)
  sorted_rests t s = (sorted_stands t xs s, cert_near (λ r f. Due t r f → ⊥) xs (sorted_none_due t xs s))

  pub lasts : (t u : Time) → Proper t → Proper u → t ≤ᵗ u → Stands t xs → Each (NotLevelBefore u) → Stands u xs
  lasts t u pt pu l s n = stands_later t u pt pu l xs s (near_cert (NotLevelBefore u) xs n)

  pub certified : length xs ≤ 64 → well xs ≡ true → (i : ℕ) (r f : Course) → certificate_at xs i ≡ Some (r, f) → (i < 64) × (course_of xs r.number ≡ Some r) × (course_of xs f.number ≡ Some f)
  certified l w i r f e =
      let k = cert_holds xs i r f e in
      let a = well_apart xs w in
      (omega (arith, k.0), found xs r a k.1, found xs f a k.2)

  pub listed : well xs ≡ true → (n : ℕ) (c : Course) → course_of xs n ≡ Some c → Aboard n c
  listed w n c e =
      let k = of_found xs n c e in
      let f = held Fits xs c (well_ranged xs w) k.0 in
      record { number = k.1; fits = subst (λ z. z < 65536) k.1 f.number; in_range = f.in_range }

pub front : (t : Time) (xs : List Course) → well xs ≡ true → Sorted t xs → Front t (course_of xs) (last_number xs)
front t [] w s = λ n. refl
front t (x ∷ xs) w s =
    let v = last_of x xs in (
      v,
      found (x ∷ xs) v (well_apart (x ∷ xs) w) (holds_last x xs),
      (λ n d ne e.
          let k = of_found (x ∷ xs) n d e in
          ⊎_elim (λ q. absurd (ne (sym k.1 ∙ ap (λ z. z.number) q))) (λ b. b) (behind_last t x xs s d k.0)),
    )

pub counted : (xs : List Course) → well xs ≡ true → length xs ≡ vessels (course_of xs)
counted xs w = vessels_listed {P = Fits} (λ c f. f.number) xs (well_apart xs w) (well_ranged xs w)

-- neighbours that are due are a pair whose rear is the faster
pub loaded : (t : Time) (xs : List Course) (i : ℕ) (r f : Course) → certificate_at xs i ≡ Some (r, f) → Due t r f → 0 < load xs
loaded t [] i r f e d = absurd (none_some e)
loaded t (x ∷ []) i r f e d = absurd (none_some e)
loaded t (x ∷ y ∷ ys) zero r f e d =
    let one = cond-true {A = ℕ} (faster x y) 1 0 (ap (λ z. faster z.0 z.1) (some_same e) ∙ due_faster t r f d) in
    omega (arith, load_cons x (y ∷ ys), sum_by-cons (λ z. cond (faster x z) 1 0) y ys, one)
loaded t (x ∷ y ∷ ys) (suc i) r f e d = omega (arith, load_cons x (y ∷ ys), loaded t (y ∷ ys) i r f e d)
