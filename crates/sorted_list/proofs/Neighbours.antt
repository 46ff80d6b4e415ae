-- Neighbours in a list that is in order.
use Rattle.std.proofs.Common.{◌≡◌, ℕ, zero, suc, ◌+◌, ◌-◌, ◌<◌, ◌≤◌, true, false, List, [], ◌∷◌, length, get_or, slice_get, Some, None, Option, sym, refl, ap, ◌∙◌, subst, inl, inr, ⊎_elim, arith}
use Rattle.std.proofs.lemmas.Option.{slice_get-get_or, slice_get_past}
use Rattle.std.proofs.lemmas.Bool.{cases_lt, cases_order, both_ways}
use Rattle.fairway.specs.Times.{Time}
use Rattle.fairway.specs.Behind.{behind}
use Rattle.fairway.specs.Orders.{Holds, Sorted}
use Rattle.fairway.specs.declared.course.Course.{Course}
use Rattle.kinetic.specs.Structures.{vessel_refusal, Rests}
use Rattle.fairway.specs.Courses.{Due}
use Rattle.fairway.specs.Standing.{Stands}
use Rattle.fairway.proofs.Pairwise.{pairwise_at}
use Rattle.fairway.proofs.Sorting.{self, back}
use Rattle.fairway.proofs.Lists.{nobody}
use Rattle.fairway.specs.Rosters.{course_of}
use Rattle.fairway.proofs.Rosters.{found, of_found}
use Rattle.sorted_list.specs.Questions.{courses_of, means, Beside}
use Rattle.sorted_list.specs.Rosters.{well}
use Rattle.sorted_list.specs.declared.list.SortedList.{SortedList}
use Rattle.sorted_list.specs.Ranks.{Next, NextAhead, NextBehind}
use Rattle.event_queue.proofs.Options.{some_same}
use Rattle.sorted_list.specs.RostersLemmas.{well_apart}
use Rattle.sorted_list.specs.Laws.{Each, rests_sorted}
use Rattle.sorted_list.proofs.Beside.{rear, rear_none, rear_some}

-- the place of each that the list holds
pub place_in : (xs : List Course) (c d : Course) → Holds xs c → (j : ℕ) × (j < length xs) × (get_or xs j d ≡ c)
place_in [] c d h = absurd h
place_in (x ∷ xs) c d (inl e) = (0, omega arith, e)
place_in (x ∷ xs) c d (inr h) = let p = place_in xs c d h in (suc p.0, omega (arith, p.1), p.2)

pub holds_at : (xs : List Course) (i : ℕ) (d : Course) → i < length xs → Holds xs (get_or xs i d)
holds_at [] i d h = absurd (omega arith)
holds_at (x ∷ xs) zero d h = inl refl
holds_at (x ∷ xs) (suc i) d h = inr (holds_at xs i d (omega arith))

module _ (t : Time) where
  sorted_at : (xs : List Course) (i j : ℕ) (d : Course) → Sorted t xs → i < j → j < length xs → behind t (get_or xs i d) (get_or xs j d) ≡ true
  sorted_at = pairwise_at (λ x y. behind t x y ≡ true)

  -- who is behind whom tells the places
  places : (xs : List Course) (i j : ℕ) (d : Course) → Sorted t xs → i < length xs → j < length xs → behind t (get_or xs i d) (get_or xs j d) ≡ true → i < j
  places xs i j d s hi hj b =
      ⊎_elim
      (λ e. absurd (both_ways (behind t (get_or xs i d) (get_or xs j d)) (subst (λ k. behind t (get_or xs i d) (get_or xs k d) ≡ false) e (self t (get_or xs i d))) b))
      (⊎_elim (λ l. l) (λ l. absurd (both_ways (behind t (get_or xs i d) (get_or xs j d)) (back t (get_or xs j d) (get_or xs i d) (sorted_at xs j i d s l hi)) b)))
      (cases_order i j)

  module _ (xs : List Course) (w : well xs ≡ true) (s : Sorted t xs) (d : Course) where
    -- a vessel of the roster by its place
    at_place : (n : ℕ) (c : Course) → course_of xs n ≡ Some c → (j : ℕ) × (j < length xs) × (get_or xs j d ≡ c)
    at_place n c e = place_in xs c d (of_found xs n c e).0

    aboard : (i : ℕ) → i < length xs → course_of xs (get_or xs i d).number ≡ Some (get_or xs i d)
    aboard i h = found xs (get_or xs i d) (well_apart xs w) (holds_at xs i d h)

    next : (i : ℕ) → i + 1 < length xs → Next t (course_of xs) (get_or xs i d) (get_or xs (i + 1) d)
    next i h =
        record {
          in_order = sorted_at xs i (i + 1) d s (omega arith) h;
          none_between = λ n c e a b.
              let p = at_place n c e in
              let j = p.0 in
              let x = places xs i j d s (omega arith) p.1 (subst (λ z. behind t (get_or xs i d) z ≡ true) (sym p.2) a) in
              let y = places xs j (i + 1) d s p.1 h (subst (λ z. behind t z (get_or xs (i + 1) d) ≡ true) (sym p.2) b) in
              omega arith;
        }

    pub next_ahead : (i : ℕ) (c : Course) → i + 1 < length xs → get_or xs i d ≡ c → NextAhead t (course_of xs) c (Some (get_or xs (i + 1) d))
    next_ahead i c h e = (aboard (i + 1) h, subst (λ z. Next t (course_of xs) z (get_or xs (i + 1) d)) e (next i h))

    pub none_ahead : (i : ℕ) (c : Course) → i < length xs → length xs ≤ i + 1 → get_or xs i d ≡ c → NextAhead t (course_of xs) c None
    none_ahead i c h l e n k q b =
        let p = at_place n k q in
        let x = places xs i p.0 d s h p.1 (subst (λ z. behind t z (get_or xs p.0 d) ≡ true) (sym e) (subst (λ z. behind t c z ≡ true) (sym p.2) b)) in
        omega (arith, p.1)

    pub next_behind : (i : ℕ) (c : Course) → 0 < i → i < length xs → get_or xs i d ≡ c → NextBehind t (course_of xs) c (Some (get_or xs (i - 1) d))
    next_behind i c z h e =
        let q : i - 1 + 1 ≡ i = omega arith in
        (aboard (i - 1) (omega arith), subst (Next t (course_of xs) (get_or xs (i - 1) d)) (ap (λ k. get_or xs k d) q ∙ e) (next (i - 1) (omega arith)))

    pub none_behind : (c : Course) → 0 < length xs → get_or xs 0 d ≡ c → NextBehind t (course_of xs) c None
    none_behind c h e n k q b =
        let p = at_place n k q in
        let x = places xs p.0 0 d s p.1 h (subst (λ z. behind t (get_or xs p.0 d) z ≡ true) (sym e) (subst (λ z. behind t z c ≡ true) (sym p.2) b)) in
        omega arith

-- ---- what the questions answer, for the vessel n at the place i
module _ (xs : List Course) (w : well xs ≡ true) (n i : ℕ) (h : i < length xs) (own : (d : Course) → course_of xs n ≡ Some (get_or xs i d)) where
  at_own : (c : Course) → course_of xs n ≡ Some c → get_or xs i nobody ≡ c
  at_own c e = some_same (sym (own nobody) ∙ e)

  abbrev Resting : Time → Type 0
  Resting t = Stands t xs × Each xs (λ r f. Due t r f → ⊥)

  -- the one at the next place is next in front
  pub next_in_front : (c : Course) → course_of xs n ≡ Some c → (t : Time) → Resting t → NextAhead t (course_of xs) c (slice_get xs (i + 1))
  next_in_front c q t r =
      let s = rests_sorted xs t r.0 r.1 in
      ⊎_elim
      (λ (l : i + 1 < length xs). subst (NextAhead t (course_of xs) c) (sym (slice_get-get_or xs (i + 1) nobody l)) (next_ahead t xs w s nobody i c l (at_own c q)))
      (λ (l : length xs ≤ i + 1). subst (NextAhead t (course_of xs) c) (sym (slice_get_past xs (i + 1) l)) (none_ahead t xs w s nobody i c h l (at_own c q)))
      (cases_lt (i + 1) (length xs))

  -- the last before its place is next behind
  pub next_behind_it : (c : Course) → course_of xs n ≡ Some c → (t : Time) → Resting t → NextBehind t (course_of xs) c (rear xs i)
  next_behind_it c q t r =
      let s = rests_sorted xs t r.0 r.1 in
      ⊎_elim
      (λ (z : 0 < i). subst (NextBehind t (course_of xs) c) (sym (rear_some xs i z h ∙ slice_get-get_or xs (i - 1) nobody (omega arith))) (next_behind t xs w s nobody i c z h (at_own c q)))
      (λ (z : i ≤ 0). let e : 0 ≡ i = omega arith in subst (NextBehind t (course_of xs) c) (sym (rear_none xs i z)) (none_behind t xs w s nobody c (omega arith) (ap (λ k. get_or xs k nobody) e ∙ at_own c q)))
      (cases_lt 0 i)

-- the answer is the course o, which stands beside the vessel n and is its neighbour while the list rests
pub beside : (s : SortedList) (n : ℕ) (N : Time → (ℕ → Option Course) → Course → Option Course → Type 0) {answer o neighbour : Option Course} →
    vessel_refusal means s n ≡ None → answer ≡ o → o ≡ neighbour →
    ((c : Course) → course_of (courses_of s) n ≡ Some c → (t : Time) → Rests means t s → N t (course_of (courses_of s)) c o) →
    Beside s n neighbour N answer
beside s n N aboard e stands next =
    record { aboard = aboard; value = e ∙ stands; next = λ c q t r. subst (N t (course_of (courses_of s)) c) (sym e) (next c q t r) }
