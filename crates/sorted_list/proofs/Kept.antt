-- One course in the place of another.
use Rattle.std.proofs.Common.{◌≡◌, ℕ, zero, suc, ◌+◌, ◌<◌, ◌≤◌, true, cond, eqb, ◌≢◌, List, [], ◌∷◌, length, get_or, set, Some, None, sym, refl, ap, ◌∙◌, subst, arith}
use Rattle.std.specs.List.{remove, insert, AllByRecursion}
use Rattle.std.proofs.lemmas.Bool.{cond-true, cond-false, eq-eqb, ne_eqb}
use Rattle.std.proofs.lemmas.List.{set-get_or}
use Rattle.std.proofs.lemmas.List.Edits.{length-remove, get_or-remove_below, get_or-remove_above}
use Rattle.fairway.specs.Times.{Time}
use Rattle.fairway.specs.Behind.{behind}
use Rattle.fairway.specs.Orders.{Sorted, put, load}
use Rattle.fairway.specs.Rosters.{course_of, without}
use Rattle.fairway.specs.declared.course.Course.{Course}
use Rattle.fairway.proofs.Laws.{transitive}
use Rattle.fairway.proofs.Pairwise.{all_inserted}
use Rattle.fairway.proofs.Rosters.{of_absent, apart_inserted}
use Rattle.fairway.proofs.Sorting.{back}
use Rattle.sorted_list.specs.Places.{Between}
use Rattle.sorted_list.specs.Rosters.{well}
use Rattle.sorted_list.specs.Loads.{crossed}
use Rattle.sorted_list.specs.LoadsLemmas.{load_inserted}
use Rattle.sorted_list.specs.RostersLemmas.{Fits, well_ranged, well_apart, to_well}
use Rattle.sorted_list.proofs.Changes.{sorted_without}

pub set_at : (xs : List Course) (i : ℕ) (c : Course) → i < length xs → set xs i c ≡ insert (remove xs i) i c
set_at [] i c h = absurd (omega arith)
set_at (x ∷ xs) zero c h = refl
set_at (x ∷ xs) (suc i) c h = ap (λ l. x ∷ l) (set_at xs i c (omega arith))

pub well_at : (xs : List Course) (i : ℕ) (c : Course) → Fits c → course_of xs c.number ≡ None → well xs ≡ true → well (insert xs i c) ≡ true
well_at xs i c f n w =
    to_well (insert xs i c) (all_inserted Fits xs i c f (well_ranged xs w)) (apart_inserted xs i c (of_absent c.number xs n) (well_apart xs w))

there_all : (xs : List Course) (i : ℕ) (c : Course) → AllByRecursion (λ y. c.number ≢ y.number) xs → course_of (insert xs i c) c.number ≡ Some c
there_all [] zero c n = cond-true (eqb c.number c.number) (Some c) None (eq-eqb c.number c.number refl)
there_all [] (suc i) c n = cond-true (eqb c.number c.number) (Some c) None (eq-eqb c.number c.number refl)
there_all (x ∷ xs) zero c n = cond-true (eqb c.number c.number) (Some c) (course_of (x ∷ xs) c.number) (eq-eqb c.number c.number refl)
there_all (x ∷ xs) (suc i) c n =
    cond-false (eqb x.number c.number) (Some x) (course_of (insert xs i c) c.number) (ne_eqb x.number c.number (λ q. n.0 (sym q))) ∙ there_all xs i c n.1

others_at : (xs : List Course) (i : ℕ) (c : Course) (k : ℕ) → (k ≡ c.number → ⊥) → course_of (insert xs i c) k ≡ course_of xs k
others_at [] zero c k ne = cond-false (eqb c.number k) (Some c) None (ne_eqb c.number k (λ q. ne (sym q)))
others_at [] (suc i) c k ne = cond-false (eqb c.number k) (Some c) None (ne_eqb c.number k (λ q. ne (sym q)))
others_at (x ∷ xs) zero c k ne = cond-false (eqb c.number k) (Some c) (course_of (x ∷ xs) k) (ne_eqb c.number k (λ q. ne (sym q)))
others_at (x ∷ xs) (suc i) c k ne = ap (λ o. cond (eqb x.number k) (Some x) o) (others_at xs i c k ne)

-- the roster with one more, wherever it stands
pub roster_at : (c : Course) (xs ys : List Course) (i : ℕ) → course_of xs c.number ≡ None → ys ≡ insert xs i c →
    (course_of ys c.number ≡ Some c) × ((k : ℕ) → (k ≡ c.number → ⊥) → course_of ys k ≡ course_of xs k)
roster_at c xs ys i n e = (
  ap (λ l. course_of l c.number) e ∙ there_all xs i c (of_absent c.number xs n),
  (λ k ne. ap (λ l. course_of l k) e ∙ others_at xs i c k ne),
)

all_get : (P : Course → Type 0) (xs : List Course) (k : ℕ) (d : Course) → AllByRecursion P xs → k < length xs → P (get_or xs k d)
all_get P [] k d h l = absurd (omega arith)
all_get P (x ∷ xs) zero d h l = h.0
all_get P (x ∷ xs) (suc k) d h l = all_get P xs k d h.1 (omega arith)

-- between its neighbours, a course stands where it is put
module _ (t : Time) (c : Course) where
  first_behind : (y : Course) (ys : List Course) (i : ℕ) → AllByRecursion (λ z. behind t y z ≡ true) ys → i ≤ length ys →
      ((d : Course) → behind t (get_or (y ∷ ys) i d) c ≡ true) → behind t y c ≡ true
  first_behind y ys zero s l r = r y
  first_behind y ys (suc j) s l r = transitive t y (get_or ys j y) c (all_get (λ z. behind t y z ≡ true) ys j y s (omega arith)) (r y)

  pub kept_is_put : (xs : List Course) (i : ℕ) → Sorted t xs → i ≤ length xs →
      ((k : ℕ) (d : Course) → suc k ≡ i → behind t (get_or xs k d) c ≡ true) →
      ((d : Course) → i < length xs → behind t c (get_or xs i d) ≡ true) → insert xs i c ≡ put t c xs
  kept_is_put [] zero s l r f = refl
  kept_is_put [] (suc i) s l r f = absurd (omega arith)
  kept_is_put (y ∷ ys) zero s l r f = sym (cond-true (behind t c y) (c ∷ y ∷ ys) (y ∷ put t c ys) (f y (omega arith)))
  kept_is_put (y ∷ ys) (suc i) s l r f =
      let b = first_behind y ys i s.0 (omega arith) (λ d. r i d refl) in
      ap (λ z. y ∷ z) (kept_is_put ys i s.1 (omega arith) (λ k d e. r (suc k) d (ap suc e)) (λ d h. f d (omega arith)))
      ∙ sym (cond-false (behind t c y) (c ∷ y ∷ ys) (y ∷ put t c ys) (back t y c b))

  -- the course of a vessel that is between its neighbours stands, in its place, where it would be put
  pub kept_put : (xs : List Course) (i : ℕ) → i < length xs → Sorted t xs → remove xs i ≡ without c.number xs → Between t xs i c →
      insert (remove xs i) i c ≡ put t c (remove xs i)
  kept_put xs i h s e b =
      let l : length (remove xs i) + 1 ≡ length xs = length-remove xs i h in
      kept_is_put (remove xs i) i (subst (Sorted t) (sym e) (sorted_without t c.number xs s)) (omega arith)
      (λ k d q. rw (get_or-remove_below xs i d k (omega arith) h) (b.0 k d (omega arith)))
      (λ d m. rw (get_or-remove_above xs i d i (omega arith) h) (b.1 d (omega arith)))

-- ---- the load
pub load_set : (xs : List Course) (i : ℕ) (c : Course) → i < length xs → load (set xs i c) ≡ load (remove xs i) + crossed (remove xs i) i c
load_set xs i c h = ap load (set_at xs i c h) ∙ load_inserted (remove xs i) i c

pub load_with : (xs : List Course) (i : ℕ) (c : Course) → i < length xs → c ≡ get_or xs i c → load xs ≡ load (remove xs i) + crossed (remove xs i) i c
load_with xs i c h q = ap load (sym (set-get_or xs i c) ∙ ap (set xs i) (sym q)) ∙ load_set xs i c h
