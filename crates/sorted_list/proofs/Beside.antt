-- The courses beside a vessel's in a list with no number twice.
use Rattle.std.proofs.Common.{◌≡◌, ℕ, zero, suc, ◌+◌, ◌-◌, ◌<◌, ◌≤◌, true, eqb, ◌≢◌, List, [], ◌∷◌, length, get_or, take, slice_get, Bor, Some, None, Option, ⊎_elim, sym, refl, ap, ◌∙◌, add-one, arith}
use Rattle.std.specs.List.{AllByRecursion}
use Rattle.std.proofs.lemmas.List.{get_or-take, length-take-le}
use Rattle.std.specs.Option.{option_copied, option_map}
use Rattle.std.specs.Slice.{IsItemAt}
use Rattle.std.proofs.lemmas.Option.{slice_get-get_or, slice_get_past}
use Rattle.std.proofs.ByRecursion.{All-get_or}
use Rattle.std.proofs.lemmas.Bool.{eq-eqb, ne_eqb, cond-true, cond-false, cases_lt}
use Rattle.fairway.specs.Orders.{Apart}
use Rattle.fairway.specs.declared.course.Course.{Course}
use Rattle.fairway.proofs.Lists.{nobody}
use Rattle.fairway.specs.Rosters.{course_of}
use Rattle.fairway.proofs.Rosters.{of_found}
use Rattle.sorted_list.specs.Rosters.{well, last_number, next_after, next_before}
use Rattle.sorted_list.specs.RostersLemmas.{well_apart, last_is}

-- what `get` lends, copied
pub get_copied : (xs : List Course) (i : ℕ) (r : Option (Bor Course)) → IsItemAt xs i r → option_copied r ≡ slice_get xs i
get_copied xs i None h = sym (slice_get_past xs i h.3)
get_copied xs i (Some x) h = ap Some h.1 ∙ sym (slice_get-get_or xs i x.now h.3.0)

-- the number of the last
pub last_number_is : (xs : List Course) → last_number xs ≡ option_map (λ z. z.number) (slice_get xs (length xs - 1))
last_number_is [] = refl
last_number_is (x ∷ xs) =
    let k : length (x ∷ xs) - 1 ≡ length xs = omega arith in
    sym (ap (option_map (λ (z : Course). z.number)) (ap (slice_get (x ∷ xs)) k ∙ slice_get-get_or (x ∷ xs) (length xs) x (omega arith) ∙ ap Some (last_is x xs x)))

-- a number that none has
unlike : (m : ℕ) (ys : List Course) (j : ℕ) (d : Course) → AllByRecursion (λ y. m ≢ y.number) ys → j < length ys → (get_or ys j d).number ≡ m → ⊥
unlike m ys j d a h e = All-get_or (λ y. m ≢ y.number) ys j d h a (sym e)

after_is : (n : ℕ) (xs : List Course) (i : ℕ) (d : Course) → Apart xs → i < length xs → (get_or xs i d).number ≡ n → next_after n xs ≡ slice_get xs (suc i)
after_is n [] i d a h e = absurd (omega arith)
after_is n (x ∷ []) i d a h e = refl
after_is n (x ∷ y ∷ ys) zero d a h e = cond-true (eqb x.number n) (Some y) (next_after n (y ∷ ys)) (eq-eqb x.number n e)
after_is n (x ∷ y ∷ ys) (suc i) d a h e =
    cond-false (eqb x.number n) (Some y) (next_after n (y ∷ ys)) (ne_eqb x.number n (λ z. unlike x.number (y ∷ ys) i d a.0 (omega arith) (e ∙ sym z))) ∙ after_is n (y ∷ ys) i d a.1 (omega arith) e

before_is : (n : ℕ) (xs : List Course) (i : ℕ) (d : Course) → Apart xs → suc i < length xs → (get_or xs (suc i) d).number ≡ n → next_before n xs ≡ slice_get xs i
before_is n [] i d a h e = absurd (omega arith)
before_is n (x ∷ []) i d a h e = absurd (omega arith)
before_is n (x ∷ y ∷ ys) zero d a h e = cond-true (eqb y.number n) (Some x) (next_before n (y ∷ ys)) (eq-eqb y.number n e)
before_is n (x ∷ y ∷ ys) (suc i) d a h e =
    cond-false (eqb y.number n) (Some x) (next_before n (y ∷ ys)) (ne_eqb y.number n (λ z. unlike y.number ys i d a.1.0 (omega arith) (e ∙ sym z))) ∙ before_is n (y ∷ ys) i d a.1 (omega arith) e

-- nothing stands before one whose number none after it has
before_unseen : (n : ℕ) (x : Course) (ys : List Course) → AllByRecursion (λ y. n ≢ y.number) ys → next_before n (x ∷ ys) ≡ None
before_unseen n x [] a = refl
before_unseen n x (y ∷ ys) a = cond-false (eqb y.number n) (Some x) (next_before n (y ∷ ys)) (ne_eqb y.number n (λ z. a.0 (sym z))) ∙ before_unseen n y ys a.1

before_none : (n : ℕ) (xs : List Course) (d : Course) → Apart xs → 0 < length xs → (get_or xs 0 d).number ≡ n → next_before n xs ≡ None
before_none n [] d a h e = refl
before_none n (x ∷ ys) d a h e = ap (λ m. next_before m (x ∷ ys)) (sym e) ∙ before_unseen x.number x ys a.0

-- the last of those before a place
abbrev pub rear : List Course → ℕ → Option Course
rear xs i = slice_get (take i xs) (length (take i xs) - 1)

pub rear_none : (xs : List Course) (i : ℕ) → i ≤ 0 → rear xs i ≡ None
rear_none xs i z = let e : i ≡ 0 = omega arith in ap (rear xs) e

pub rear_some : (xs : List Course) (i : ℕ) → 0 < i → i < length xs → rear xs i ≡ slice_get xs (i - 1)
rear_some xs i z h =
    let l : length (take i xs) ≡ i = length-take-le i xs (omega arith) in
    let k : length (take i xs) - 1 ≡ i - 1 = omega arith in
    ap (slice_get (take i xs)) k ∙ slice_get-get_or (take i xs) (i - 1) nobody (omega arith) ∙ ap Some (get_or-take i xs (i - 1) nobody (omega arith)) ∙ sym (slice_get-get_or xs (i - 1) nobody (omega arith))

-- ---- what the questions answer, for the vessel n at the place i
module _ (xs : List Course) (w : well xs ≡ true) (n i : ℕ) (h : i < length xs) (own : (d : Course) → course_of xs n ≡ Some (get_or xs i d)) where
  numbered : (get_or xs i nobody).number ≡ n
  numbered = (of_found xs n (get_or xs i nobody) (own nobody)).1

  pub stands_ahead : slice_get xs (i + 1) ≡ next_after n xs
  stands_ahead = ap (slice_get xs) (add-one i) ∙ sym (after_is n xs i nobody (well_apart xs w) h numbered)

  pub stands_astern : rear xs i ≡ next_before n xs
  stands_astern =
      ⊎_elim
      (λ (z : 0 < i).
      let q : suc (i - 1) ≡ i = omega arith in
      rear_some xs i z h ∙ sym (before_is n xs (i - 1) nobody (well_apart xs w) (omega arith) (ap (λ k. (get_or xs k nobody).number) q ∙ numbered)))
      (λ (z : i ≤ 0).
      let q : 0 ≡ i = omega arith in
      rear_none xs i z ∙ sym (before_none n xs nobody (well_apart xs w) (omega arith) (ap (λ k. (get_or xs k nobody).number) q ∙ numbered)))
      (cases_lt 0 i)
