-- Rosters as lists of courses.
use Rattle.std.proofs.Common.{◌≡◌, ℕ, cond, eqb, ◌≢◌, List, [], ◌∷◌, Some, None, sym, refl, ap, ◌∙◌, subst, inl, inr, ⊎_elim}
use Rattle.std.specs.List.{AllByRecursion, insert, remove}
use Rattle.std.proofs.ByRecursion.{All-weaker}
use Rattle.std.proofs.lemmas.Bool.{eqb-true, eqb-false, eq-eqb, ne_eqb, cond-true, cond-false, cond_both, cases_Bool}
use Rattle.fairway.specs.declared.course.Course.{Course}
use Rattle.fairway.specs.Times.{Time}
use Rattle.fairway.specs.Orders.{Holds, Same, Apart, put, Exchange}
use Rattle.fairway.specs.Rosters.{course_of, without, altered, changed_by}
use Rattle.event_queue.proofs.Options.{none_some, some_same}
pub use Rattle.fairway.proofs.Pairwise.{all_without}
use Rattle.fairway.proofs.Pairwise.{pairwise_exchange, pairwise_put, pairwise_inserted, pairwise_removed, pairwise_without}
use Rattle.fairway.proofs.Sorting.{held}

pub found : (xs : List Course) (c : Course) → Apart xs → Holds xs c → course_of xs c.number ≡ Some c
found [] c a h = absurd h
found (x ∷ xs) c a (inl e) = cond-true (eqb x.number c.number) (Some x) (course_of xs c.number) (eq-eqb x.number c.number (ap (λ z. z.number) e)) ∙ ap Some e
found (x ∷ xs) c a (inr h) =
    cond-false (eqb x.number c.number) (Some x) (course_of xs c.number) (ne_eqb x.number c.number (held (λ y. x.number ≢ y.number) xs c a.0 h)) ∙ found xs c a.1 h

pub of_found : (xs : List Course) (n : ℕ) (c : Course) → course_of xs n ≡ Some c → Holds xs c × (c.number ≡ n)
of_found [] n c e = absurd (none_some e)
of_found (x ∷ xs) n c e =
    ⊎_elim
    (λ t. let q = some_same (sym (cond-true (eqb x.number n) (Some x) (course_of xs n) t) ∙ e) in (inl q, ap (λ z. z.number) (sym q) ∙ eqb-true x.number n t))
    (λ t. let k = of_found xs n c (sym (cond-false (eqb x.number n) (Some x) (course_of xs n) t) ∙ e) in (inr k.0, k.1))
    (cases_Bool (eqb x.number n))

pub absent : (n : ℕ) (xs : List Course) → AllByRecursion (λ y. n ≢ y.number) xs → course_of xs n ≡ None
absent n [] h = refl
absent n (x ∷ xs) h = cond-false (eqb x.number n) (Some x) (course_of xs n) (ne_eqb x.number n (λ q. h.0 (sym q))) ∙ absent n xs h.1

pub of_absent : (n : ℕ) (xs : List Course) → course_of xs n ≡ None → AllByRecursion (λ y. n ≢ y.number) xs
of_absent n [] e = tt
of_absent n (x ∷ xs) e =
    ⊎_elim
    (λ t. absurd (none_some (sym e ∙ cond-true (eqb x.number n) (Some x) (course_of xs n) t)))
    (λ t. (λ q. eqb-false x.number n t (sym q), of_absent n xs (sym (cond-false (eqb x.number n) (Some x) (course_of xs n) t) ∙ e)))
    (cases_Bool (eqb x.number n))

-- two rosters that answer alike have the same vessels
same_half : (xs ys : List Course) → Apart xs → ((n : ℕ) → course_of xs n ≡ course_of ys n) → (c : Course) → Holds xs c → Holds ys c
same_half xs ys a h c k = (of_found ys c.number c (sym (h c.number) ∙ found xs c a k)).0

pub same_from : (xs ys : List Course) → Apart xs → Apart ys → ((n : ℕ) → course_of xs n ≡ course_of ys n) → Same xs ys
same_from xs ys a b h c = (same_half xs ys a h c, same_half ys xs b (λ n. sym (h n)) c)

-- ---- no number comes twice after a change either
abbrev NumbersDiffer : Course → Course → Type 0
NumbersDiffer x y = x.number ≢ y.number

turned_numbers : (x : Course) (xs : List Course) → AllByRecursion (NumbersDiffer x) xs → AllByRecursion (λ y. NumbersDiffer y x) xs
turned_numbers x = All-weaker (NumbersDiffer x) (λ y. NumbersDiffer y x) (λ y n e. n (sym e))

pub apart_exchange : {r f : Course} {xs ys : List Course} → Exchange r f xs ys → Apart xs → Apart ys
apart_exchange e a = pairwise_exchange NumbersDiffer (λ n q. n (sym q)) e a

pub apart_put : (t : Time) (x : Course) (xs : List Course) → AllByRecursion (λ y. x.number ≢ y.number) xs → Apart xs → Apart (put t x xs)
apart_put t x xs n a = pairwise_put NumbersDiffer t x xs n (turned_numbers x xs n) a

pub apart_inserted : (xs : List Course) (i : ℕ) (x : Course) → AllByRecursion (λ y. x.number ≢ y.number) xs → Apart xs → Apart (insert xs i x)
apart_inserted xs i x n a = pairwise_inserted NumbersDiffer xs i x n (turned_numbers x xs n) a

pub apart_removed : (xs : List Course) (i : ℕ) → Apart xs → Apart (remove xs i)
apart_removed = pairwise_removed NumbersDiffer

pub apart_without : (n : ℕ) (xs : List Course) → Apart xs → Apart (without n xs)
apart_without = pairwise_without NumbersDiffer

-- ---- one vessel less

pub absent_without : (n : ℕ) (xs : List Course) → Apart xs → course_of (without n xs) n ≡ None
absent_without n [] a = refl
absent_without n (x ∷ xs) a =
    let ih = absent_without n xs a.1 in
    cond_both (eqb x.number n) xs (x ∷ without n xs) (λ l. course_of l n ≡ None)
    (λ t. absent n xs (subst (λ k. AllByRecursion (λ y. k ≢ y.number) xs) (eqb-true x.number n t) a.0))
    (λ t. cond-false (eqb x.number n) (Some x) (course_of (without n xs) n) t ∙ ih)

pub roster_without : (n : ℕ) (xs : List Course) (k : ℕ) → (k ≡ n → ⊥) → course_of (without n xs) k ≡ course_of xs k
roster_without n [] k h = refl
roster_without n (x ∷ xs) k h =
    let ih = roster_without n xs k h in
    cond_both (eqb x.number n) xs (x ∷ without n xs) (λ l. course_of l k ≡ course_of (x ∷ xs) k)
    (λ t. sym (cond-false (eqb x.number k) (Some x) (course_of xs k) (ne_eqb x.number k (λ q. h (sym q ∙ eqb-true x.number n t)))))
    (λ t. ap (λ o. cond (eqb x.number k) (Some x) o) ih)

-- ---- one vessel altered
module _ (f : Course → Course) (keeps : (c : Course) → (f c).number ≡ c.number) where
  all_altered : (P : ℕ → Type 0) (n : ℕ) (xs : List Course) → AllByRecursion (λ y. P y.number) xs → AllByRecursion (λ y. P y.number) (altered f n xs)
  all_altered P n [] h = tt
  all_altered P n (x ∷ xs) h =
      cond_both (eqb x.number n) (f x ∷ xs) (x ∷ altered f n xs) (AllByRecursion (λ y. P y.number))
      (λ t. (subst P (sym (keeps x)) h.0, h.1)) (λ t. (h.0, all_altered P n xs h.1))

  pub apart_altered : (n : ℕ) (xs : List Course) → Apart xs → Apart (altered f n xs)
  apart_altered n [] a = tt
  apart_altered n (x ∷ xs) a =
      cond_both (eqb x.number n) (f x ∷ xs) (x ∷ altered f n xs) Apart
      (λ t. (subst (λ k. AllByRecursion (λ y. k ≢ y.number) xs) (sym (keeps x)) a.0, a.1))
      (λ t. (all_altered (λ k. x.number ≢ k) n xs a.0, apart_altered n xs a.1))

  pub same_altered : (n : ℕ) (xs : List Course) → course_of (altered f n xs) n ≡ changed_by f (course_of xs n)
  same_altered n [] = refl
  same_altered n (x ∷ xs) =
      let ih = same_altered n xs in
      cond_both (eqb x.number n) (f x ∷ xs) (x ∷ altered f n xs) (λ l. course_of l n ≡ changed_by f (course_of (x ∷ xs) n))
      (λ t. cond-true (eqb (f x).number n) (Some (f x)) (course_of xs n) (eq-eqb (f x).number n (keeps x ∙ eqb-true x.number n t)) ∙ sym (ap (changed_by f) (cond-true (eqb x.number n) (Some x) (course_of xs n) t)))
      (λ t. cond-false (eqb x.number n) (Some x) (course_of (altered f n xs) n) t ∙ ih ∙ sym (ap (changed_by f) (cond-false (eqb x.number n) (Some x) (course_of xs n) t)))

  pub other_altered : (n : ℕ) (xs : List Course) (k : ℕ) → (k ≡ n → ⊥) → course_of (altered f n xs) k ≡ course_of xs k
  other_altered n [] k h = refl
  other_altered n (x ∷ xs) k h =
      let ih = other_altered n xs k h in
      cond_both (eqb x.number n) (f x ∷ xs) (x ∷ altered f n xs) (λ l. course_of l k ≡ course_of (x ∷ xs) k)
      (λ t. let ne : (x.number ≡ k) → ⊥ = λ q. h (sym q ∙ eqb-true x.number n t) in
      cond-false (eqb (f x).number k) (Some (f x)) (course_of xs k) (ne_eqb (f x).number k (λ q. ne (sym (keeps x) ∙ q))) ∙ sym (cond-false (eqb x.number k) (Some x) (course_of xs k) (ne_eqb x.number k ne)))
      (λ t. ap (λ o. cond (eqb x.number k) (Some x) o) ih)
