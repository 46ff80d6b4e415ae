-- The places: searches in them, and the roster as one of them is written.
use Rattle.std.proofs.Common.{◌≡◌, ℕ, zero, suc, ◌+◌, ◌<◌, ◌≤◌, Bool, true, false, cond, not, eqb, ltb, ◌==◌, ◌≢◌, List, [], ◌∷◌, length, get_or, set, is_some, Some, None, Option, sym, refl, ap, ◌∙◌, subst, one-add, arith}
use Rattle.std.specs.List.{AllByRecursion, position, position_or_len, count_by}
use Rattle.std.proofs.lemmas.List.Sums.{sum_by-cons}
use Rattle.std.proofs.lemmas.Bool.{cond-true, cond-false, cond_both, eq-eqb, ne_eqb, ltb-true, ltb-false}
use Rattle.event_queue.proofs.Options.{none_some, some_same}
use Rattle.fairway.specs.Orders.{Apart}
use Rattle.fairway.specs.Rosters.{course_of}
use Rattle.fairway.specs.declared.course.Course.{Course}
use Rattle.fairway.proofs.Rosters.{absent, of_absent}
use Rattle.fairway.proofs.Sorting.{held}
use Rattle.tournament.specs.Places.{taken, Fits, Sound, PlaceOf, FreePlace}
use Rattle.tournament.specs.NodesLemmas.{holds_taken, length_taken}

-- ---- what holds of each vessel
abbrev Kind : (Course → Type 0) → Option Course → Type 0
Kind P None = Unit {0}
Kind P (Some c) = P c

all_set : (P : Course → Type 0) (xs : List (Option Course)) (i : ℕ) (o : Option Course) → Kind P o → AllByRecursion P (taken xs) → AllByRecursion P (taken (set xs i o))
all_set P [] i o k a = a
all_set P (None ∷ xs) zero None k a = a
all_set P (None ∷ xs) zero (Some c) k a = (k, a)
all_set P (Some x ∷ xs) zero None k a = a.1
all_set P (Some x ∷ xs) zero (Some c) k a = (k, a.1)
all_set P (None ∷ xs) (suc i) o k a = all_set P xs i o k a
all_set P (Some x ∷ xs) (suc i) o k a = (a.0, all_set P xs i o k a.1)

-- no other place has the number n
abbrev pub Alone : ℕ → ℕ → List (Option Course) → Type 0
Alone n i xs = AllByRecursion (λ y. n ≢ y.number) (taken (set xs i None))

abbrev pub Numbered : ℕ → Option Course → Type 0
Numbered n o = Kind (λ c. c.number ≡ n) o

apart_set : (n : ℕ) (xs : List (Option Course)) (i : ℕ) (o : Option Course) → Numbered n o → Alone n i xs → Apart (taken xs) → Apart (taken (set xs i o))
apart_set n [] i o k h a = a
apart_set n (None ∷ xs) zero None k h a = a
apart_set n (Some x ∷ xs) zero None k h a = a.1
apart_set n (None ∷ xs) zero (Some c) k h a = (subst (λ m. AllByRecursion (λ y. m ≢ y.number) (taken xs)) (sym k) h, a)
apart_set n (Some x ∷ xs) zero (Some c) k h a = (subst (λ m. AllByRecursion (λ y. m ≢ y.number) (taken xs)) (sym k) h, a.1)
apart_set n (None ∷ xs) (suc i) o k h a = apart_set n xs i o k h a
apart_set n (Some x ∷ xs) (suc i) o k h a =
    (all_set (λ y. x.number ≢ y.number) xs i o (other o k) a.0, apart_set n xs i o k h.1 a.1)
  where
    other : (o : Option Course) → Numbered n o → Kind (λ y. x.number ≢ y.number) o
    other None k = tt
    other (Some c) k = λ e. h.0 (sym (e ∙ k))

pub sound_set : (n : ℕ) (xs : List (Option Course)) (i : ℕ) (o : Option Course) → Numbered n o → Kind Fits o → Alone n i xs → Sound (taken xs) → Sound (taken (set xs i o))
sound_set n xs i o k r h s = record { apart = apart_set n xs i o k h s.apart; fit = all_set Fits xs i o r s.fit }

-- ---- the roster
roster_skip : (x : Course) (xs : List Course) (n : ℕ) → (n ≡ x.number → ⊥) → course_of (x ∷ xs) n ≡ course_of xs n
roster_skip x xs n h = cond-false (eqb x.number n) (Some x) (course_of xs n) (ne_eqb x.number n (λ q. h (sym q)))

pub roster_at : (n : ℕ) (xs : List (Option Course)) (i : ℕ) (o : Option Course) → i < length xs → Numbered n o → Alone n i xs → course_of (taken (set xs i o)) n ≡ o
roster_at n [] i o l k h = absurd (omega arith)
roster_at n (x ∷ xs) zero None l k h = absent n (taken xs) h
roster_at n (x ∷ xs) zero (Some c) l k h = cond-true (eqb c.number n) (Some c) (course_of (taken xs) n) (eq-eqb c.number n k)
roster_at n (None ∷ xs) (suc i) o l k h = roster_at n xs i o (omega arith) k h
roster_at n (Some x ∷ xs) (suc i) o l k h = roster_skip x (taken (set xs i o)) n h.0 ∙ roster_at n xs i o (omega arith) k h.1

pub roster_other : (n k : ℕ) (xs : List (Option Course)) (i : ℕ) (o : Option Course) → (k ≡ n → ⊥) → Numbered n o → Numbered n (get_or xs i None) → course_of (taken (set xs i o)) k ≡ course_of (taken xs) k
roster_other n k [] i o ne p q = refl
roster_other n k (None ∷ xs) zero None ne p q = refl
roster_other n k (None ∷ xs) zero (Some c) ne p q = roster_skip c (taken xs) k (λ e. ne (e ∙ p))
roster_other n k (Some x ∷ xs) zero None ne p q = sym (roster_skip x (taken xs) k (λ e. ne (e ∙ q)))
roster_other n k (Some x ∷ xs) zero (Some c) ne p q = roster_skip c (taken xs) k (λ e. ne (e ∙ p)) ∙ sym (roster_skip x (taken xs) k (λ e. ne (e ∙ q)))
roster_other n k (None ∷ xs) (suc i) o ne p q = roster_other n k xs i o ne p q
roster_other n k (Some x ∷ xs) (suc i) o ne p q = ap (λ r. cond (eqb x.number k) (Some x) r) (roster_other n k xs i o ne p q)

-- ---- who is alone
set_none : (xs : List (Option Course)) (i : ℕ) → get_or xs i None ≡ None → taken (set xs i None) ≡ taken xs
set_none [] i e = refl
set_none (None ∷ xs) zero e = refl
set_none (Some x ∷ xs) zero e = absurd (none_some (sym e))
set_none (None ∷ xs) (suc i) e = set_none xs i e
set_none (Some x ∷ xs) (suc i) e = ap (λ l. x ∷ l) (set_none xs i e)

pub alone_free : (n : ℕ) (xs : List (Option Course)) (i : ℕ) → get_or xs i None ≡ None → course_of (taken xs) n ≡ None → Alone n i xs
alone_free n xs i e h = subst (λ l. AllByRecursion (λ y. n ≢ y.number) l) (sym (set_none xs i e)) (of_absent n (taken xs) h)

pub alone_held : (n : ℕ) (xs : List (Option Course)) (i : ℕ) (c : Course) → get_or xs i None ≡ Some c → c.number ≡ n → Apart (taken xs) → Alone n i xs
alone_held n [] i c e k a = tt
alone_held n (None ∷ xs) zero c e k a = absurd (none_some e)
alone_held n (Some x ∷ xs) zero c e k a = subst (λ m. AllByRecursion (λ y. m ≢ y.number) (taken xs)) (ap (λ z. z.number) (some_same e) ∙ k) a.0
alone_held n (None ∷ xs) (suc i) c e k a = alone_held n xs i c e k a
alone_held n (Some x ∷ xs) (suc i) c e k a =
    (λ q. held (λ y. x.number ≢ y.number) (taken xs) c a.0 (holds_taken xs i c e) (sym (k ∙ q)), alone_held n xs i c e k a.1)

-- the vessels at two places have two numbers
pub apart_at : (xs : List (Option Course)) (i j : ℕ) (c d : Course) → Apart (taken xs) → i < j → get_or xs i None ≡ Some c → get_or xs j None ≡ Some d → c.number ≢ d.number
apart_at [] i j c d a l p q = absurd (none_some p)
apart_at (x ∷ xs) zero zero c d a l p q = absurd (omega arith)
apart_at (x ∷ xs) (suc i) zero c d a l p q = absurd (omega arith)
apart_at (None ∷ xs) zero (suc j) c d a l p q = absurd (none_some p)
apart_at (Some x ∷ xs) zero (suc j) c d a l p q =
    subst (λ z. z.number ≢ d.number) (some_same p) (held (λ y. x.number ≢ y.number) (taken xs) d a.0 (holds_taken xs j d q))
apart_at (None ∷ xs) (suc i) (suc j) c d a l p q = apart_at xs i j c d a (omega arith) p q
apart_at (Some x ∷ xs) (suc i) (suc j) c d a l p q = apart_at xs i j c d a.1 (omega arith) p q

-- ---- searches
-- whether a place has the vessel n
abbrev pub has_vessel : ℕ → Option Course → Bool
has_vessel n None = false
has_vessel n (Some c) = c.number == n

-- one place further on
at_next : (x : Option Course) (xs : List (Option Course)) (i : ℕ) (o : Option Course) → get_or xs i None ≡ o → get_or (x ∷ xs) (1 + i) None ≡ o
at_next x xs i o e = rw (one-add i) e

vessel_there : (n : ℕ) (xs : List (Option Course)) → position_or_len (has_vessel n) xs < length xs →
    (c : Course) × (get_or xs (position_or_len (has_vessel n) xs) None ≡ Some c) × (course_of (taken xs) n ≡ Some c)
vessel_there n [] h = absurd (omega arith)
vessel_there n (None ∷ xs) h =
    let k = vessel_there n xs (omega (arith, h)) in
    (k.0, at_next None xs (position_or_len (has_vessel n) xs) (Some k.0) k.1, k.2)
vessel_there n (Some x ∷ xs) h =
    let i = position_or_len (has_vessel n) xs in
    let find : i < length xs → (c : Course) × (get_or xs i None ≡ Some c) × (course_of (taken xs) n ≡ Some c) = vessel_there n xs in
    (elim (x.number == n) as (λ b. cond (not b) (1 + i) 0 < length (Some x ∷ xs) →
    (c : Course) × (get_or (Some x ∷ xs) (cond (not b) (1 + i) 0) None ≡ Some c) × (cond b (Some x) (course_of (taken xs) n) ≡ Some c)) [
      | true ↦ λ l. (x, refl, refl)
      | false ↦ λ l. let k = find (omega (arith, l)) in (k.0, at_next (Some x) xs i (Some k.0) k.1, k.2)
    ]) h

vessel_nowhere : (n : ℕ) (xs : List (Option Course)) → length xs ≤ position_or_len (has_vessel n) xs → course_of (taken xs) n ≡ None
vessel_nowhere n [] h = refl
vessel_nowhere n (None ∷ xs) h = vessel_nowhere n xs (omega (arith, h))
vessel_nowhere n (Some x ∷ xs) h =
    let i = position_or_len (has_vessel n) xs in
    let none : length xs ≤ i → course_of (taken xs) n ≡ None = vessel_nowhere n xs in
    (elim (x.number == n) as (λ b. length (Some x ∷ xs) ≤ cond (not b) (1 + i) 0 → cond b (Some x) (course_of (taken xs) n) ≡ None) [
      | true ↦ λ l. absurd (omega (arith, l))
      | false ↦ λ l. none (omega (arith, l))
    ]) h

pub place_found : (n : ℕ) (xs : List (Option Course)) → PlaceOf xs n (position (has_vessel n) xs)
place_found n xs =
    let i = position_or_len (has_vessel n) xs in
    cond_both (ltb i (length xs)) (Some i) None (PlaceOf xs n)
    (λ t. let h = ltb-true i (length xs) t in (h, vessel_there n xs h))
    (λ f. vessel_nowhere n xs (ltb-false i (length xs) f))

-- whether a place is free
abbrev pub is_free : Option Course → Bool
is_free None = true
is_free (Some c) = false

free_there : (xs : List (Option Course)) → position_or_len is_free xs < length xs → get_or xs (position_or_len is_free xs) None ≡ None
free_there [] h = absurd (omega arith)
free_there (None ∷ xs) h = refl
free_there (Some x ∷ xs) h = at_next (Some x) xs (position_or_len is_free xs) None (free_there xs (omega (arith, h)))

free_nowhere : (xs : List (Option Course)) → length xs ≤ position_or_len is_free xs → length (taken xs) ≡ length xs
free_nowhere [] h = refl
free_nowhere (None ∷ xs) h = absurd (omega (arith, h))
free_nowhere (Some x ∷ xs) h = omega (arith, free_nowhere xs (omega (arith, h)))

pub free_found : (xs : List (Option Course)) → FreePlace xs (position is_free xs)
free_found xs =
    let i = position_or_len is_free xs in
    cond_both (ltb i (length xs)) (Some i) None (FreePlace xs)
    (λ t. let h = ltb-true i (length xs) t in (h, free_there xs h))
    (λ f. free_nowhere xs (ltb-false i (length xs) f))

-- ---- the count
abbrev one_taken : Option Course → ℕ
one_taken o = cond (is_some o) 1 0

pub counted : (xs : List (Option Course)) → count_by is_some xs ≡ length (taken xs)
counted [] = refl
counted (None ∷ xs) = omega (arith, sum_by-cons one_taken None xs, counted xs)
counted (Some x ∷ xs) = omega (arith, sum_by-cons one_taken (Some x) xs, counted xs)

pub room : (xs : List (Option Course)) (i : ℕ) → i < length xs → get_or xs i None ≡ None → length (taken xs) < length xs
room [] i l e = absurd (omega arith)
room (None ∷ xs) zero l e = omega (arith, length_taken xs)
room (Some x ∷ xs) zero l e = absurd (none_some (sym e))
room (None ∷ xs) (suc i) l e = omega (arith, room xs i (omega arith) e)
room (Some x ∷ xs) (suc i) l e = omega (arith, room xs i (omega arith) e)
