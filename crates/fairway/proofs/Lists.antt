-- Lists of courses, place by place: neighbours, counts of pairs, an exchange.
use Rattle.std.proofs.Common.{◌≡◌, ℕ, zero, suc, ◌+◌, ◌<◌, ◌≤◌, Bool, true, false, not, cond, List, [], ◌∷◌, length, get_or, set, pos, Some, None, sum_by, Option, sym, refl, ap, ◌∙◌, subst, add-zero, add-one, arith}
use Rattle.std.specs.Bool.{Decides}
use Rattle.std.specs.Borrow.{Bor}
use Rattle.std.specs.Option.{IfSome, IsSomeAnd}
use Rattle.std.specs.List.{AllAdjacentBelow, IsAllAdjacentAnswer, IsSubsliceAt, swap}
use Rattle.std.proofs.lemmas.Bool.{both_ways, false≢true}
use Rattle.std.proofs.lemmas.Bool.Decides.{not_from_Decides}
use Rattle.std.proofs.lemmas.List.Edits.{swap_is}
use Rattle.event_queue.proofs.Options.{none_some, some_same}
use Rattle.fairway.specs.Times.{Time, Proper}
use Rattle.fairway.specs.Courses.{Due}
use Rattle.fairway.specs.Behind.{behind}
use Rattle.fairway.specs.Pairs.{PastLevelAnswer}
use Rattle.fairway.specs.Orders.{pair, turns, turned, turned_by, Exchange, here, there}
use Rattle.fairway.specs.Standing.{Neighbours, NotLevelBefore}
use Rattle.fairway.specs.Lists.{pair_at, SortedAnswer, TurnedCount, FirstDuePlace, StandsUntil, Exchanged}
use Rattle.fairway.specs.declared.course.Course.{Course}
use Rattle.fairway.proofs.Totals.{over, over_is, over_all, length_over}
use Rattle.fairway.proofs.Sorting.{order_is}
use Rattle.fairway.proofs.Advance.{over_turned, load_falls, fewest, mends_turned, loses_one, due_faster}
use Rattle.fairway.proofs.Standings.{chain, sorted_near, stands_sorted, stands_later, stands_mended}

-- what a list is read as past its end
abbrev pub nobody : Course
nobody = record { number = 0; speed = pos 0; base = pos 0 }

-- ---- neighbours by place
pub pair_get : (xs : List Course) (i : ℕ) (d : Course) → suc i < length xs → pair_at xs i ≡ Some (pair (get_or xs i d) (get_or xs (suc i) d))
pair_get [] i d h = absurd (omega arith)
pair_get (x ∷ []) i d h = absurd (omega arith)
pair_get (x ∷ y ∷ ys) zero d h = refl
pair_get (x ∷ y ∷ ys) (suc i) d h = pair_get (y ∷ ys) i d (omega arith)

pub pair_there : (xs : List Course) (i : ℕ) (d r f : Course) → pair_at xs i ≡ Some (pair r f) → (suc i < length xs) × (get_or xs i d ≡ r) × (get_or xs (suc i) d ≡ f)
pair_there [] i d r f e = absurd (none_some e)
pair_there (x ∷ []) i d r f e = absurd (none_some e)
pair_there (x ∷ y ∷ ys) zero d r f e = let q = some_same e in (omega arith, ap (λ z. z.rear) q, ap (λ z. z.front) q)
pair_there (x ∷ y ∷ ys) (suc i) d r f e = let h = pair_there (y ∷ ys) i d r f e in (omega arith, h.1, h.2)

module _ (P : Course → Course → Type 0) where
  pub neighbours : (xs : List Course) (d : Course) → ((k : ℕ) → k + 1 < length xs → P (get_or xs k d) (get_or xs (k + 1) d)) → Neighbours P xs
  neighbours [] d h = tt
  neighbours (x ∷ []) d h = tt
  neighbours (x ∷ y ∷ ys) d h = (
    h 0 (omega arith),
    neighbours (y ∷ ys) d (λ k l.
        let e : suc k + 1 ≡ suc (k + 1) = omega arith in
        subst (λ n. P (get_or (y ∷ ys) k d) (get_or (x ∷ y ∷ ys) n d)) e (h (suc k) (omega arith))),
  )

  pub all_adjacent : (xs : List Course) → Neighbours P xs → AllAdjacentBelow P xs (length xs)
  all_adjacent [] n k d h = absurd (omega arith)
  all_adjacent (x ∷ []) n k d h = absurd (omega arith)
  all_adjacent (x ∷ y ∷ ys) n zero d h = n.0
  all_adjacent (x ∷ y ∷ ys) n (suc k) d h =
      let e : suc (k + 1) ≡ suc k + 1 = omega arith in
      subst (λ m. P (get_or (y ∷ ys) k d) (get_or (x ∷ y ∷ ys) m d)) e (all_adjacent (y ∷ ys) n.1 k d (omega arith))

  -- what holds of the two at a place holds of the pair there
  pub at_pair : (xs : List Course) (i : ℕ) (d r f : Course) → (i + 1 < length xs → P (get_or xs i d) (get_or xs (i + 1) d)) → pair_at xs i ≡ Some (pair r f) → P r f
  at_pair xs i d r f h e =
      let p = pair_there xs i d r f e in
      subst (λ x. P x f) p.1 (subst (λ y. P (get_or xs i d) y) p.2 (subst (λ n. P (get_or xs i d) (get_or xs n d)) (add-one i) (h (omega arith))))

-- what a call tells of the two in a window holds of the two at its place
pub of_window : {R : Bor (List Course) → Type 0} (Q : Course → Course → Type 0) (xs ys : List Course) (n i : ℕ) (o : Option (Bor (List Course))) → ys ≡ xs → n ≡ 2 →
    IfSome o (λ x. (length x.now ≡ n) × (i + n ≤ length ys) × IsSubsliceAt n ys i x.now) → IsSomeAnd o R →
    ((x : Bor (List Course)) → R x → Q (get_or x.now 0 nobody) (get_or x.now 1 nobody)) → (i + 1 < length xs) × Q (get_or xs i nobody) (get_or xs (i + 1) nobody)
of_window Q xs ys n i None e f w h told = absurd h
of_window Q xs ys n i (Some x) e f w h told =
    let l : i + 1 < length ys = omega arith in
    let a : get_or x.now 0 nobody ≡ get_or ys i nobody = rw add-zero at (w.2.2 0 nobody (omega arith)) in
    let b : get_or x.now 1 nobody ≡ get_or ys (i + 1) nobody = w.2.2 1 nobody (omega arith) in
    subst (λ zs. (i + 1 < length zs) × Q (get_or zs i nobody) (get_or zs (i + 1) nobody)) e (l, subst (λ z. Q z (get_or ys (i + 1) nobody)) a (subst (λ z. Q (get_or x.now 0 nobody) z) b (told x h)))

-- ---- what the calls ask of each two neighbours
abbrev pub InOrderAt : Time → Course → Course → Type 0
InOrderAt t r f = behind t r f ≡ true

abbrev pub NotDue : Time → Course → Course → Type 0
NotDue t r f = Due t r f → ⊥

-- ---- the answers
pub sorted_told : (t : Time) → Proper t → (xs : List Course) (answer : Bool) → IsAllAdjacentAnswer (λ x y b. b ≡ behind t x y) xs answer → SortedAnswer t xs answer
sorted_told t pr xs true h =
    let s = chain t xs (neighbours (InOrderAt t) xs nobody (λ k l. sym (h k nobody l))) in
    record {
      value = ((λ e. s), (λ h. refl));
      is_order = λ e roster a m. (order_is t pr roster a).only xs s m;
      one_order = order_is t pr xs;
    }
sorted_told t pr xs false h =
    record {
      value =
          ((λ e. absurd (false≢true e)), (λ s. absurd (both_ways _ (sym (h.2 nobody)) (all_adjacent (InOrderAt t) xs (sorted_near t xs s) h.0 nobody h.1))));
      is_order = λ e. absurd (false≢true e);
      one_order = order_is t pr xs;
    }

pub until_told : (u : Time) → Proper u → (xs : List Course) (past : Bool) →
    (past ≡ false → (k : ℕ) → k + 1 < length xs → PastLevelAnswer u (get_or xs k nobody) (get_or xs (k + 1) nobody) false) →
    (past ≡ true → (k : ℕ) × (k + 1 < length xs) × PastLevelAnswer u (get_or xs k nobody) (get_or xs (k + 1) nobody) true) → StandsUntil u xs (not past)
until_told u pu xs false n y =
    let h = neighbours (NotLevelBefore u) xs nobody (λ k l. (n refl k l).0 refl) in
    record { value = ((λ e. h), (λ g. refl)); stands_on = λ e t pt l s. stands_later t u pt pu l xs s h }
until_told u pu xs true n y =
    let k = (y refl).0 in
    let l : k + 1 < length xs = (y refl).1 in
    let p : PastLevelAnswer u (get_or xs k nobody) (get_or xs (k + 1) nobody) true = (y refl).2 in
    record {
      value = ((λ e. absurd (false≢true e)), (λ g. absurd (p.1 refl (all_adjacent (NotLevelBefore u) xs g k nobody l))));
      stands_on = λ e. absurd (false≢true e);
    }

pub due_told : (t : Time) (xs : List Course) (r : Option ℕ) →
    (r ≡ None → (k : ℕ) → k + 1 < length xs → Decides false (Due t (get_or xs k nobody) (get_or xs (k + 1) nobody))) →
    ((i : ℕ) → r ≡ Some i → (i + 1 < length xs) × Decides true (Due t (get_or xs i nobody) (get_or xs (i + 1) nobody))) →
    ((i : ℕ) → r ≡ Some i → (k : ℕ) → k < i → Decides false (Due t (get_or xs k nobody) (get_or xs (k + 1) nobody))) → FirstDuePlace t xs r
due_told t xs None n y b = let h = neighbours (NotDue t) xs nobody (λ k l. not_from_Decides false (n refl k l) refl) in (h, λ s. stands_sorted t xs s h)
due_told t xs (Some i) n y b =
    let q = y i refl in
    record {
      rear = get_or xs i nobody;
      front = get_or xs (i + 1) nobody;
      there = rw add-one (pair_get xs i nobody (omega arith));
      due = q.1.0 refl;
      first = λ k r f l e. at_pair (NotDue t) xs k nobody r f (λ m. not_from_Decides false (b i refl k l) refl) e;
    }

-- ---- an exchange
sets : (xs : List Course) (i : ℕ) (d : Course) → suc i < length xs → Exchange (get_or xs i d) (get_or xs (suc i) d) xs (set (set xs i (get_or xs (suc i) d)) (suc i) (get_or xs i d))
sets [] i d h = absurd (omega arith)
sets (x ∷ []) i d h = absurd (omega arith)
sets (x ∷ y ∷ ys) zero d h = here
sets (x ∷ y ∷ ys) (suc i) d h = there (sets (y ∷ ys) i d (omega arith))

pub exchanged : (t : Time) (xs ys : List Course) (i : ℕ) (d : Course) → i + 1 < length xs → ys ≡ swap xs i (i + 1) → Due t (get_or xs i d) (get_or xs (i + 1) d) → Exchanged t xs ys i (get_or xs i d) (get_or xs (i + 1) d)
exchanged t xs ys i d h w due =
    let r = get_or xs i d in
    let f = get_or xs (i + 1) d in
    let e : Exchange r f xs ys = subst (Exchange r f xs) (swap_is xs i (i + 1) d (omega arith) h ∙ sym w) (rw add-one (sets xs i d (omega arith))) in
    record {
      were = rw add-one (pair_get xs i d (omega arith));
      due = due;
      value = w;
      exchange = e;
      loses = loses_one r f xs ys (due_faster t r f due) e;
      stands = λ s. stands_mended t r f xs ys s due e;
    }

-- ---- counts
pub turned_total : (t u : Time) (xs : List Course) → sum_by (λ x. turned_by t u x xs) xs ≡ length (turned t u xs)
turned_total t u xs =
    over_is (λ x. turned_by t u x xs) xs
    ∙ over_all (λ x. turned_by t u x xs) (λ x. over (λ y. cond (turns t u (pair x y)) 1 0) xs) (λ x. over_is (λ y. cond (turns t u (pair x y)) 1 0) xs) xs
    ∙ sym (over_turned (λ p. 1) t u xs) ∙ sym (length_over (turned t u xs))

pub turned_count : (t u : Time) → Proper t → Proper u → (xs : List Course) (r : ℕ) → r ≡ sum_by (λ x. turned_by t u x xs) xs → TurnedCount t u xs r
turned_count t u pt pu xs r e =
    record { value = e ∙ turned_total t u xs; load_falls = load_falls t u pt pu xs; fewest = fewest t u pt pu xs; mends = mends_turned t u pt pu xs }
