-- The order of a roster.
use Rattle.std.proofs.Common.{◌≡◌, ℕ, ◌+◌, true, false, cond, ◌≢◌, List, [], ◌∷◌, sym, refl, ap, ◌∙◌, subst, inl, inr, ⊎_elim, arith}
use Rattle.std.specs.List.{AllByRecursion}
use Rattle.std.proofs.ByRecursion.{All-weaker}
use Rattle.std.proofs.lemmas.Bool.{cond_both, cond-true, cond-false, both_ways, false_from_ne_true}
use Rattle.fairway.specs.Times.{Time, Proper}
use Rattle.fairway.specs.Behind.{behind}
use Rattle.fairway.specs.declared.course.Course.{Course}
use Rattle.fairway.specs.Orders.{Holds, Same, Apart, Sorted, put, order}
use Rattle.fairway.proofs.Laws.{irreflexive, transitive, differ}
use Rattle.fairway.specs.Runs.{OrderIs}
pub use Rattle.fairway.proofs.Pairwise.{all_put}
use Rattle.fairway.proofs.Totals.{over, tri, full, over_same, over_none, over_add, over_all}

pub self : (t : Time) (u : Course) → behind t u u ≡ false
self t u = false_from_ne_true (behind t u u) (irreflexive t u)

pub back : (t : Time) (u w : Course) → behind t u w ≡ true → behind t w u ≡ false
back t u w h = false_from_ne_true (behind t w u) (λ i. irreflexive t u (transitive t u w u h i))

-- of two vessels with different numbers one is behind
pub other : (t : Time) → Proper t → (u w : Course) → u.number ≢ w.number → behind t u w ≡ false → behind t w u ≡ true
other t pr u w n h =
    ⊎_elim (λ i. absurd (both_ways (behind t u w) h i)) (λ i. i) (differ t pr u w n)

-- ---- put and order keep what holds of each, the sum over all, and who is there
pub all_order : (P : Course → Type 0) (t : Time) (xs : List Course) → AllByRecursion P xs → AllByRecursion P (order t xs)
all_order P t [] h = tt
all_order P t (x ∷ xs) h = all_put P t x (order t xs) h.0 (all_order P t xs h.1)

pub over_put : (f : Course → ℕ) (t : Time) (x : Course) (xs : List Course) → over f (put t x xs) ≡ f x + over f xs
over_put f t x [] = refl
over_put f t x (y ∷ ys) =
    let ih = over_put f t x ys in
    cond_both (behind t x y) (x ∷ y ∷ ys) (y ∷ put t x ys) (λ l. over f l ≡ f x + over f (y ∷ ys)) (λ _. refl) (λ _. omega (arith, ih))

pub over_order : (f : Course → ℕ) (t : Time) (xs : List Course) → over f (order t xs) ≡ over f xs
over_order f t [] = refl
over_order f t (x ∷ xs) = over_put f t x (order t xs) ∙ ap (λ n. f x + n) (over_order f t xs)

pub full_order : (g : Course → Course → ℕ) (t : Time) (xs : List Course) → full g (order t xs) (order t xs) ≡ full g xs xs
full_order g t xs =
    over_order (λ x. over (g x) (order t xs)) t xs
    ∙ over_all (λ x. over (g x) (order t xs)) (λ x. over (g x) xs) (λ x. over_order (g x) t xs) xs

pub holds_put : (t : Time) (x : Course) (xs : List Course) (c : Course) → (Holds (put t x xs) c → Holds (x ∷ xs) c) × (Holds (x ∷ xs) c → Holds (put t x xs) c)
holds_put t x [] c = ((λ h. h), (λ h. h))
holds_put t x (y ∷ ys) c =
    let ih = holds_put t x ys c in
    cond_both (behind t x y) (x ∷ y ∷ ys) (y ∷ put t x ys) (λ l. (Holds l c → Holds (x ∷ y ∷ ys) c) × (Holds (x ∷ y ∷ ys) c → Holds l c))
    (λ _. ((λ h. h), (λ h. h)))
    (λ _. (
      (⊎_elim (λ e. inr (inl e)) (λ h. ⊎_elim (λ e. inl e) (λ k. inr (inr k)) (ih.0 h))),
      (⊎_elim (λ e. inr (ih.1 (inl e))) (⊎_elim (λ e. inl e) (λ h. inr (ih.1 (inr h))))),
    ))

pub same_order : (t : Time) (xs : List Course) → Same (order t xs) xs
same_order t [] c = ((λ h. h), (λ h. h))
same_order t (x ∷ xs) c =
    let ih = same_order t xs c in
    let p = holds_put t x (order t xs) c in
    ((λ h. ⊎_elim inl (λ k. inr (ih.0 k)) (p.0 h)), (λ h. p.1 (⊎_elim inl (λ k. inr (ih.1 k)) h)))

-- ---- the order is sorted
pub sorted_put : (t : Time) → Proper t → (x : Course) (xs : List Course) → AllByRecursion (λ y. x.number ≢ y.number) xs → Sorted t xs → Sorted t (put t x xs)
sorted_put t pr x [] n s = (tt, tt)
sorted_put t pr x (y ∷ ys) n s =
    let ih = sorted_put t pr x ys n.1 s.1 in
    cond_both (behind t x y) (x ∷ y ∷ ys) (y ∷ put t x ys) (Sorted t)
    (λ h. ((h, All-weaker (λ z. behind t y z ≡ true) (λ z. behind t x z ≡ true) (λ z i. transitive t x y z h i) ys s.0), s))
    (λ h. (all_put (λ z. behind t y z ≡ true) t x ys (other t pr x y n.0 h) s.0, ih))

pub sorted_order : (t : Time) → Proper t → (xs : List Course) → Apart xs → Sorted t (order t xs)
sorted_order t pr [] a = tt
sorted_order t pr (x ∷ xs) a =
    sorted_put t pr x (order t xs) (all_order (λ y. x.number ≢ y.number) t xs a.0) (sorted_order t pr xs a.1)

-- ---- the order is the only sorted list of these courses
pub held : (P : Course → Type 0) (xs : List Course) (c : Course) → AllByRecursion P xs → Holds xs c → P c
held P [] c a h = absurd h
held P (x ∷ xs) c a (inl e) = subst P e a.0
held P (x ∷ xs) c a (inr h) = held P xs c a.1 h

-- a roster has one course of each number
pub one_course : (xs : List Course) → Apart xs → (x y : Course) → Holds xs x → Holds xs y → x.number ≡ y.number → x ≡ y
one_course [] a x y i j e = absurd i
one_course (z ∷ zs) a x y (inl p) (inl q) e = sym p ∙ q
one_course (z ∷ zs) a x y (inl p) (inr j) e = absurd (held (λ v. z.number ≢ v.number) zs y a.0 j (ap (λ c. c.number) p ∙ e))
one_course (z ∷ zs) a x y (inr i) (inl q) e = absurd (held (λ v. z.number ≢ v.number) zs x a.0 i (ap (λ c. c.number) q ∙ sym e))
one_course (z ∷ zs) a x y (inr i) (inr j) e = one_course zs a.1 x y i j e

pub unique : (t : Time) (xs ys : List Course) → Sorted t xs → Sorted t ys → Same xs ys → xs ≡ ys
unique t [] [] s r m = refl
unique t [] (y ∷ ys) s r m = absurd ((m y).1 (inl refl))
unique t (x ∷ xs) [] s r m = absurd ((m x).0 (inl refl))
unique t (x ∷ xs) (y ∷ ys) s r m =
    let e : x ≡ y =
    ⊎_elim (λ e. sym e)
    (λ h. ⊎_elim (λ e. e)
    (λ k. absurd (irreflexive t x (transitive t x y x (held (λ z. behind t x z ≡ true) xs y s.0 k) (held (λ z. behind t y z ≡ true) ys x r.0 h))))
    ((m y).1 (inl refl)))
    ((m x).0 (inl refl)) in
    ap (λ z. z ∷ xs) e ∙ ap (λ l. y ∷ l) (unique t xs ys s.1 r.1 (λ c. (
      (λ h. ⊎_elim (λ i. absurd (irreflexive t x (subst (λ z. behind t x z ≡ true) (sym i ∙ sym e) (held (λ z. behind t x z ≡ true) xs c s.0 h)))) (λ k. k) ((m c).0 (inr h))),
      (λ h. ⊎_elim (λ i. absurd (irreflexive t y (subst (λ z. behind t y z ≡ true) (sym i ∙ e) (held (λ z. behind t y z ≡ true) ys c r.0 h)))) (λ k. k) ((m c).1 (inr h))),
    )))

pub order_is : OrderIs
order_is t pr xs a =
    record {
      sorted = sorted_order t pr xs a;
      same = same_order t xs;
      only =
          (λ ys s m. unique t ys (order t xs) s (sorted_order t pr xs a) (λ c. let n = same_order t xs c in ((λ h. n.1 ((m c).0 h)), (λ h. (m c).1 (n.0 h)))));
    }

-- ---- the pairs of a sorted list are the pairs of which one is behind
pub tri_full : (g : Course → Course → ℕ) (t : Time) (xs : List Course) → Sorted t xs → tri g xs ≡ full (λ x y. cond (behind t x y) (g x y) 0) xs xs
tri_full g t [] s = refl
tri_full g t (x ∷ xs) s =
    let G : Course → Course → ℕ = λ x y. cond (behind t x y) (g x y) 0 in
    let a : G x x ≡ 0 = cond-false (behind t x x) (g x x) 0 (self t x) in
    let b : over (G x) xs ≡ over (g x) xs = over_same (G x) (g x) xs (All-weaker (λ y. behind t x y ≡ true) (λ y. G x y ≡ g x y) (λ y h. cond-true (behind t x y) (g x y) 0 h) xs s.0) in
    let c : over (λ y. G y x) xs ≡ 0 = over_none (λ y. G y x) xs (All-weaker (λ y. behind t x y ≡ true) (λ y. G y x ≡ 0) (λ y h. cond-false (behind t y x) (g y x) 0 (back t x y h)) xs s.0) in
    let d = over_add (λ y. G y x) (λ y. over (G y) xs) xs in
    omega (arith, a, b, c, d, tri_full g t xs s.1)
