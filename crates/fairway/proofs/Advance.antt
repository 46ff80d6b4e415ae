-- An advance: the load, runs of exchanges, and mends.
use Rattle.std.proofs.Common.{◌≡◌, ℕ, ◌+◌, ◌≤◌, Bool, true, false, cond, ◌&&◌, eqb, ◌≢◌, ◌⊎◌, List, [], ◌∷◌, map, sym, refl, ap, ◌∙◌, subst, inl, inr, ⊎_elim, arith}
use Rattle.std.proofs.ByRecursion.{All-weaker}
use Rattle.std.proofs.lemmas.Int.{ints}
use Rattle.std.proofs.lemmas.Bool.{cases_eq, cond-true, cond-false, both_ways, eq-eqb, ne_eqb}
use Rattle.fairway.specs.Times.{Time, Proper, ◌≤ᵗ◌}
use Rattle.fairway.specs.Courses.{faster, Due}
use Rattle.fairway.specs.Behind.{behind}
use Rattle.fairway.specs.declared.course.Course.{Course}
use Rattle.fairway.specs.declared.pair.Pair.{Pair}
use Rattle.fairway.specs.Orders.{Holds, Apart, Sorted, order, pair, pairs, load, fast, turns, twos, turned, Exchange, here, there, Run, still, step, Mends, none, mend, is_pair}
use Rattle.fairway.specs.Runs.{LoadFalls, Fewest, Loses, MendsTurned}
use Rattle.fairway.proofs.Laws.{irreflexive, differ}
use Rattle.fairway.proofs.Kinetic.{stays}
use Rattle.fairway.proofs.Totals.{over, tri, full, over_is, over_append, over_map, over_none, over_all, over_kept, over_joined, length_over, full_same, full_add}
use Rattle.fairway.proofs.Alike.{shuffled_from_alike, pair_eq}
use Rattle.fairway.proofs.Sorting.{held, one_course, back, sorted_order, full_order, tri_full}

-- ---- lists of pairs, as sums
over_pairs : (w : Pair → ℕ) (xs : List Course) → over w (pairs xs) ≡ tri (λ x y. w (pair x y)) xs
over_pairs w [] = refl
over_pairs w (x ∷ xs) =
    omega (arith, over_append w (map (pair x) xs) (pairs xs), over_map w (pair x) xs, over_pairs w xs)

over_twos : (w : Pair → ℕ) (xs : List Course) → over w (twos xs) ≡ full (λ x y. w (pair x y)) xs xs
over_twos w xs =
    over_joined w (λ x. map (pair x) xs) xs
    ∙ over_all (λ x. over w (map (pair x) xs)) (λ x. over (λ y. w (pair x y)) xs) (λ x. over_map w (pair x) xs) xs

pub over_turned : (w : Pair → ℕ) (t u : Time) (xs : List Course) → over w (turned t u xs) ≡ full (λ x y. cond (turns t u (pair x y)) (w (pair x y)) 0) xs xs
over_turned w t u xs = over_kept w (turns t u) (twos xs) ∙ over_twos (λ p. cond (turns t u p) (w p) 0) xs

-- the pairs of the order at t
tri_order : (g : Course → Course → ℕ) (t : Time) → Proper t → (xs : List Course) → Apart xs → tri g (order t xs) ≡ full (λ x y. cond (behind t x y) (g x y) 0) xs xs
tri_order g t pr xs a =
    tri_full g t (order t xs) (sorted_order t pr xs a) ∙ full_order (λ x y. cond (behind t x y) (g x y) 0) t xs

-- ---- one pair over an advance: faster, behind before, behind after, in front after
one : (F a b c : Bool) (w : ℕ) → (F ≡ true → b ≡ true → a ≡ true) → (a ≡ true → (b ≡ true) ⊎ (c ≡ true)) → (b ≡ true → c ≡ false) → (F ≡ false → a ≡ true → c ≡ false) →
    cond a (cond F w 0) 0 ≡ cond b (cond F w 0) 0 + cond (a && c) w 0
one F a b c w p q r s = grind arith

pub due_faster : (t : Time) (r f : Course) → Due t r f → faster r f ≡ true
due_faster t r f d = grind (arith, ints)

slower : (x y : Course) → faster x y ≡ true → faster y x ≡ false
slower x y h = grind (arith, ints)

-- of two courses of a roster one is behind, unless they are the same
one_behind : (t : Time) → Proper t → (x y : Course) → (x.number ≡ y.number → x ≡ y) → (x ≡ y) ⊎ ((behind t x y ≡ true) ⊎ (behind t y x ≡ true))
one_behind t pt x y s = ⊎_elim (λ e. inl (s e)) (λ n. inr (differ t pt x y n)) (cases_eq x.number y.number)

-- sums over what a roster holds
over_in : (f g : Course → ℕ) (xs : List Course) → ((x : Course) → Holds xs x → f x ≡ g x) → over f xs ≡ over g xs
over_in f g [] h = refl
over_in f g (x ∷ xs) h = omega (arith, h x (inl refl), over_in f g xs (λ y k. h y (inr k)))

full_in : (g h : Course → Course → ℕ) (xs ys : List Course) → ((x y : Course) → Holds xs x → Holds ys y → g x y ≡ h x y) → full g xs ys ≡ full h xs ys
full_in g h xs ys e = over_in (λ x. over (g x) ys) (λ x. over (h x) ys) xs (λ x i. over_in (g x) (h x) ys (λ y j. e x y i j))

module _ (t u : Time) (pt : Proper t) (pu : Proper u) (later : t ≤ᵗ u) where
  balance : (w : Course → Course → ℕ) (x y : Course) → (x.number ≡ y.number → x ≡ y) →
      cond (behind t x y) (cond (faster x y) (w x y) 0) 0 ≡ cond (behind u x y) (cond (faster x y) (w x y) 0) 0 + cond (turns t u (pair x y)) (w x y) 0
  balance w x y s =
      one (faster x y) (behind t x y) (behind u x y) (behind u y x) (w x y)
      (λ f h. ⊎_elim
      (λ e. absurd (irreflexive u x (subst (λ z. behind u x z ≡ true) (sym e) h)))
      (⊎_elim (λ i. i) (λ i. absurd (both_ways (behind u y x) (back u x y h) (stays y x (slower x y f) t u pt pu later i))))
      (one_behind t pt x y s))
      (λ h. ⊎_elim (λ e. absurd (irreflexive t x (subst (λ z. behind t x z ≡ true) (sym e) h))) (λ i. i) (one_behind u pu x y s))
      (λ h. back u x y h)
      (λ f h. back u x y (stays x y f t u pt pu later h))

  -- the pairs with a faster rear, each with its weight
  weighed : (w : Course → Course → ℕ) (xs : List Course) → Apart xs →
      tri (λ x y. cond (faster x y) (w x y) 0) (order t xs) ≡ tri (λ x y. cond (faster x y) (w x y) 0) (order u xs) + over (λ p. w p.rear p.front) (turned t u xs)
  weighed w xs a =
      let g : Course → Course → ℕ = λ x y. cond (faster x y) (w x y) 0 in
      let gu : Course → Course → ℕ = λ x y. cond (behind u x y) (g x y) 0 in
      let gt : Course → Course → ℕ = λ x y. cond (turns t u (pair x y)) (w x y) 0 in
      omega (
        arith,
        tri_order g t pt xs a,
        tri_order g u pu xs a,
        over_turned (λ p. w p.rear p.front) t u xs,
        full_in (λ x y. cond (behind t x y) (g x y) 0) (λ x y. gu x y + gt x y) xs xs (λ x y i j. balance w x y (one_course xs a x y i j)),
        full_add gu gt xs xs,
      )

pub load_is : (xs : List Course) → load xs ≡ tri (λ x y. cond (faster x y) 1 0) xs
load_is xs = over_is (λ p. cond (faster p.rear p.front) 1 0) (pairs xs) ∙ over_pairs (λ p. cond (faster p.rear p.front) 1 0) xs

pub load_falls : (t u : Time) → Proper t → Proper u → (xs : List Course) → LoadFalls t u xs
load_falls t u pt pu xs later a =
    omega (arith, load_is (order t xs), load_is (order u xs), length_over (turned t u xs), weighed t u pt pu later (λ x y. 1) xs a)

-- ---- runs of exchanges
over_exchange : (f : Course → ℕ) {r s : Course} {xs ys : List Course} → Exchange r s xs ys → over f xs ≡ over f ys
over_exchange f here = omega arith
over_exchange f (there {x} e) = ap (λ n. f x + n) (over_exchange f e)

tri_exchange : (g : Course → Course → ℕ) {r f : Course} {xs ys : List Course} → Exchange r f xs ys → tri g xs + g f r ≡ tri g ys + g r f
tri_exchange g here = omega arith
tri_exchange g (there {x} e) = omega (arith, over_exchange (g x) e, tri_exchange g e)

-- the pairs that stand the wrong way round for u
wrong : Time → Course → Course → ℕ
wrong u x y = cond (behind u y x) 1 0

wrong_le : (u : Time) (x y : Course) → wrong u x y ≤ 1
unfolding wrong
wrong_le u x y = elim (behind u y x) as (λ b. cond b 1 0 ≤ 1) [ true ↦ omega arith | false ↦ omega arith ]

run_le : (u : Time) {n : ℕ} {xs ys : List Course} → Run n xs ys → tri (wrong u) xs ≤ n + tri (wrong u) ys
run_le u still = omega arith
run_le u (step {n} {r} {f} e k) = omega (arith, tri_exchange (wrong u) e, wrong_le u r f, run_le u k)

tri_right : (u : Time) (xs : List Course) → Sorted u xs → tri (wrong u) xs ≡ 0
unfolding wrong
tri_right u [] s = refl
tri_right u (x ∷ xs) s =
    omega (arith, tri_right u xs s.1, over_none (wrong u x) xs (All-weaker (λ y. behind u x y ≡ true) (λ y. wrong u x y ≡ 0) (λ y h. cond-false (behind u y x) 1 0 (back u x y h)) xs s.0))

and_cond : (a b : Bool) (n : ℕ) → cond (a && b) n 0 ≡ cond a (cond b n 0) 0
and_cond true b n = refl
and_cond false b n = refl

pub fewest : (t u : Time) → Proper t → Proper u → (xs : List Course) → Fewest t u xs
unfolding wrong
fewest t u pt pu xs a n run =
    omega (
      arith,
      run_le u run,
      tri_right u (order u xs) (sorted_order u pu xs a),
      length_over (turned t u xs),
      over_turned (λ p. 1) t u xs,
      tri_order (wrong u) t pt xs a,
      full_same (λ x y. cond (turns t u (pair x y)) 1 0) (λ x y. cond (behind t x y) (wrong u x y) 0) (λ x y. and_cond (behind t x y) (behind u y x) 1) xs xs,
    )

-- ---- mends
mended : (t u : Time) (w : Course → Course → ℕ) {xs : List Course} {ps : List Pair} {ys : List Course} → Mends t u xs ps ys →
    tri (λ x y. cond (faster x y) (w x y) 0) xs ≡ over (λ p. w p.rear p.front) ps + tri (λ x y. cond (faster x y) (w x y) 0) ys
mended t u w none = omega arith
mended t u w (mend {r} {f} at h i d e k) =
    let F : faster r f ≡ true = due_faster at r f d in
    omega (arith, tri_exchange (λ x y. cond (faster x y) (w x y) 0) e, mended t u w k, cond-true (faster r f) (w r f) 0 F, cond-false (faster f r) (w f r) 0 (slower r f F))

-- a sum in which one vessel counts
pick : (h : Course → ℕ) (xs : List Course) → Apart xs → (c : Course) → Holds xs c → over (λ x. cond (eqb x.number c.number) (h x) 0) xs ≡ h c
pick h [] a c k = absurd k
pick h (x ∷ xs) a c (inl e) =
    let i : eqb x.number c.number ≡ true = eq-eqb x.number c.number (ap (λ z. z.number) e) in
    omega (
      arith,
      cond-true (eqb x.number c.number) (h x) 0 i,
      ap h e,
      over_none (λ y. cond (eqb y.number c.number) (h y) 0) xs
          (All-weaker (λ y. x.number ≢ y.number) (λ y. cond (eqb y.number c.number) (h y) 0 ≡ 0)
          (λ y n. cond-false (eqb y.number c.number) (h y) 0 (ne_eqb y.number c.number (λ q. n (ap (λ z. z.number) e ∙ sym q)))) xs a.0),
    )
pick h (x ∷ xs) a c (inr k) =
    let n = held (λ y. x.number ≢ y.number) xs c a.0 k in
    omega (arith, cond-false (eqb x.number c.number) (h x) 0 (ne_eqb x.number c.number n), pick h xs a.1 c k)

over_cond : {X : Type 0} (b : Bool) (k : X → ℕ) (xs : List X) → over (λ x. cond b (k x) 0) xs ≡ cond b (over k xs) 0
over_cond true k xs = refl
over_cond false k [] = refl
over_cond false k (x ∷ xs) = omega (arith, over_cond false k xs)

sift : (a b c : Bool) → cond a (cond (b && c) 1 0) 0 ≡ cond b (cond c (cond {A = ℕ} a 1 0) 0) 0
sift a b c = grind arith

once : (t u : Time) (xs : List Course) → Apart xs → (r f : Course) → Holds xs r → Holds xs f →
    over (λ p. cond (is_pair r f p) 1 0) (turned t u xs) ≡ cond (turns t u (pair r f)) 1 0
once t u xs a r f hr hf =
    let E : Course → Bool = λ x. eqb x.number r.number in
    let D : Course → Bool = λ y. eqb y.number f.number in
    let K : Course → Course → ℕ = λ x y. cond (D y) (cond (turns t u (pair x y)) 1 0) 0 in
    over_turned (λ p. cond (is_pair r f p) 1 0) t u xs
    ∙ full_same (λ x y. cond (turns t u (pair x y)) (cond (E x && D y) 1 0) 0) (λ x y. cond (E x) (K x y) 0) (λ x y. sift (turns t u (pair x y)) (E x) (D y)) xs xs
    ∙ over_all (λ x. over (λ y. cond (E x) (K x y) 0) xs) (λ x. cond (E x) (over (K x) xs) 0) (λ x. over_cond (E x) (K x) xs) xs
    ∙ pick (λ x. over (K x) xs) xs a r hr
    ∙ pick (λ y. cond (turns t u (pair r y)) 1 0) xs a f hf

pub mends_turned : (t u : Time) → Proper t → Proper u → (xs : List Course) → MendsTurned t u xs
mends_turned t u pt pu xs later a ps m =
    let alike : (w : Pair → ℕ) → over w ps ≡ over w (turned t u xs) =
    λ w. omega (arith, mended t u (λ x y. w (pair x y)) m, weighed t u pt pu later (λ x y. w (pair x y)) xs a) in (
      shuffled_from_alike pair_eq ps (turned t u xs) alike,
      (λ r f hr hf. over_is (λ p. cond (is_pair r f p) 1 0) ps ∙ alike (λ p. cond (is_pair r f p) 1 0) ∙ once t u xs a r f hr hf),
    )

over_fast : (w : Pair → ℕ) (xs : List Course) → over w (fast xs) ≡ tri (λ x y. cond (faster x y) (w (pair x y)) 0) xs
over_fast w xs = over_kept w (λ p. faster p.rear p.front) (pairs xs) ∙ over_pairs (λ p. cond (faster p.rear p.front) (w p) 0) xs

pub loses_one : Loses
loses_one r f xs ys F e =
    let g : (w : Course → Course → ℕ) → tri (λ x y. cond (faster x y) (w x y) 0) xs ≡ w r f + tri (λ x y. cond (faster x y) (w x y) 0) ys =
    λ w. omega (arith, tri_exchange (λ x y. cond (faster x y) (w x y) 0) e, cond-true (faster r f) (w r f) 0 F, cond-false (faster f r) (w f r) 0 (slower r f F)) in (
      shuffled_from_alike pair_eq (fast xs) (pair r f ∷ fast ys) (λ w. omega (arith, over_fast w xs, over_fast w ys, g (λ x y. w (pair x y)))),
      omega (arith, load_is xs, load_is ys, g (λ x y. 1)),
    )
