-- The load falls at a mend: the mended match has a faster winner, and none above it has more faster vessels beneath it.
use Rattle.std.proofs.Common.{◌≡◌, ℕ, zero, suc, ◌+◌, ◌-◌, ◌*◌, ◌<◌, ◌≤◌, Bool, true, false, cond, ltb, List, [], ◌∷◌, ◌++◌, get_or, sum_by, ◌≤ℤ◌, ◌<ℤ◌, Some, None, Option, sym, refl, ap, ◌∙◌, subst, inl, inr, ⊎_elim, arith}
use lib.Signed.{lt_z}
use Rattle.std.specs.List.{range_with_len}
use Rattle.std.proofs.lemmas.Int.{ints, by_lt_z}
use Rattle.std.proofs.lemmas.List.Sums.{sum_by-cons}
use Rattle.std.proofs.lemmas.Bool.{cases_eq, cases_lt, cases_Bool, cond-true, cond-false, cond_both, lt-ltb, le-ltb, both_ways}
use Rattle.event_queue.proofs.Options.{none_some, some_same}
use Rattle.fairway.specs.Times.{Time}
use Rattle.fairway.specs.Courses.{place, faster, Due}
use Rattle.fairway.specs.Behind.{behind}
use Rattle.fairway.specs.Orders.{Holds, faster_than}
use Rattle.fairway.specs.Standing.{InOrderOrDue}
use Rattle.fairway.specs.declared.course.Course.{Course}
use Rattle.fairway.proofs.Laws.{lesser_behind, level_slower}
use Rattle.fairway.proofs.Standings.{behind_place, due_back}
use Rattle.kinetic.specs.Numbers.{among}
use Rattle.tournament.specs.Places.{taken}
use Rattle.tournament.specs.Matches.{node_at, second_wins, winner, certificate_of, certificate_at, won_by_second, AllDrawn}
use Rattle.tournament.specs.Standing.{StandsAt}
use Rattle.tournament.specs.Loads.{beneath, faster_than_winner, match_load, load}
use Rattle.tournament.specs.Rounds.{PlayedAbove}
use Rattle.tournament.specs.NodesLemmas.{reach, below, at_place, descend_beneath}
use Rattle.tournament.specs.LoadsLemmas.{sum_le}

-- ---- sums
sum_lt : (n a : ℕ) (g h : ℕ → ℕ) (m : ℕ) → a ≤ m → m < a + n → ((i : ℕ) → i < a + n → g i ≤ h i) → g m < h m → sum_by g (range_with_len a n) < sum_by h (range_with_len a n)
sum_lt zero a g h m k l p q = absurd (omega arith)
sum_lt (suc n) a g h m k l p q =
    let x = sum_by-cons g a (range_with_len (a + 1) n) in
    let y = sum_by-cons h a (range_with_len (a + 1) n) in
    ⊎_elim
    (λ (e : m ≡ a). let q' : g a < h a = subst (λ z. g z < h z) e q in omega (arith, x, y, sum_le n (a + 1) g h (λ i z. p i (omega arith))))
    (λ (e : m ≡ a → ⊥). omega (arith, x, y, sum_lt n (a + 1) g h m (omega arith) (omega arith) (λ i z. p i (omega arith)) q, p a (omega arith)))
    (cases_eq m a)

-- ---- counts of faster vessels
unfoldable one_fast : Course → Course → ℕ
one_fast w v = cond (faster v w) 1 0

count_more : (w v : Course) (vs : List Course) → faster_than w (v ∷ vs) ≡ one_fast w v + faster_than w vs
unfolding one_fast
count_more w v vs = sum_by-cons (λ v. cond (faster v w) 1 0) v vs

one_less : (v n o : Course) → o.speed ≤ℤ n.speed → one_fast n v ≤ one_fast o v
unfolding one_fast
one_less v n o h =
    ⊎_elim
    (λ f. let g : faster v o ≡ true = grind (arith, ints) in omega (arith, cond-true {A = ℕ} (faster v n) 1 0 f, cond-true {A = ℕ} (faster v o) 1 0 g))
    (λ f. omega (arith, cond-false {A = ℕ} (faster v n) 1 0 f))
    (cases_Bool (faster v n))

-- fewer are faster than a winner that is no slower
faster_less : (vs : List Course) (n o : Course) → o.speed ≤ℤ n.speed → faster_than n vs ≤ faster_than o vs
faster_less [] n o h = omega arith
faster_less (v ∷ vs) n o h = omega (arith, count_more n v vs, count_more o v vs, one_less v n o h, faster_less vs n o h)

one_none : (v n : Course) → v ≡ n → one_fast n v ≡ 0
unfolding one_fast
one_none v n e = let s : lt_z n.speed n.speed ≡ false = grind (arith, ints) in ap (λ z. cond (faster z n) 1 0) e ∙ cond-false {A = ℕ} (faster n n) 1 0 s

one_some : (v n o : Course) → v ≡ n → o.speed <ℤ n.speed → one_fast o v ≡ 1
unfolding one_fast
one_some v n o e h = let f : lt_z o.speed n.speed ≡ true = grind (arith, ints) in ap (λ z. cond (faster z o) 1 0) e ∙ cond-true {A = ℕ} (faster n o) 1 0 f

-- the faster winner was counted, and is no more
faster_falls : (vs : List Course) (n o : Course) → o.speed <ℤ n.speed → Holds vs n → faster_than n vs < faster_than o vs
faster_falls [] n o h k = absurd k
faster_falls (v ∷ vs) n o h (inl e) =
    omega (arith, count_more n v vs, count_more o v vs, one_none v n e, one_some v n o e h, faster_less vs n o (omega (arith, ints)))
faster_falls (v ∷ vs) n o h (inr k) = omega (arith, count_more n v vs, count_more o v vs, one_less v n o (omega (arith, ints)), faster_falls vs n o h k)

-- ---- who is behind, and who is not
is_behind : (t : Time) (x y : Course) → behind t x y ≡ true → (place t x ≤ℤ place t y) × (place t x ≡ place t y → x.speed ≤ℤ y.speed)
is_behind t x y h = (behind_place t x y h, (λ e. let f = level_slower t x y h e in grind (arith, ints)))

not_behind : (t : Time) (x y : Course) → behind t x y ≡ false → (place t y ≤ℤ place t x) × (place t x ≡ place t y → y.speed ≤ℤ x.speed)
not_behind t x y h = (
  by_lt_z (place t x) (place t y) (λ l. absurd (both_ways (behind t x y) h (lesser_behind t x y l))) (λ l. l),
  (λ e. by_lt_z x.speed y.speed (λ l. absurd (both_ways (behind t x y) h (due_back t y x (sym e, l)))) (λ l. l)),
)

-- ---- a mend
-- both none, or level and no slower
abbrev Stronger : Time → Option Course → Option Course → Type 0
Stronger t None None = Unit {0}
Stronger t None (Some o) = ⊥
Stronger t (Some n) None = ⊥
Stronger t (Some n) (Some o) = (place t n ≡ place t o) × (o.speed ≤ℤ n.speed)

module _ (t : Time) where
  stronger_same : (o : Option Course) → Stronger t o o
  stronger_same None = tt
  stronger_same (Some o) = (refl, omega (arith, ints))

  not_past : (x y : Course) → InOrderOrDue t x y → place t x ≤ℤ place t y
  not_past x y (inl b) = (is_behind t x y b).0
  not_past x y (inr d) = omega (arith, ints)

  stronger_two : (x y x' y' : Course) (r : Bool) → Stronger t (Some x') (Some x) → Stronger t (Some y') (Some y) → InOrderOrDue t (cond r x y) (cond r y x) → Stronger t (Some (cond (behind t x' y') y' x')) (Some (cond r y x))
  stronger_two x y x' y' true p q o =
      let l = not_past x y o in
      cond_both (behind t x' y') y' x' (λ z. Stronger t (Some z) (Some y))
      (λ b. q)
      (λ b. let n = not_behind t x' y' b in
      let e : place t x' ≡ place t y' = omega (arith, ints) in
      let s = n.1 e in
      (omega (arith, ints), omega (arith, ints)))
  stronger_two x y x' y' false p q o =
      let l = not_past y x o in
      cond_both (behind t x' y') y' x' (λ z. Stronger t (Some z) (Some x))
      (λ b. let n = is_behind t x' y' b in
      let e : place t x' ≡ place t y' = omega (arith, ints) in
      let s = n.1 e in
      (omega (arith, ints), omega (arith, ints)))
      (λ b. p)

  abbrev Ordered : Bool → Option Course → Option Course → Type 0
  Ordered r a b = (x y : Course) → certificate_of r a b ≡ Some (x, y) → InOrderOrDue t x y

  -- a match played again between two that are stronger
  stronger_play : (r : Bool) (a b a' b' : Option Course) → Stronger t a' a → Stronger t b' b → Ordered r a b → Stronger t (winner (second_wins t a' b') a' b') (winner r a b)
  stronger_play r None b None b' p q o = q
  stronger_play r None b (Some x') b' p q o = absurd p
  stronger_play r (Some x) b None b' p q o = absurd p
  stronger_play r (Some x) None (Some x') None p q o = p
  stronger_play r (Some x) None (Some x') (Some y') p q o = absurd q
  stronger_play r (Some x) (Some y) (Some x') None p q o = absurd q
  stronger_play r (Some x) (Some y) (Some x') (Some y') p q o = stronger_two x y x' y' r p q (o (cond r x y) (cond r y x) refl)

  -- the mended match has a faster winner
  faster_two : (x y x' y' : Course) (r : Bool) → Stronger t (Some x') (Some x) → Stronger t (Some y') (Some y) → Due t (cond r x y) (cond r y x) → (cond r y x).speed <ℤ (cond (behind t x' y') y' x').speed
  faster_two x y x' y' true p q d =
      cond_both (behind t x' y') y' x' (λ (z : Course). y.speed <ℤ z.speed)
      (λ b. let s = (is_behind t x' y' b).1 (omega (arith, ints)) in omega (arith, ints))
      (λ b. omega (arith, ints))
  faster_two x y x' y' false p q d =
      cond_both (behind t x' y') y' x' (λ (z : Course). x.speed <ℤ z.speed)
      (λ b. omega (arith, ints))
      (λ b. let s = (not_behind t x' y' b).1 (omega (arith, ints)) in omega (arith, ints))

  abbrev FasterWinner : Option Course → Option Course → Type 0
  FasterWinner n o = (v : Course) × (w : Course) × (n ≡ Some v) × (o ≡ Some w) × (w.speed <ℤ v.speed)

  faster_play : (r : Bool) (a b a' b' : Option Course) (x y : Course) → Stronger t a' a → Stronger t b' b → certificate_of r a b ≡ Some (x, y) → Due t x y → FasterWinner (winner (second_wins t a' b') a' b') (winner r a b)
  faster_play r None b a' b' x y p q e d = absurd (none_some e)
  faster_play r (Some u) None a' b' x y p q e d = absurd (none_some e)
  faster_play r (Some u) (Some v) None b' x y p q e d = absurd p
  faster_play r (Some u) (Some v) (Some u') None x y p q e d = absurd q
  faster_play r (Some u) (Some v) (Some u') (Some v') x y p q e d =
      let s = some_same e in
      (cond (behind t u' v') v' u', cond r v u, refl, refl, faster_two u v u' v' r p q (subst (λ (z : Course × Course). Due t z.0 z.1) (sym s) d))

  than_less : (n o : Option Course) (vs : List Course) → Stronger t n o → faster_than_winner n vs ≤ faster_than_winner o vs
  than_less None None vs s = omega arith
  than_less None (Some o) vs s = absurd s
  than_less (Some n) None vs s = absurd s
  than_less (Some n) (Some o) vs s = faster_less vs n o s.1

  module _ (ns ns' : List (Option Course)) (numbers : List ℕ) (from : ℕ) (drawn : AllDrawn ns) (again : PlayedAbove t from ns ns' numbers) (stands : StandsAt t ns) where
    place_same : (k : ℕ) → 63 ≤ k → node_at ns' k ≡ node_at ns k
    place_same k h = sym (at_place ns' k h) ∙ ap (λ l. get_or l (k - 63) None) again.places ∙ at_place ns k h

    beneath_same : (f k : ℕ) → reach f ≤ k → beneath f ns' k ≡ beneath f ns k
    beneath_same zero k h = ap (λ o. taken (o ∷ [])) (place_same k h)
    beneath_same (suc f) k h =
        let p = beneath_same f (2 * k + 1) (below f k h).0 in
        let q = beneath_same f (2 * k + 2) (below f k h).1 in
        let e : beneath f ns' (2 * k + 1) ++ beneath f ns' (2 * k + 2) ≡ beneath f ns (2 * k + 1) ++ beneath f ns (2 * k + 2) = ap (λ l. l ++ beneath f ns' (2 * k + 2)) p ∙ ap (λ l. beneath f ns (2 * k + 1) ++ l) q in
        ⊎_elim
        (λ (l : k < 63). cond-true (ltb k 63) _ _ (lt-ltb k 63 l) ∙ e ∙ sym (cond-true (ltb k 63) _ _ (lt-ltb k 63 l)))
        (λ (l : 63 ≤ k). cond-false (ltb k 63) _ _ (le-ltb k 63 l) ∙ ap (λ o. taken (o ∷ [])) (place_same k l) ∙ sym (cond-false (ltb k 63) _ _ (le-ltb k 63 l)))
        (cases_lt k 63)

    stronger_at : (f k : ℕ) → reach f ≤ k → Stronger t (node_at ns' k) (node_at ns k)
    stronger_at zero k h = subst (λ z. Stronger t z (node_at ns k)) (sym (place_same k h)) (stronger_same (node_at ns k))
    stronger_at (suc f) k h =
        ⊎_elim
        (λ (l : k < 63).
        let n = again.matches k l in
        let a = node_at ns (2 * k + 1) in
        let b = node_at ns (2 * k + 2) in
        let a' = node_at ns' (2 * k + 1) in
        let b' = node_at ns' (2 * k + 2) in
        ⊎_elim
        (λ y. subst (λ z. Stronger t z (node_at ns k)) (sym (n.played y))
        (subst (Stronger t (winner (second_wins t a' b') a' b')) (sym (drawn k l))
        (stronger_play (won_by_second ns k) a b a' b' (stronger_at f (2 * k + 1) (below f k h).0) (stronger_at f (2 * k + 2) (below f k h).1) (stands k))))
        (λ z. subst (λ v. Stronger t v (node_at ns k)) (sym (n.same_winner z)) (stronger_same (node_at ns k)))
        (cases_Bool (among k numbers)))
        (λ (l : 63 ≤ k). subst (λ z. Stronger t z (node_at ns k)) (sym (place_same k l)) (stronger_same (node_at ns k)))
        (cases_lt k 63)

    -- a match whose number is not answered has the load that it had
    pub match_same : (i : ℕ) → among i numbers ≡ false → match_load ns' i ≡ match_load ns i
    match_same i z =
        let w : node_at ns' i ≡ node_at ns i =
        ⊎_elim (λ (l : i < 63). (again.matches i l).same_winner z) (λ (l : 63 ≤ i). place_same i l) (cases_lt i 63) in
        ap (λ l. faster_than_winner (node_at ns' i) l) (beneath_same 6 i (omega arith)) ∙ ap (λ o. faster_than_winner o (beneath 6 ns i)) w

    -- no match has more faster vessels beneath it
    pub match_less : (i : ℕ) → match_load ns' i ≤ match_load ns i
    match_less i =
        subst (λ l. faster_than_winner (node_at ns' i) l ≤ match_load ns i) (sym (beneath_same 6 i (omega arith))) (than_less (node_at ns' i) (node_at ns i) (beneath 6 ns i) (stronger_at 6 i (omega arith)))

    -- the mended one has fewer
    pub match_falls : (i : ℕ) → i < 63 → among i numbers ≡ true → (x y : Course) → certificate_at ns i ≡ Some (x, y) → Due t x y → match_load ns' i < match_load ns i
    match_falls i l y x f e d =
        let n = again.matches i l in
        let a = node_at ns (2 * i + 1) in
        let b = node_at ns (2 * i + 2) in
        let a' = node_at ns' (2 * i + 1) in
        let b' = node_at ns' (2 * i + 2) in
        let w = faster_play (won_by_second ns i) a b a' b' x f (stronger_at 6 (2 * i + 1) (omega arith)) (stronger_at 6 (2 * i + 2) (omega arith)) e d in
        let p : node_at ns' i ≡ Some w.0 = n.played y ∙ w.2 in
        let q : node_at ns i ≡ Some w.1 = drawn i l ∙ w.3 in
        let k : Holds (beneath 6 ns' i) w.0 = descend_beneath ns' (λ j h. (again.matches j h).drawn) 6 i w.0 (omega arith) p in
        let s = faster_falls (beneath 6 ns' i) w.0 w.1 w.4 k in
        subst (λ z. faster_than_winner z (beneath 6 ns' i) < match_load ns i) (sym p)
        (subst (λ z. faster_than w.0 (beneath 6 ns' i) < faster_than_winner z (beneath 6 ns i)) (sym q)
        (subst (λ l. faster_than w.0 (beneath 6 ns' i) < faster_than w.1 l) (beneath_same 6 i (omega arith)) s))

    pub falls : (i : ℕ) → i < 63 → among i numbers ≡ true → (x y : Course) → certificate_at ns i ≡ Some (x, y) → Due t x y → load ns' < load ns
    unfolding load
    falls i l y x f e d = sum_lt 63 0 (match_load ns') (match_load ns) i (omega arith) l (λ j _. match_less j) (match_falls i l y x f e d)
