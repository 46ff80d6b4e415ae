-- The way up from a node: one match after the other is played.
use Rattle.std.proofs.Common.{◌≡◌, ℕ, ◌+◌, ◌*◌, ◌<◌, Bool, true, false, cond, ◌&&◌, ◌||◌, eqb, List, [], ◌∷◌, ◌++◌, length, set, Some, None, Option, sym, refl, ap, ◌∙◌, subst, inl, inr, ⊎_elim, length-append, get_or-set_same, get_or-set_other, arith}
use Rattle.std.specs.Ordering.{int_eq}
use Rattle.std.proofs.lemmas.Int.{ints}
use Rattle.std.proofs.lemmas.List.{drop-set-lt}
use Rattle.std.proofs.lemmas.Bool.{cases_eq, cases_Bool, eq-eqb, eqb-true, ne_eqb, and_parts, and_from, true≢false}
use Rattle.fairway.specs.Times.{Time}
use Rattle.fairway.specs.declared.course.Course.{Course}
use Rattle.fairway.proofs.Laws.{eq_course}
use Rattle.kinetic.specs.Numbers.{among}
use Rattle.tournament.specs.Matches.{node_at, is_same, second_wins, winner, is_second, certificate_of}
use Rattle.tournament.specs.Playing.{OneOf}
use Rattle.tournament.specs.Rounds.{Played, PlayedAt, PlayedBelow}

-- ---- the side that won, seen from the winner
same_yes : (x y : Course) → is_same x y ≡ true → x ≡ y
unfolding is_same
same_yes x y e =
    let a = and_parts (eqb x.number y.number) (int_eq x.speed y.speed && int_eq x.base y.base) e in
    let b = and_parts (int_eq x.speed y.speed) (int_eq x.base y.base) a.1 in
    eq_course x y (eqb-true x.number y.number a.0) (grind (arith, ints, b.0)) (grind (arith, ints, b.1))

same_self : (x : Course) → is_same x x ≡ true
unfolding is_same
same_self x = and_from (eqb x.number x.number) (int_eq x.speed x.speed && int_eq x.base x.base) (eq-eqb x.number x.number refl) (grind (arith, ints))

-- where both are the same course, either side gives the same winner and the same certificate
winner_again : (s : Bool) (a b : Option Course) → winner s a b ≡ winner (is_second (winner s a b) b) a b
winner_again s None b = refl
winner_again s (Some x) None = refl
winner_again true (Some x) (Some y) = ap (λ r. Some (cond r y x)) (sym (same_self y))
winner_again false (Some x) (Some y) =
    ⊎_elim
    (λ e. ap Some (same_yes x y e) ∙ ap (λ r. Some (cond r y x)) (sym e))
    (λ e. ap (λ r. Some (cond r y x)) (sym e))
    (cases_Bool (is_same x y))

pub certificate_again : (s : Bool) (a b : Option Course) → certificate_of (is_second (winner s a b) b) a b ≡ certificate_of s a b
certificate_again s None b = refl
certificate_again s (Some x) None = refl
certificate_again true (Some x) (Some y) = ap (λ r. Some (cond r x y, cond r y x)) (same_self y)
certificate_again false (Some x) (Some y) =
    ⊎_elim
    (λ e. ap (λ r. Some (cond r x y, cond r y x)) e ∙ ap (λ z. Some (z, y)) (same_yes x y e) ∙ ap (λ z. Some (y, z)) (sym (same_yes x y e)))
    (λ e. ap (λ r. Some (cond r x y, cond r y x)) e)
    (cases_Bool (is_same x y))

-- ---- numbers, added one by one
or_right : (a : Bool) → (a || true) ≡ true
or_right true = refl
or_right false = refl

pub among_last : (i : ℕ) (ns : List ℕ) → among i (ns ++ (i ∷ [])) ≡ true
among_last i [] = ap (λ b. b || false) (eq-eqb i i refl)
among_last i (x ∷ xs) = ap (λ b. eqb x i || b) (among_last i xs) ∙ or_right (eqb x i)

pub among_other : (i n : ℕ) (ns : List ℕ) → (i ≡ n → ⊥) → among i (ns ++ (n ∷ [])) ≡ among i ns
among_other i n [] h = ap (λ b. b || false) (ne_eqb n i (λ q. h (sym q)))
among_other i n (x ∷ xs) h = ap (λ b. eqb x i || b) (among_other i n xs h)

-- one match is above a node
pub same_match : (k i j : ℕ) → OneOf k j → OneOf k i → i ≡ j
same_match k i j (inl x) (inl y) = omega arith
same_match k i j (inl x) (inr y) = omega arith
same_match k i j (inr x) (inl y) = omega arith
same_match k i j (inr x) (inr y) = omega arith

-- ---- one match
module _ (t : Time) where
  -- played
  plays : {n : Bool} {w a b w' a' b' : Option Course} → n ≡ true → w' ≡ winner (second_wins t a' b') a' b' → Played t n w a b w' a' b'
  plays {n} {w} {a} {b} {w'} {a'} {b'} e p =
      let s = second_wins t a' b' in
      record {
        drawn = p ∙ winner_again s a' b' ∙ ap (λ z. winner (is_second z b') a' b') (sym p);
        same_winner = λ h. absurd (true≢false (sym e ∙ h));
        same_first = λ h. absurd (true≢false (sym e ∙ h));
        same_second = λ h. absurd (true≢false (sym e ∙ h));
        played = λ _. p;
      }

  -- a match of which each part is equal to one that is known
  moved : {w a b : Option Course} {n m : Bool} {w' a' b' u c d : Option Course} → m ≡ n → u ≡ w' → c ≡ a' → d ≡ b' → Played t n w a b w' a' b' → Played t m w a b u c d
  moved {w} {a} {b} {n} {m} {w'} {a'} {b'} {u} {c} {d} e q x y h =
      subst (λ z. Played t z w a b u c d) (sym e)
      (subst (λ z. Played t n w a b z c d) (sym q)
      (subst (λ z. Played t n w a b w' z d) (sym x)
      (subst (λ z. Played t n w a b w' a' z) (sym y) h)))

  module _ (from : ℕ) (ns : List (Option Course)) where
    pub turns : (ns' : List (Option Course)) (numbers numbers' : List ℕ) (k j : ℕ) (w : Option Course) → length ns' ≡ 127 → OneOf k j →
        w ≡ winner (second_wins t (node_at ns' (2 * j + 1)) (node_at ns' (2 * j + 2))) (node_at ns' (2 * j + 1)) (node_at ns' (2 * j + 2)) →
        numbers' ≡ numbers ++ (j ∷ []) →
        PlayedBelow t k from ns ns' numbers → PlayedBelow t j from ns (set ns' j w) numbers'
    turns ns' numbers numbers' k j w l p qw qn m =
        let low = m.low in
        let few = m.few in
        let j63 : j < 63 = ⊎_elim (λ (z : k ≡ 2 * j + 1). omega arith) (λ (z : k ≡ 2 * j + 2). omega arith) p in
        let ms = set ns' j w in
        let ea : node_at ms (2 * j + 1) ≡ node_at ns' (2 * j + 1) = get_or-set_other ns' j (2 * j + 1) w None (λ z. omega arith) in
        let eb : node_at ms (2 * j + 2) ≡ node_at ns' (2 * j + 2) = get_or-set_other ns' j (2 * j + 2) w None (λ z. omega arith) in
        let named_j : among j numbers' ≡ true = ap (among j) qn ∙ among_last j numbers in
        let other : (i : ℕ) → (i ≡ j → ⊥) → among i numbers' ≡ among i numbers = λ i q. ap (among i) qn ∙ among_other i j numbers q in
        let here : PlayedAt t numbers' ns ms j =
        plays named_j
        (get_or-set_same ns' j w None (omega arith) ∙ qw
        ∙ ap (λ z. winner (second_wins t z (node_at ns' (2 * j + 2))) z (node_at ns' (2 * j + 2))) (sym ea)
        ∙ ap (λ z. winner (second_wins t (node_at ms (2 * j + 1)) z) (node_at ms (2 * j + 1)) z) (sym eb)) in
        record {
          low = omega arith;
          few = ⊎_elim (λ (z : k ≡ 2 * j + 1). omega (arith, ap length qn, length-append numbers (j ∷ []))) (λ (z : k ≡ 2 * j + 2). omega (arith, ap length qn, length-append numbers (j ∷ []))) p;
          matches = λ i h x y.
              ⊎_elim
              (λ (q : i ≡ j). subst (PlayedAt t numbers' ns ms) (sym q) here)
              (λ (q : i ≡ j → ⊥).
              moved
              (other i q)
              (get_or-set_other ns' j i w None q)
              (get_or-set_other ns' j (2 * i + 1) w None (λ z. x (sym z)))
              (get_or-set_other ns' j (2 * i + 2) w None (λ z. y (sym z)))
              (m.matches i h (λ z. q (⊎_elim (λ (v : k ≡ 2 * j + 1). omega arith) (λ (v : k ≡ 2 * j + 2). omega arith) p)) (λ z. q (⊎_elim (λ (v : k ≡ 2 * j + 1). omega arith) (λ (v : k ≡ 2 * j + 2). omega arith) p))))
              (cases_eq i j);
          places = drop-set-lt 63 ns' j w j63 ∙ m.places;
          above = inr (λ i h.
              ⊎_elim
              (λ (q : i ≡ j). ap (λ z. among z numbers') q ∙ named_j)
              (λ (q : i ≡ j → ⊥).
              other i q ∙ ⊎_elim (λ (z : k ≡ from). absurd (q (same_match k i j p (subst (λ y. OneOf y i) (sym z) h)))) (λ g. g i h) m.above)
              (cases_eq i j));
        }
