-- Two lists that every weighing finds alike are the same up to their order.
use Rattle.std.proofs.Common.{◌≡◌, ℕ, ◌+◌, ◌<◌, List, [], ◌∷◌, ◌++◌, sym, refl, ap, ◌∙◌, subst, arith}
use Rattle.std.specs.List.Sorted.{IsPermutation}
use Rattle.fairway.specs.declared.pair.Pair.{Pair}
use Rattle.std.proofs.lemmas.List.Sorted.{IsPermutation-refl, IsPermutation-cons, IsPermutation-middle, IsPermutation-sym, IsPermutation-trans}
use Rattle.fairway.specs.Orders.{pair}
use Rattle.fairway.proofs.Laws.{course_eq}
use Rattle.fairway.proofs.Totals.{over, over_append}

-- ---- pairs can be told apart
pair_by : (p q : Pair) → Dec (p.rear ≡ q.rear) → Dec (p.front ≡ q.front) → Dec (p ≡ q)
pair_by p q (yes a) (yes b) = yes (ap (λ z. pair z p.front) a ∙ ap (pair q.rear) b)
pair_by p q (yes a) (no b) = no (λ e. b (ap (λ z. z.front) e))
pair_by p q (no a) b = no (λ e. a (ap (λ z. z.rear) e))

pub pair_eq : (p q : Pair) → Dec (p ≡ q)
pair_eq p q = pair_by p q (course_eq p.rear q.rear) (course_eq p.front q.front)

-- ----
abbrev one_if : {P : Type 0} → Dec P → ℕ
one_if (yes p) = 1
one_if (no n) = 0

module _ {X : Type 0} (same : (x y : X) → Dec (x ≡ y)) where
  abbrev ones : X → X → ℕ
  ones x y = one_if (same x y)

  one_self : (x : X) (d : Dec (x ≡ x)) → one_if d ≡ 1
  one_self x (yes p) = refl
  one_self x (no n) = absurd (n refl)

  -- x is found in a list that counts it
  found : (x : X) (ys : List X) → 0 < over (ones x) ys → (ls : List X) × (rs : List X) × (ys ≡ ls ++ (x ∷ rs))
  found x [] h = absurd (omega arith)
  found x (y ∷ ys) h = go (same x y) h (found x ys)
    where
      go : (d : Dec (x ≡ y)) → 0 < one_if d + over (ones x) ys → (0 < over (ones x) ys → (ls : List X) × (rs : List X) × (ys ≡ ls ++ (x ∷ rs))) →
          (ls : List X) × (rs : List X) × (y ∷ ys ≡ ls ++ (x ∷ rs))
      go (yes e) k ih = ([], ys, ap (λ z. z ∷ ys) (sym e))
      go (no n) k ih = let f = ih (omega arith) in (y ∷ f.0, f.1, ap (λ l. y ∷ l) f.2)

  pub shuffled_from_alike : (xs ys : List X) → ((w : X → ℕ) → over w xs ≡ over w ys) → IsPermutation xs ys
  shuffled_from_alike [] [] h = IsPermutation-refl []
  shuffled_from_alike [] (y ∷ ys) h = absurd (omega (arith, h (λ _. 1)))
  shuffled_from_alike (x ∷ xs) ys h =
      let f = found x ys (omega (arith, h (ones x), one_self x (same x x))) in
      let ls = f.0 in
      let rs = f.1 in
      let ih = shuffled_from_alike xs (ls ++ rs) (λ w. omega (arith, h w, ap (over w) f.2, over_append w ls (x ∷ rs), over_append w ls rs)) in
      subst (λ l. IsPermutation (x ∷ xs) l) (sym f.2)
      (IsPermutation-trans (x ∷ xs) (x ∷ ls ++ rs) (ls ++ (x ∷ rs)) (IsPermutation-cons x xs (ls ++ rs) ih) (IsPermutation-sym (ls ++ (x ∷ rs)) (x ∷ ls ++ rs) (IsPermutation-middle ls x rs)))
