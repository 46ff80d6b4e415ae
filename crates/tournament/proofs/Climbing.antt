-- Which matches are played on the way up from a node.
use Rattle.std.proofs.Common.{◌≡◌, ℕ, ◌+◌, ◌-◌, ◌*◌, ◌<◌, ◌≤◌, true, ◌⊎◌, List, [], ◌∷◌, ◌++◌, get_or, None, Option, sym, refl, ap, ◌∙◌, subst, inl, inr, ⊎_elim, append_assoc, arith}
use Rattle.std.proofs.lemmas.Bool.{cases_eq, cases_lt, cases_Bool, false≢true}
use Rattle.fairway.specs.Times.{Time}
use Rattle.fairway.specs.declared.course.Course.{Course}
use Rattle.kinetic.specs.Numbers.{among}
use Rattle.tournament.specs.Playing.{OneOf, UpFrom, RunsUp, PlayedAgain, match_of}
use Rattle.tournament.specs.Rounds.{PlayedAbove, NamedAbove, NamedBelow}
use Rattle.tournament.specs.Playing.UpFrom.{itself, above}
use Rattle.tournament.specs.Playing.RunsUp.{final, up}
use Rattle.tournament.specs.NodesLemmas.{at_place}
use Rattle.tournament.proofs.Paths.{among_last, among_other, same_match}

-- none is above the final
none_above : (m : ℕ) → OneOf 0 m → ⊥
none_above m (inl e) = omega arith
none_above m (inr e) = omega arith

-- a match above another has a lower number
pub up_low : (i j : ℕ) → UpFrom i j → j ≤ i
up_low i j itself = omega arith
up_low i j (above u (inl e)) = omega (arith, up_low i _ u)
up_low i j (above u (inr e)) = omega (arith, up_low i _ u)

-- the match itself, or from the match above it up
first_up : (i j : ℕ) → UpFrom i j → (j ≡ i) ⊎ ((m : ℕ) × OneOf i m × UpFrom m j)
first_up i j itself = inl refl
first_up i j (above {j = h} u o) =
    ⊎_elim
    (λ e. inr (j, subst (λ z. OneOf z j) e o, itself))
    (λ r. inr (r.0, r.1, above r.2 o))
    (first_up i h u)

-- ---- the numbers
pub named_none : (from : ℕ) → NamedBelow from from []
named_none from =
    record {
      up = λ i o. inl refl;
      only = λ i j o e. absurd (false≢true e);
      all = λ i j o u. inr (i, o, u);
      runs = λ i j rest o p r. subst (λ z. RunsUp z rest) (sym (same_match from i j p o)) r;
      done = λ i o z. absurd (none_above i (subst (λ y. OneOf y i) z o));
    }

pub named_more : (from k j : ℕ) (numbers numbers' : List ℕ) → OneOf k j → numbers' ≡ numbers ++ (j ∷ []) → NamedBelow k from numbers → NamedBelow j from numbers'
named_more from k j numbers numbers' p qn m =
    let named_j : among j numbers' ≡ true = ap (among j) qn ∙ among_last j numbers in
    let other : (i : ℕ) → (i ≡ j → ⊥) → among i numbers' ≡ among i numbers = λ i q. ap (among i) qn ∙ among_other i j numbers q in
    let upto : (i : ℕ) → OneOf from i → UpFrom i j = λ i o.
    ⊎_elim
    (λ (z : k ≡ from). subst (UpFrom i) (same_match k i j p (subst (λ y. OneOf y i) (sym z) o)) itself)
    (λ (u : UpFrom i k). above u p)
    (m.up i o) in
    record {
      up = λ i o. inr (upto i o);
      only = λ i l o e.
          ⊎_elim
          (λ (q : l ≡ j). subst (UpFrom i) (sym q) (upto i o))
          (λ (q : l ≡ j → ⊥). m.only i l o (sym (other l q) ∙ e))
          (cases_eq l j);
      all = λ i l o u.
          let named_l : among l numbers ≡ true → among l numbers' ≡ true = λ e. ⊎_elim (λ (q : l ≡ j). ap (λ z. among z numbers') q ∙ named_j) (λ (q : l ≡ j → ⊥). other l q ∙ e) (cases_eq l j) in
          ⊎_elim
          (λ e. inl (named_l e))
          (λ r.
          let v : UpFrom j l = subst (λ z. UpFrom z l) (same_match k r.0 j p r.1) r.2 in
          ⊎_elim (λ (q : l ≡ j). inl (ap (λ z. among z numbers') q ∙ named_j)) inr (first_up j l v))
          (m.all i l o u);
      runs = λ i h rest o q r.
          subst (RunsUp i) (sym (append_assoc numbers (j ∷ []) rest) ∙ ap (λ l. l ++ rest) (sym qn))
          (m.runs i j (j ∷ rest) o p (up q r));
      done = λ i o z. subst (RunsUp i) (sym qn) (m.runs i j (j ∷ []) o p (subst (λ y. RunsUp y (y ∷ [])) (sym z) final));
    }

pub named_all : (from k : ℕ) (numbers : List ℕ) → k ≡ 0 → NamedBelow k from numbers → NamedAbove from numbers
named_all from k numbers z m i o =
    record {
      those = λ j. (m.only i j o, λ u. ⊎_elim (λ e. e) (λ r. absurd (none_above r.0 (subst (λ y. OneOf y r.0) z r.1))) (m.all i j o u));
      runs = m.done i o z;
    }

-- ---- the matches
module _ (t : Time) where
  pub again_from : (from i : ℕ) (ns ns' : List (Option Course)) (numbers : List ℕ) → OneOf from i → i < 63 → PlayedAbove t from ns ns' numbers → NamedAbove from numbers → PlayedAgain t i ns ns'
  again_from from i ns ns' numbers o low a n =
      record {
        played = λ j u.
            let p : j < 63 = omega (arith, up_low i j u) in
            (a.matches j p).played (((n i o).those j).1 u);
        others = λ j no.
            ⊎_elim
            (λ (p : j < 63). (a.matches j p).same_winner (⊎_elim (λ e. absurd (no (((n i o).those j).0 e))) (λ e. e) (cases_Bool (among j numbers))))
            (λ (p : 63 ≤ j). sym (at_place ns' j p) ∙ ap (λ l. get_or l (j - 63) None) a.places ∙ at_place ns j p)
            (cases_lt j 63);
      }

-- the match of a place is above it, and one of the first round
pub place_match : (p : ℕ) → OneOf (63 + p) (match_of p)
place_match p = ⊎_elim (λ (h : 63 + p < 2 * match_of p + 2). inl (omega arith)) (λ (h : 2 * match_of p + 2 ≤ 63 + p). inr (omega arith)) (cases_lt (63 + p) (2 * match_of p + 2))

pub match_low : (p : ℕ) → p < 64 → match_of p < 63
match_low p h = omega arith
