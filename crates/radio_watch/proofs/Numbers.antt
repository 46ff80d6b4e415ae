-- The steps of a loop that reads a number, digit by digit.
use Rattle.std.proofs.Common.{◌≡◌, ℕ, ◌+◌, ◌-◌, ◌*◌, ◌^◌, ◌<◌, ◌≤◌, Bool, true, false, cond, ◌&&◌, leb, List, [], ◌∷◌, length, get_or, drop, Some, None, sym, refl, ap, ◌∙◌, arith}
use Rattle.std.proofs.lemmas.List.{at_drop_more}
use Rattle.std.proofs.lemmas.Bool.{le-ltb}
use Rattle.radio_watch.specs.Script.{value_from, fitting, number}

abbrev digit : ℕ → Bool
digit b = leb 48 b && leb b 57

fitting_above : (n : ℕ) → 2 ^ 32 ≤ n → fitting (Some n) ≡ None
fitting_above n h = ap (λ (v : Bool). cond v (Some n) None) (le-ltb n (2 ^ 32) h)

-- more digits do not make a number smaller
above : (n : ℕ) (bs : List ℕ) → 2 ^ 32 ≤ n → fitting (value_from n bs) ≡ None
above n [] h = fitting_above n h
above n (b ∷ bs) h =
    let more = above (10 * n + (b - 48)) bs (omega arith) in
    elim (digit b) as (λ v. fitting (cond v (value_from (10 * n + (b - 48)) bs) None) ≡ None) [ true ↦ more | false ↦ refl ]

number_is : (word : List ℕ) → 0 < length word → number word ≡ fitting (value_from 0 word)
number_is [] h = absurd (omega arith)
number_is (b ∷ bs) h = refl

module _ (word : List ℕ) (i n : ℕ) where
  abbrev Keeps : Type 0
  Keeps = fitting (value_from n (drop i word)) ≡ fitting (value_from 0 word)

  step : i < length word → value_from n (drop i word) ≡ cond (digit (get_or word i 0)) (value_from (10 * n + (get_or word i 0 - 48)) (drop (i + 1) word)) None
  step lt = at_drop_more (value_from n) word i 0 lt

  one_more : i < length word → digit (get_or word i 0) ≡ true → value_from n (drop i word) ≡ value_from (10 * n + (get_or word i 0 - 48)) (drop (i + 1) word)
  one_more lt e = step lt ∙ ap (λ (v : Bool). cond v (value_from (10 * n + (get_or word i 0 - 48)) (drop (i + 1) word)) None) e

  pub too_large : i < length word → digit (get_or word i 0) ≡ true → 2 ^ 32 ≤ 10 * n + (get_or word i 0 - 48) → Keeps → None ≡ number word
  too_large lt e big inv = sym (number_is word (omega arith) ∙ sym inv ∙ ap fitting (one_more lt e) ∙ above (10 * n + (get_or word i 0 - 48)) (drop (i + 1) word) big)
