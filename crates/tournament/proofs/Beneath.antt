-- The vessels beneath a node, as the load counts them.
use Rattle.std.proofs.Common.{◌≡◌, ℕ, zero, suc, ◌+◌, ◌*◌, ◌<◌, ◌≤◌, true, false, cond, ltb, List, [], ◌∷◌, ◌++◌, Some, None, Option, sym, refl, ap, ◌∙◌, ⊎_elim, arith}
use Rattle.std.proofs.lemmas.Bool.{cases_lt, cond-true, cond-false, lt-ltb, le-ltb}
use Rattle.std.proofs.lemmas.List.Sums.{sum_by-append, count_by-le-length}
use Rattle.fairway.specs.Courses.{faster}
use Rattle.fairway.specs.Orders.{faster_than}
use Rattle.fairway.specs.declared.course.Course.{Course}
use Rattle.tournament.specs.Places.{taken}
use Rattle.tournament.specs.Matches.{node_at}
use Rattle.tournament.specs.Loads.{beneath, faster_than_winner, faster_beneath, match_load}
use Rattle.tournament.specs.NodesLemmas.{reach, below}
use Rattle.tournament.specs.LoadsLemmas.{wide, beneath_wide}

abbrev pub twice : ℕ → ℕ
twice zero = 1
twice (suc f) = twice f + twice f

-- whether a place holds a faster vessel, as 1 or 0
abbrev pub one_faster : Option Course → Course → ℕ
one_faster None w = 0
one_faster (Some v) w = cond (faster v w) 1 0

module _ (ns : List (Option Course)) where
  pub match_beneath : (f k : ℕ) → k < 63 → beneath (suc f) ns k ≡ beneath f ns (2 * k + 1) ++ beneath f ns (2 * k + 2)
  match_beneath f k l = cond-true (ltb k 63) _ _ (lt-ltb k 63 l)

  place_beneath : (f k : ℕ) → 63 ≤ k → beneath (suc f) ns k ≡ taken (node_at ns k ∷ [])
  place_beneath f k l = cond-false (ltb k 63) _ _ (le-ltb k 63 l)

  -- more rounds down change nothing
  beneath_more : (f k : ℕ) → reach f ≤ k → beneath f ns k ≡ beneath (suc f) ns k
  beneath_more zero k h = sym (place_beneath zero k h)
  beneath_more (suc f) k h =
      ⊎_elim
      (λ (l : k < 63).
      match_beneath f k l ∙ ap (λ z. z ++ beneath f ns (2 * k + 2)) (beneath_more f (2 * k + 1) (below f k h).0) ∙ ap (λ z. beneath (suc f) ns (2 * k + 1) ++ z) (beneath_more f (2 * k + 2) (below f k h).1)
      ∙ sym (match_beneath (suc f) k l))
      (λ (l : 63 ≤ k). place_beneath f k l ∙ sym (place_beneath (suc f) k l))
      (cases_lt k 63)

  pub faster_match : (k : ℕ) (w : Course) → k < 63 → faster_beneath ns (2 * k + 1) w + faster_beneath ns (2 * k + 2) w ≡ faster_beneath ns k w
  unfolding faster_beneath
  faster_match k w l =
      let a = beneath 5 ns (2 * k + 1) in
      let b = beneath 5 ns (2 * k + 2) in
      ap (λ z. faster_than w z + faster_beneath ns (2 * k + 2) w) (sym (beneath_more 5 (2 * k + 1) (omega arith)))
      ∙ ap (λ z. faster_than w a + faster_than w z) (sym (beneath_more 5 (2 * k + 2) (omega arith)))
      ∙ sym (sum_by-append (λ v. cond (faster v w) 1 0) a b) ∙ ap (faster_than w) (sym (match_beneath 5 k l))

  one_is : (o : Option Course) (w : Course) → one_faster o w ≡ faster_than w (taken (o ∷ []))
  one_is None w = refl
  one_is (Some v) w = omega arith

  pub faster_place : (k : ℕ) (w : Course) → 63 ≤ k → one_faster (node_at ns k) w ≡ faster_beneath ns k w
  unfolding faster_beneath
  faster_place k w l = one_is (node_at ns k) w ∙ ap (faster_than w) (sym (place_beneath 5 k l))

  wide_low : (f k : ℕ) → wide f k ≤ twice f
  wide_low zero k = omega arith
  wide_low (suc f) k =
      let p = wide_low f (2 * k + 1) in
      let q = wide_low f (2 * k + 2) in
      elim (ltb k 63) as (λ b. cond b (wide f (2 * k + 1) + wide f (2 * k + 2)) 1 ≤ twice f + twice f) [ true ↦ omega arith | false ↦ omega (arith, twice_pos f) ]
    where
      twice_pos : (f : ℕ) → 1 ≤ twice f
      twice_pos zero = omega arith
      twice_pos (suc f) = omega (arith, twice_pos f)

  pub faster_few : (k : ℕ) (w : Course) → faster_beneath ns k w ≤ 64
  unfolding faster_beneath
  faster_few k w = omega (arith, count_by-le-length (λ v. faster v w) (beneath 6 ns k), beneath_wide 6 ns k, wide_low 6 k)

  pub match_won : (i : ℕ) (w : Course) → node_at ns i ≡ Some w → match_load ns i ≡ faster_beneath ns i w
  unfolding faster_beneath
  match_won i w e = ap (λ o. faster_than_winner o (beneath 6 ns i)) e
