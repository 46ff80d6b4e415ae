-- The load is bounded.
use Rattle.std.proofs.Common.{◌≡◌, ℕ, zero, suc, ◌+◌, ◌*◌, ◌<◌, ◌≤◌, true, false, cond, ltb, List, [], ◌∷◌, ◌++◌, length, sum_by, Some, None, Option, refl, length-append, arith}
use Rattle.std.proofs.lemmas.List.Sums.{count_by-le-length, sum_by-cons}
use Rattle.std.specs.List.{range_with_len}
use Rattle.fairway.specs.Courses.{faster}
use Rattle.fairway.specs.declared.course.Course.{Course}
use Rattle.tournament.specs.Places.{taken}
use Rattle.tournament.specs.Matches.{node_at}
use Rattle.tournament.specs.Loads.{beneath, faster_than_winner, match_load, load}

-- sums over a range, term by term
pub sum_le : (n a : ℕ) (g h : ℕ → ℕ) → ((i : ℕ) → i < a + n → g i ≤ h i) →
    sum_by g (range_with_len a n) ≤ sum_by h (range_with_len a n)
sum_le zero a g h p = omega arith
sum_le (suc n) a g h p =
    omega (arith, sum_by-cons g a (range_with_len (a + 1) n), sum_by-cons h a (range_with_len (a + 1) n), sum_le n (a + 1) g h (λ i q. p i (omega arith)), p a (omega arith))

-- how many places there are beneath node k, so many rounds down
abbrev pub wide : ℕ → ℕ → ℕ
wide zero k = 1
wide (suc f) k = cond (ltb k 63) (wide f (2 * k + 1) + wide f (2 * k + 2)) 1

one : (o : Option Course) → length (taken (o ∷ [])) ≤ 1
one None = omega arith
one (Some x) = omega arith

pub beneath_wide : (f : ℕ) (ns : List (Option Course)) (k : ℕ) → length (beneath f ns k) ≤ wide f k
beneath_wide zero ns k = one (node_at ns k)
beneath_wide (suc f) ns k =
    let xs = beneath f ns (2 * k + 1) in
    let ys = beneath f ns (2 * k + 2) in
    let p = beneath_wide f ns (2 * k + 1) in
    let q = beneath_wide f ns (2 * k + 2) in
    elim (ltb k 63) as (λ b. length (cond b (xs ++ ys) (taken (node_at ns k ∷ []))) ≤ cond b (wide f (2 * k + 1) + wide f (2 * k + 2)) 1)
    [ true ↦ omega (arith, length-append xs ys) | false ↦ one (node_at ns k) ]

winner_length : (o : Option Course) (vs : List Course) → faster_than_winner o vs ≤ length vs
winner_length None vs = omega arith
winner_length (Some w) vs = count_by-le-length (λ v. faster v w) vs

all_wide : sum_by (wide 6) (range_with_len 0 63) ≡ 384
all_wide = refl

pub load_bounded : (ns : List (Option Course)) → load ns ≤ 2016
unfolding load
load_bounded ns =
    let s = sum_le 63 0 (match_load ns) (wide 6) (λ i h. omega (arith, winner_length (node_at ns i) (beneath 6 ns i), beneath_wide 6 ns i)) in
    omega (arith, all_wide)
