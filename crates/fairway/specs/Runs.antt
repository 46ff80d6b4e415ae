-- The theorems on the order of a roster, on what an advance turns in it, and on mends.
use Rattle.std.specs.Prelude.{◌≡◌, ℕ, suc, ◌+◌, ◌≤◌, true, cond, List, ◌∷◌, length, count_by}
use Rattle.std.specs.List.Sorted.{IsPermutation}
use Rattle.fairway.specs.Times.{Time, Proper, ◌≤ᵗ◌}
use Rattle.fairway.specs.Courses.{faster}
use Rattle.fairway.specs.declared.pair.Pair.{Pair}
use Rattle.fairway.specs.Orders.{Holds, Same, Apart, Sorted, order, load, fast, Exchange, turned, turns, pair, is_pair, Run, Mends}
use Rattle.fairway.specs.declared.course.Course.{Course}

-- the order at t is from rear to front, has the vessels of the roster, and is the only such list
pub record OneOrder (t : Time) (xs : List Course) : Type 0 where
  pub sorted : Sorted t (order t xs)
  pub same : Same (order t xs) xs
  pub only : (ys : List Course) → Sorted t ys → Same ys xs → ys ≡ order t xs

-- the order of every roster is such
abbrev pub OrderIs : Type 0
OrderIs = (t : Time) → Proper t → (xs : List Course) → Apart xs → OneOrder t xs

-- an advance from t to u takes the turned pairs out of the load, and no others
abbrev pub LoadFalls : Time → Time → List Course → Type 0
LoadFalls t u xs = t ≤ᵗ u → Apart xs → load (order t xs) ≡ load (order u xs) + length (turned t u xs)

-- every run of neighbour exchanges from the order at t to that at u has at least as many steps
abbrev pub Fewest : Time → Time → List Course → Type 0
Fewest t u xs = Apart xs → (n : ℕ) → Run n (order t xs) (order u xs) → length (turned t u xs) ≤ n

-- the pairs that a series of mends exchanges are the turned pairs, up to their order, and each of them once
abbrev pub MendsTurned : Time → Time → List Course → Type 0
MendsTurned t u xs =
    t ≤ᵗ u → Apart xs → (ps : List Pair) → Mends t u (order t xs) ps (order u xs) →
    IsPermutation ps (turned t u xs) ×
    ((r f : Course) → Holds xs r → Holds xs f → count_by (is_pair r f) ps ≡ cond (turns t u (pair r f)) 1 0)

-- the exchange of a pair takes it out of the pairs with a faster rear, and adds none: the load falls by one
abbrev pub LosesOne : Course → Course → List Course → List Course → Type 0
LosesOne r f xs ys = IsPermutation (fast xs) (pair r f ∷ fast ys) × (load xs ≡ suc (load ys))

-- every such exchange does
abbrev pub Loses : Type 0
Loses = (r f : Course) (xs ys : List Course) → faster r f ≡ true → Exchange r f xs ys → LosesOne r f xs ys
