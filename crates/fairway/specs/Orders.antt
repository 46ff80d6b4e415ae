-- The vessels from rear to front, pairs of them, and exchanges of neighbours.
use Rattle.std.specs.Prelude.{◌≡◌, ℕ, zero, suc, Bool, true, cond, ◌&&◌, ◌≢◌, ◌⊎◌, List, [], ◌∷◌, ◌++◌, map, count_by, filter, ◌==◌}
use Rattle.std.specs.List.{flat_map}
use Rattle.fairway.specs.Times.{Time, ◌≤ᵗ◌, ◌<ᵗ◌}
use Rattle.fairway.specs.Courses.{faster, Due}
use Rattle.fairway.specs.Behind.{behind}
use Rattle.fairway.specs.Pairwise.{Pairwise}
use Rattle.fairway.specs.declared.course.Course.{Course}
use Rattle.fairway.specs.declared.pair.Pair.{Pair}

-- c stands in the list
abbrev pub Holds : List Course → Course → Type 0
Holds [] c = ⊥
Holds (x ∷ xs) c = (x ≡ c) ⊎ Holds xs c

-- two lists hold the same courses
abbrev pub Same : List Course → List Course → Type 0
Same xs ys = (c : Course) → (Holds xs c → Holds ys c) × (Holds ys c → Holds xs c)

-- no two have one number
abbrev pub Apart : List Course → Type 0
Apart = Pairwise (λ (x y : Course). x.number ≢ y.number)

-- from rear to front at t: each is behind all that come after it
abbrev pub Sorted : Time → List Course → Type 0
Sorted t = Pairwise (λ x y. behind t x y ≡ true)

-- x put before the first, from the rear, that it is behind
abbrev pub put : Time → Course → List Course → List Course
put t x [] = x ∷ []
put t x (y ∷ ys) = cond (behind t x y) (x ∷ y ∷ ys) (y ∷ put t x ys)

-- the order of a roster: each of its courses put in its place
abbrev pub order : Time → List Course → List Course
order t [] = []
order t (x ∷ xs) = put t x (order t xs)

-- a rear and a front
abbrev pub pair : Course → Course → Pair
pair r f = record { rear = r; front = f }

-- all pairs of an order, the one that comes first as rear
abbrev pub pairs : List Course → List Pair
pairs [] = []
pairs (x ∷ xs) = map (pair x) xs ++ pairs xs

-- the pairs of an order with a faster rear
abbrev pub fast : List Course → List Pair
fast xs = filter (λ p. faster p.rear p.front) (pairs xs)

-- the load of an order: how many of its pairs have a faster rear
abbrev pub load : List Course → ℕ
load xs = count_by (λ p. faster p.rear p.front) (pairs xs)

-- how many of xs are slower than x
abbrev pub slower_than : Course → List Course → ℕ
slower_than x xs = count_by (faster x) xs

-- how many of xs are faster than x
abbrev pub faster_than : Course → List Course → ℕ
faster_than x xs = count_by (λ y. faster y x) xs

-- an advance from t to u turns a pair when the one behind at t is in front at u
abbrev pub turns : Time → Time → Pair → Bool
turns t u p = behind t p.rear p.front && behind u p.front p.rear

-- every two of a roster, either way round, and each with itself, which nothing turns
abbrev pub twos : List Course → List Pair
twos xs = flat_map (λ x. map (pair x) xs) xs

-- the pairs of a roster that an advance turns
abbrev pub turned : Time → Time → List Course → List Pair
turned t u xs = filter (turns t u) (twos xs)

-- how many of xs the advance turns as the front of x
abbrev pub turned_by : Time → Time → Course → List Course → ℕ
turned_by t u x xs = count_by (λ y. turns t u (pair x y)) xs

-- r and f stand side by side, and are exchanged
pub data Exchange (r f : Course) : List Course → List Course → Type 0 where
  here : {xs : List Course} → Exchange r f (r ∷ f ∷ xs) (f ∷ r ∷ xs)
  there : {x : Course} {xs ys : List Course} → Exchange r f xs ys → Exchange r f (x ∷ xs) (x ∷ ys)

-- a run of so many exchanges
pub data Run : ℕ → List Course → List Course → Type 0 where
  still : {xs : List Course} → Run zero xs xs
  step : {n : ℕ} {r f : Course} {xs ys zs : List Course} → Exchange r f xs ys → Run n ys zs → Run (suc n) xs zs

-- a series of mends at times after t and not after u: each exchanges neighbours that are due
pub data Mends (t u : Time) : List Course → List Pair → List Course → Type 0 where
  none : {xs : List Course} → Mends t u xs [] xs
  mend : {r f : Course} {xs ys zs : List Course} {ps : List Pair} → (at : Time) → t <ᵗ at → at ≤ᵗ u →
      Due at r f → Exchange r f xs ys → Mends t u ys ps zs → Mends t u xs (pair r f ∷ ps) zs

-- the pair of these two vessels
abbrev pub is_pair : Course → Course → Pair → Bool
is_pair r f p = p.rear.number == r.number && p.front.number == f.number
