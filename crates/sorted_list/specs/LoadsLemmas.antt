-- The load as a course is put in or taken out, and its bound.
use Rattle.std.specs.Prelude.{◌≡◌, ℕ, zero, suc, ◌+◌, ◌*◌, ◌<◌, ◌≤◌, true, false, cond, List, [], ◌∷◌, ◌++◌, length, take, drop, slice_index_or, refl}
use Rattle.std.proofs.Common.{sym, ap, ◌∙◌, arith, suc-mul, mul-suc}
use Rattle.std.specs.List.{insert, remove}
use Rattle.fairway.specs.declared.course.Course.{Course}
use Rattle.fairway.specs.Courses.{faster}
use Rattle.fairway.specs.Orders.{load}
use Rattle.fairway.proofs.Totals.{over, tri, over_is}
use Rattle.fairway.proofs.Advance.{load_is}
use Rattle.sorted_list.specs.Loads.{crossed}

abbrev one_fast : Course → Course → ℕ
one_fast x y = cond (faster x y) 1 0

-- x put in at i: a pair for each before it, and for each after it
over_in : (f : Course → ℕ) (xs : List Course) (i : ℕ) (x : Course) → over f (take i xs ++ x ∷ drop i xs) ≡ f x + over f xs
over_in f [] zero x = refl
over_in f [] (suc i) x = refl
over_in f (y ∷ ys) zero x = refl
over_in f (y ∷ ys) (suc i) x = omega (arith, over_in f ys i x)

tri_in : (g : Course → Course → ℕ) (xs : List Course) (i : ℕ) (x : Course) →
    tri g (take i xs ++ x ∷ drop i xs) ≡ tri g xs + (over (λ y. g y x) (take i xs) + over (g x) (drop i xs))
tri_in g [] zero x = refl
tri_in g [] (suc i) x = refl
tri_in g (y ∷ ys) zero x = omega arith
tri_in g (y ∷ ys) (suc i) x = omega (arith, over_in (g y) ys i x, tri_in g ys i x)

pub load_inserted : (xs : List Course) (i : ℕ) (x : Course) → load (insert xs i x) ≡ load xs + crossed xs i x
load_inserted xs i x =
    omega (
      arith,
      load_is (insert xs i x),
      load_is xs,
      tri_in one_fast xs i x,
      over_is (λ y. cond (faster y x) 1 0) (take i xs),
      over_is (λ y. cond (faster x y) 1 0) (drop i xs),
    )

back_in : (xs : List Course) (i : ℕ) (d : Course) → i < length xs → xs ≡ insert (remove xs i) i (slice_index_or xs i d)
back_in [] i d h = absurd (omega arith)
back_in (x ∷ xs) zero d h = refl
back_in (x ∷ xs) (suc i) d h = ap (λ l. x ∷ l) (back_in xs i d (omega arith))

pub load_removed : (xs ys : List Course) (i : ℕ) (x : Course) → i < length xs → ys ≡ remove xs i → x ≡ slice_index_or xs i x → load xs ≡ load ys + crossed ys i x
load_removed xs ys i x h e q =
    let a : xs ≡ insert ys i x = back_in xs i x h ∙ ap (λ l. insert l i (slice_index_or xs i x)) (sym e) ∙ ap (λ z. insert ys i z) (sym q) in
    ap load a ∙ load_inserted ys i x

-- at most n (n - 1) / 2 pairs
over_le : (f : Course → ℕ) → ((x : Course) → f x ≤ 1) → (xs : List Course) → over f xs ≤ length xs
over_le f h [] = omega arith
over_le f h (x ∷ xs) = omega (arith, h x, over_le f h xs)

one_le : (x y : Course) → one_fast x y ≤ 1
one_le x y = elim (faster x y) as (λ b. cond b 1 0 ≤ 1) [ true ↦ omega arith | false ↦ omega arith ]

-- with room for k, twice the pairs and k
tri_le : (xs : List Course) (k : ℕ) → length xs ≤ k → tri one_fast xs + tri one_fast xs + k ≤ k * k
tri_le [] zero h = omega arith
tri_le [] (suc k) h = omega (arith, suc-mul k (suc k))
tri_le (x ∷ xs) zero h = absurd (omega arith)
tri_le (x ∷ xs) (suc k) h =
    omega (arith, over_le (one_fast x) (one_le x) xs, tri_le xs k (omega arith), suc-mul k (suc k), mul-suc k k)

pub load_bounded : (xs : List Course) → length xs ≤ 64 → load xs ≤ 2016
load_bounded xs h = omega (arith, load_is xs, tri_le xs 64 h)
