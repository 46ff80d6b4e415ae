-- The load of a list: course by course, and how large it can be.
use Rattle.std.proofs.Common.{◌≡◌, ℕ, zero, suc, ◌+◌, ◌-◌, ◌*◌, ◌^◌, ◌<◌, ◌≤◌, cond, List, [], ◌∷◌, length, get_or, take, drop, suc-mul, mul-suc, mul-le-mul, arith}
use Rattle.std.proofs.lemmas.List.{take_rest}
use Rattle.std.proofs.lemmas.List.Sums.{count_by-le-length}
use Rattle.fairway.specs.Courses.{faster}
use Rattle.fairway.specs.Orders.{load, slower_than}
use Rattle.fairway.specs.declared.course.Course.{Course}
use Rattle.fairway.proofs.Totals.{over_is}
use Rattle.fairway.proofs.Advance.{load_is}

-- the first course as rear, and the load of the rest
pub load_cons : (x : Course) (xs : List Course) → load (x ∷ xs) ≡ slower_than x xs + load xs
load_cons x xs = omega (arith, load_is (x ∷ xs), load_is xs, over_is (λ y. cond (faster x y) 1 0) xs)

pub load_rest : (xs : List Course) (d : Course) → 0 < length xs → load xs ≡ slower_than (get_or xs 0 d) (take (length xs - 1) (drop 1 xs)) + load (drop 1 xs)
load_rest [] d h = absurd (omega arith)
load_rest (x ∷ xs) d h = rw (take_rest (x ∷ xs) 1) (load_cons x xs)

-- at most n (n - 1) / 2 pairs
pub load_le : (xs : List Course) (k : ℕ) → length xs ≤ k → load xs + load xs + k ≤ k * k
load_le [] zero h = omega arith
load_le [] (suc k) h = omega (arith, suc-mul k (suc k))
load_le (x ∷ xs) zero h = absurd (omega arith)
load_le (x ∷ xs) (suc k) h =
    omega (arith, load_cons x xs, count_by-le-length (faster x) xs, load_le xs k (omega arith), suc-mul k (suc k), mul-suc k k)

-- so fewer than 2 ^ 64 courses have a load of 128 bits
pub load_fits : (xs : List Course) → length xs < 2 ^ 64 → load xs < 2 ^ 128
load_fits xs h =
    let s : length xs * length xs ≤ 18446744073709551615 * 18446744073709551615 = mul-le-mul {n₁ = length xs} {m₁ = length xs} {n₂ = 18446744073709551615} {m₂ = 18446744073709551615} (omega arith) (omega arith) in
    omega (arith, load_le xs (length xs) (omega arith))
