-- The size of a base.
use Rattle.std.proofs.Common.{◌≡◌, ℕ, ◌+◌, ◌*◌, ◌<◌, ◌≤◌, Bool, false, ◌||◌, ℤ, pos, negsuc, ◌+ℤ◌, ◌-ℤ◌, ◌*ℤ◌, ◌≤ℤ◌, arith, w16, w32, w64, SFits}
use Rattle.std.proofs.lemmas.Int.{ints}
use borrow.Author.Differences.{up, down}
use lib.Signed.{lt_z}
use Rattle.fairway.specs.Courses.{InRange}
use Rattle.fairway.proofs.Wide.{Sized, sized}
use Rattle.board.specs.Boards.{speed_out, position_out, entry_out}
use Rattle.board.specs.Books.{course_at}

pub product_fits : (s : ℤ) (t : ℕ) → SFits w16 s → t ≤ 16777216 → SFits w64 (s *ℤ pos t)
product_fits s t f h = let z = sized 32768 16777216 s t (omega (arith, ints)) (omega (arith, ints)) h in omega (arith, ints)

pub difference_fits : (p s : ℤ) (t : ℕ) → SFits w32 p → SFits w16 s → t ≤ 16777216 → SFits w64 (p -ℤ (s *ℤ pos t))
difference_fits p s t f g h = let z = sized 32768 16777216 s t (omega (arith, ints)) (omega (arith, ints)) h in omega (arith, ints)

four : (a b c d : Bool) → ((a || b) || (c || d)) ≡ false → (a ≡ false) × (b ≡ false) × (c ≡ false) × (d ≡ false)
four a b c d e = (grind arith, grind arith, grind arith, grind arith)

up_le : (z : ℤ) (k : ℕ) → z ≤ℤ pos k → up z ≤ k
up_le (pos n) k h = omega (arith, ints)
up_le (negsuc n) k h = omega arith

down_le : (z : ℤ) (k : ℕ) → negsuc k ≤ℤ z → down z ≤ k + 1
down_le (pos n) k h = omega arith
down_le (negsuc n) k h = omega (arith, ints)

pub entry_range : (number : ℕ) (p s : ℤ) (t : ℕ) → 0 < number → t ≤ 16777216 → entry_out p s ≡ false → InRange (course_at number p s t)
unfolding speed_out position_out
entry_range number p s t a h e =
    let x = four (lt_z p (negsuc 99999999)) (lt_z (pos 100000000) p) (lt_z s (negsuc 999)) (lt_z (pos 1000) s) e in
    let p1 : negsuc 99999999 ≤ℤ p = omega (arith, ints, x.0) in
    let p2 : p ≤ℤ pos 100000000 = omega (arith, ints, x.1) in
    let s1 : negsuc 999 ≤ℤ s = omega (arith, ints, x.2) in
    let s2 : s ≤ℤ pos 1000 = omega (arith, ints, x.3) in
    let k = sized 1000 16777216 s t (up_le s 1000 s2) (down_le s 999 s1) h in
    record { numbered = a; speed_low = s1; speed_high = s2; base_low = omega (arith, ints, k.high, k.low, p1, p2); base_high = omega (arith, ints, k.high, k.low, p1, p2) }

change_sized : (s v : ℤ) (t : ℕ) → negsuc 999 ≤ℤ s → s ≤ℤ pos 1000 → SFits w16 v → t ≤ 16777216 → Sized (40000 * 16777216) (s -ℤ v) t
change_sized s v t a b g h =
    let x : (s -ℤ v) ≤ℤ pos 40000 = omega (arith, ints) in
    let y : negsuc 39999 ≤ℤ (s -ℤ v) = omega (arith, ints) in
    sized 40000 16777216 (s -ℤ v) t (up_le (s -ℤ v) 40000 x) (down_le (s -ℤ v) 39999 y) h

product_by : (d : ℤ) (t : ℕ) → Sized (40000 * 16777216) d t → SFits w64 (d *ℤ pos t)
product_by d t z = omega (arith, ints, z.high, z.low)

sum_by : (p d : ℤ) (t : ℕ) → negsuc 33654431999 ≤ℤ p → p ≤ℤ pos 33654432000 → Sized (40000 * 16777216) d t → SFits w64 (p +ℤ (d *ℤ pos t))
sum_by p d t x y z = omega (arith, ints, z.high, z.low)

pub change_fits : (s v : ℤ) (t : ℕ) → negsuc 999 ≤ℤ s → s ≤ℤ pos 1000 → SFits w16 v → t ≤ 16777216 → SFits w64 ((s -ℤ v) *ℤ pos t)
change_fits s v t a b g h = product_by (s -ℤ v) t (change_sized s v t a b g h)

pub turn_fits : (p s v : ℤ) (t : ℕ) → negsuc 33654431999 ≤ℤ p → p ≤ℤ pos 33654432000 → negsuc 999 ≤ℤ s → s ≤ℤ pos 1000 → SFits w16 v → t ≤ 16777216 → SFits w64 (p +ℤ ((s -ℤ v) *ℤ pos t))
turn_fits p s v t x y a b g h = sum_by p (s -ℤ v) t x y (change_sized s v t a b g h)
