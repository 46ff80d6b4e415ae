-- The gap between two positions at an instant fits 128 bits.
use Rattle.std.proofs.Common.{ℕ, ◌+◌, ◌*◌, ◌<◌, ◌≤◌, ℤ, pos, ◌+ℤ◌, ◌-ℤ◌, ◌*ℤ◌, mul-le-mul, arith, w16, w64, SFits, to_z, of_z, ◌≡◌}
use Rattle.std.proofs.lemmas.Int.{ints, to_z-of_z}
use mir.Syntax.{w128}
use Rattle.fairway.specs.Courses.{place}
use Rattle.fairway.specs.Instants.{value}
use Rattle.fairway.specs.declared.course.Course.{Course}
use Rattle.fairway.specs.declared.instant.Instant.{Instant}
use Rattle.fairway.proofs.Wide.{sized}
use Rattle.board.specs.ListQuestions.{gap_of}
use Rattle.board.specs.declared.list.Length.{Length}

-- an instant in parts of a second, as many to one as its denominator
parts_few : (s n d : ℕ) → s ≤ 16777216 → n < d → d ≤ 1000 → s * d + n ≤ 16777217000
parts_few s n d a b e = let k : s * d ≤ 16777216 * 1000 = mul-le-mul a e in omega (arith, k)

gap_by : (x y u w : ℤ) (d k : ℕ) → SFits w64 x → SFits w64 y → SFits w16 u → SFits w16 w → d ≤ 1000 → k ≤ 16777217000 → SFits w128 ((x *ℤ pos d +ℤ u *ℤ pos k) -ℤ (y *ℤ pos d +ℤ w *ℤ pos k))
gap_by x y u w d k a b e f h l =
    let p = sized 9223372036854775808 1000 x d (omega (arith, ints)) (omega (arith, ints)) h in
    let q = sized 9223372036854775808 1000 y d (omega (arith, ints)) (omega (arith, ints)) h in
    let r = sized 32768 16777217000 u k (omega (arith, ints)) (omega (arith, ints)) l in
    let s = sized 32768 16777217000 w k (omega (arith, ints)) (omega (arith, ints)) l in
    omega (arith, ints)

pub gap_fits : (i : Instant) (r f : Course) → SFits w64 f.base → SFits w64 r.base → SFits w16 f.speed → SFits w16 r.speed → SFits w128 (place (value i) f -ℤ place (value i) r)
gap_fits i r f a b e h = gap_by f.base r.base f.speed r.speed i.denominator (i.seconds * i.denominator + i.numerator) a b e h i.fine (parts_few i.seconds i.numerator i.denominator i.bounded i.below i.fine)

-- the difference of what is read of the two
pub gap_read : (i : Instant) (r f : Course) (x y : ℤ) → x ≡ place (value i) f → y ≡ place (value i) r → SFits w64 f.base → SFits w64 r.base → SFits w16 f.speed → SFits w16 r.speed → SFits w128 (x -ℤ y)
gap_read i r f x y p q a b e h = rw (p, q) (gap_fits i r f a b e h)

pub gap_is : (i : Instant) (r f : Course) (x y : ℤ) (d : ℕ) → x ≡ place (value i) f → y ≡ place (value i) r → d ≡ i.denominator → SFits w128 (x -ℤ y) → ◌≡◌ {A = Length} (record { parts = to_z w128 (of_z w128 (x -ℤ y)); denominator = d }) (gap_of (value i) r f)
gap_is i r f x y d p q e h = rw (to_z-of_z w128 (x -ℤ y) h, p, q, e)
