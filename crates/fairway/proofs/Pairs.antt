-- A pair that has drawn level before a time, told by the two positions.
use Rattle.std.proofs.Common.{◌≡◌, ℕ, true, false, ℤ, pos, ◌+ℤ◌, ◌-ℤ◌, ◌*ℤ◌, ◌≤ℤ◌, ◌<ℤ◌, arith}
use lib.Signed.{lt_z}
use Rattle.std.proofs.lemmas.Int.{ints}
use Rattle.fairway.specs.Times.{Time}
use Rattle.fairway.specs.Courses.{place, faster}
use Rattle.fairway.specs.Pairs.{PastLevelAnswer}
use Rattle.fairway.specs.declared.course.Course.{Course}
use Rattle.fairway.proofs.Kinetic.{sub_mul}

not_past : (rb fb rs fs : ℤ) (n d : ℕ) → (rb *ℤ pos d +ℤ rs *ℤ pos n) ≤ℤ (fb *ℤ pos d +ℤ fs *ℤ pos n) → ((rs -ℤ fs) *ℤ pos n) ≤ℤ ((fb -ℤ rb) *ℤ pos d)
not_past rb fb rs fs n d h =
    let a = sub_mul rs fs n in
    let b = sub_mul fb rb d in
    omega (arith, ints)

past : (rb fb rs fs : ℤ) (n d : ℕ) → (fb *ℤ pos d +ℤ fs *ℤ pos n) <ℤ (rb *ℤ pos d +ℤ rs *ℤ pos n) → ((rs -ℤ fs) *ℤ pos n) ≤ℤ ((fb -ℤ rb) *ℤ pos d) → ⊥
past rb fb rs fs n d h k =
    let a = sub_mul rs fs n in
    let b = sub_mul fb rb d in
    omega (arith, ints)

pub test_no : (x y : ℤ) → lt_z x y ≡ false → y ≤ℤ x
test_no x y h = grind (arith, ints)

test_yes : (x y : ℤ) → lt_z x y ≡ true → x <ℤ y
test_yes x y h = grind (arith, ints)

pub past_told : (t : Time) (r f : Course) → faster r f ≡ true → PastLevelAnswer t r f (lt_z (place t f) (place t r))
past_told t r f F = (
  (λ e g. not_past r.base f.base r.speed f.speed t.num t.den (test_no (place t f) (place t r) e)),
  (λ e n. past r.base f.base r.speed f.speed t.num t.den (test_yes (place t f) (place t r) e) (n F)),
)
