use Rattle.std.proofs.Common.{◌≡◌, pos, ◌+ℤ◌, ◌-ℤ◌, ◌*ℤ◌, arith, w16, w64, SFits, to_z, of_z, rules}
use Rattle.std.proofs.lemmas.Int.{ints, to_z-of_z}
use Rattle.board.proofs.Bases.{change_fits, turn_fits}
use Rattle.board.proofs.courses.at_speed.Goals as goal

pub overflow_mul-result : goal.overflow_mul-result
overflow_mul-result c =
    let r = c.requires.0 in
    let a : SFits w16 c.args.course.speed = search rules in
    let s : to_z w64 (of_z w64 (to_z w16 (of_z w16 c.args.course.speed))) ≡ c.args.course.speed = omega (arith, ints) in
    let v : to_z w64 (of_z w64 (to_z w16 (of_z w16 c.args.speed))) ≡ c.args.speed = omega (arith, ints) in
    let k : to_z w64 (of_z w64 (c.args.course.speed -ℤ c.args.speed)) ≡ c.args.course.speed -ℤ c.args.speed = omega (arith, ints) in
    let t : to_z w64 c.args.second ≡ pos c.args.second = omega (arith, ints) in
    rw (s, v, k, t) (change_fits c.args.course.speed c.args.speed c.args.second r.speed_low r.speed_high c.ranges.speed c.requires.1)

pub overflow_add-result : goal.overflow_add-result
overflow_add-result c =
    let r = c.requires.0 in
    let a : SFits w16 c.args.course.speed = search rules in
    let s : to_z w64 (of_z w64 (to_z w16 (of_z w16 c.args.course.speed))) ≡ c.args.course.speed = omega (arith, ints) in
    let v : to_z w64 (of_z w64 (to_z w16 (of_z w16 c.args.speed))) ≡ c.args.speed = omega (arith, ints) in
    let k : to_z w64 (of_z w64 (c.args.course.speed -ℤ c.args.speed)) ≡ c.args.course.speed -ℤ c.args.speed = omega (arith, ints) in
    let b : to_z w64 (of_z w64 c.args.course.base) ≡ c.args.course.base = omega (arith, ints) in
    let t : to_z w64 c.args.second ≡ pos c.args.second = omega (arith, ints) in
    let m : to_z w64 (of_z w64 ((c.args.course.speed -ℤ c.args.speed) *ℤ pos c.args.second)) ≡ (c.args.course.speed -ℤ c.args.speed) *ℤ pos c.args.second = to_z-of_z w64 _ (change_fits c.args.course.speed c.args.speed c.args.second r.speed_low r.speed_high c.ranges.speed c.requires.1) in
    rw (s, v, k, b, t, m) (turn_fits c.args.course.base c.args.course.speed c.args.speed c.args.second r.base_low r.base_high r.speed_low r.speed_high c.ranges.speed c.requires.1)

pub returns : goal.returns
returns c =
    let r = c.requires.0 in
    let a : SFits w16 c.args.course.speed = search rules in
    let s : to_z w64 (of_z w64 (to_z w16 (of_z w16 c.args.course.speed))) ≡ c.args.course.speed = omega (arith, ints) in
    let v : to_z w64 (of_z w64 (to_z w16 (of_z w16 c.args.speed))) ≡ c.args.speed = omega (arith, ints) in
    let v1 : to_z w16 (of_z w16 c.args.speed) ≡ c.args.speed = omega (arith, ints) in
    let k : to_z w64 (of_z w64 (c.args.course.speed -ℤ c.args.speed)) ≡ c.args.course.speed -ℤ c.args.speed = omega (arith, ints) in
    let b : to_z w64 (of_z w64 c.args.course.base) ≡ c.args.course.base = omega (arith, ints) in
    let t : to_z w64 c.args.second ≡ pos c.args.second = omega (arith, ints) in
    let m : to_z w64 (of_z w64 ((c.args.course.speed -ℤ c.args.speed) *ℤ pos c.args.second)) ≡ (c.args.course.speed -ℤ c.args.speed) *ℤ pos c.args.second = to_z-of_z w64 _ (change_fits c.args.course.speed c.args.speed c.args.second r.speed_low r.speed_high c.ranges.speed c.requires.1) in
    let d : to_z w64 (of_z w64 (c.args.course.base +ℤ ((c.args.course.speed -ℤ c.args.speed) *ℤ pos c.args.second))) ≡ c.args.course.base +ℤ ((c.args.course.speed -ℤ c.args.speed) *ℤ pos c.args.second) = to_z-of_z w64 _ (turn_fits c.args.course.base c.args.course.speed c.args.speed c.args.second r.base_low r.base_high r.speed_low r.speed_high c.ranges.speed c.requires.1) in
    rw (s, v, v1, k, b, t, m, d)
