use Rattle.std.proofs.Common.{◌≡◌, pos, ◌-ℤ◌, ◌*ℤ◌, sym, subst, arith, w16, w32, w64, to_z, of_z}
use Rattle.std.proofs.lemmas.Int.{ints, to_z-of_z}
use Rattle.fairway.specs.declared.course.Course.{Course}
use Rattle.fairway.specs.Courses.{InRange}
use Rattle.board.specs.Books.{course_at}
use Rattle.board.proofs.Bases.{product_fits, difference_fits, entry_range}
use Rattle.board.proofs.courses.course_at.Goals as goal

pub overflow_mul-result : goal.overflow_mul-result
overflow_mul-result c =
    let e : to_z w64 (of_z w64 (to_z w16 (of_z w16 c.args.speed))) ≡ c.args.speed = omega (arith, ints) in
    let t : to_z w64 c.args.second ≡ pos c.args.second = omega (arith, ints) in
    rw (e, t) (product_fits c.args.speed c.args.second c.ranges.speed c.requires)

pub overflow_sub-result : goal.overflow_sub-result
overflow_sub-result c =
    let e : to_z w64 (of_z w64 (to_z w16 (of_z w16 c.args.speed))) ≡ c.args.speed = omega (arith, ints) in
    let p : to_z w64 (of_z w64 (to_z w32 (of_z w32 c.args.position))) ≡ c.args.position = omega (arith, ints) in
    let t : to_z w64 c.args.second ≡ pos c.args.second = omega (arith, ints) in
    let m : to_z w64 (of_z w64 (c.args.speed *ℤ pos c.args.second)) ≡ c.args.speed *ℤ pos c.args.second = to_z-of_z w64 _ (product_fits c.args.speed c.args.second c.ranges.speed c.requires) in
    rw (e, p, t, m) (difference_fits c.args.position c.args.speed c.args.second c.ranges.position c.ranges.speed c.requires)

pub returns : goal.returns
returns c =
    let e : to_z w64 (of_z w64 (to_z w16 (of_z w16 c.args.speed))) ≡ c.args.speed = omega (arith, ints) in
    let e1 : to_z w16 (of_z w16 c.args.speed) ≡ c.args.speed = omega (arith, ints) in
    let p : to_z w64 (of_z w64 (to_z w32 (of_z w32 c.args.position))) ≡ c.args.position = omega (arith, ints) in
    let t : to_z w64 c.args.second ≡ pos c.args.second = omega (arith, ints) in
    let m : to_z w64 (of_z w64 (c.args.speed *ℤ pos c.args.second)) ≡ c.args.speed *ℤ pos c.args.second = to_z-of_z w64 _ (product_fits c.args.speed c.args.second c.ranges.speed c.requires) in
    let d : to_z w64 (of_z w64 (c.args.position -ℤ (c.args.speed *ℤ pos c.args.second))) ≡ c.args.position -ℤ (c.args.speed *ℤ pos c.args.second) = to_z-of_z w64 _ (difference_fits c.args.position c.args.speed c.args.second c.ranges.position c.ranges.speed c.requires) in
    let value : ◌≡◌ {A = Course} (record { number = c.args.number; speed = to_z w16 (of_z w16 c.args.speed); base = to_z w64 (of_z w64 (to_z w64 (of_z w64 (to_z w32 (of_z w32 c.args.position))) -ℤ to_z w64 (of_z w64 (to_z w64 (of_z w64 (to_z w16 (of_z w16 c.args.speed))) *ℤ to_z w64 c.args.second)))) }) (course_at c.args.number c.args.position c.args.speed c.args.second) = rw (e, e1, p, t, m, d) in
    record { value = value; range = λ a b. subst InRange (sym value) (entry_range c.args.number c.args.position c.args.speed c.args.second a c.requires b) }
