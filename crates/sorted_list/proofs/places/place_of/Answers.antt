use Rattle.std.proofs.Common.{◌+◌, arith}
use Rattle.std.proofs.lemmas.Grind.{common_steps}
use Rattle.sorted_list.specs.Places.{NoneBefore}
use Rattle.sorted_list.proofs.Changes.{found_first}
use Rattle.sorted_list.proofs.places.place_of.Goals as goal

pub returns-then-courses-place : goal.returns-then-courses-place
returns-then-courses-place c = found_first c.args.number c.args.courses.now c.loop-place.place (omega arith) c.loop-place.invariant.1 (grind (arith, common_steps))

pub returns-then-courses-place-2 : goal.returns-then-courses-place-2
returns-then-courses-place-2 c =
    let b : NoneBefore c.args.courses.now (c.loop-place.place + 1) c.args.number = grind (arith, common_steps) in
    found_first c.args.number c.args.courses.now (c.loop-place.place + 1) (omega arith) b (grind (arith, common_steps))

pub returns-then-courses-place-3 : goal.returns-then-courses-place-3
returns-then-courses-place-3 c =
    let b : NoneBefore c.args.courses.now (c.loop-place.place + 2) c.args.number = grind (arith, common_steps) in
    found_first c.args.number c.args.courses.now (c.loop-place.place + 2) (omega arith) b (grind (arith, common_steps))

pub returns-then-courses-place-4 : goal.returns-then-courses-place-4
returns-then-courses-place-4 c =
    let b : NoneBefore c.args.courses.now (c.loop-place.place + 3) c.args.number = grind (arith, common_steps) in
    found_first c.args.number c.args.courses.now (c.loop-place.place + 3) (omega arith) b (grind (arith, common_steps))
