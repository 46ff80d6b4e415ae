use Rattle.std.proofs.Common.{arith, rules}
use Rattle.std.proofs.lemmas.Grind.{common_steps}
use Rattle.sorted_list.proofs.Changes.{found_first, found_none}
use Rattle.sorted_list.proofs.places.place_from.Goals as goal

pub returns-then-course-number : goal.returns-then-course-number
returns-then-course-number c = found_first c.args.number c.args.courses.now c.loop-course.place (search rules) c.loop-course.invariant.1 (grind (arith, common_steps))

pub returns : goal.returns
returns c = found_none c.args.number c.args.courses.now (search rules)
