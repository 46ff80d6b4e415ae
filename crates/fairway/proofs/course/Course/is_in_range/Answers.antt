use Rattle.std.proofs.Common.{arith}
use Rattle.std.proofs.lemmas.Int.{ints}
use Rattle.fairway.proofs.course.Course.is_in_range.Goals as goal

pub returns-then-contains : goal.returns-then-contains
returns-then-contains c = grind (arith, ints)
