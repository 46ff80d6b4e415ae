use Rattle.std.proofs.Common.{sym, arith}
use Rattle.lines.proofs.Puts.{puts, same}
use Rattle.lines.proofs.FromFront.{one_more, fits}
use Rattle.lines.proofs.vessels.put_vessels.Goals as goal

pub put_number-number-requires : goal.put_number-number-requires
put_number-number-requires c = omega (arith, fits c.args.courses.now c.loop-course.course-index _ c.loop-course-test.true c.from.ensures)

pub put_text-start-requires : goal.put_text-start-requires
put_text-start-requires c = omega (arith, fits c.args.courses.now c.loop-course.course-index _ c.loop-course-test.true c.from.ensures)

pub loop-course-preserved : goal.loop-course-preserved
loop-course-preserved c =
    let more = one_more c.args.courses.now c.loop-course.course-index _ c.loop-course-test.true c.from.ensures in
    same (sym more) (puts (puts c.loop-course.invariant c.put_number-number.ensures) c.put_text-start.ensures)
