use Rattle.std.proofs.Common.{refl, ◌%◌, ◌<◌, arith}
use Rattle.fairway.specs.Meetings.{lowest_stamp}
use Rattle.fairway.specs.Fractions.{CommonDivisor}
use Rattle.fairway.proofs.Fractions.{divisor_swapped}
use Rattle.fairway.proofs.Instants.{lowered}
use Rattle.fairway.proofs.pair.quotient.Goals as goal
use Rattle.fairway.proofs.pair.quotient.Goals.{After-greatest_common_divisor-common}

common : (c : goal.After-greatest_common_divisor-common) → CommonDivisor (c.args.distance % c.from-divisor.result) c.args.speed c.greatest_common_divisor-common.result
common c = divisor_swapped c.args.speed (c.args.distance % c.from-divisor.result) c.greatest_common_divisor-common.result c.greatest_common_divisor-common.ensures

pub overflow_sub-result : goal.overflow_sub-result
overflow_sub-result c =
    let m : c.args.distance % c.from-divisor.result < c.args.speed = omega arith in
    omega (arith, (lowered 0 (c.args.distance % c.from-divisor.result) c.args.speed c.greatest_common_divisor-common.result m (common (goal.at.overflow_sub-result c).After-greatest_common_divisor-common)).below)

pub returns : goal.returns
unfolding lowest_stamp
returns c = rw ((common (goal.at.returns c).After-greatest_common_divisor-common).value, c.from-divisor.ensures) refl
