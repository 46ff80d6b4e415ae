use Rattle.std.proofs.Common.{rules, tests}
use Rattle.fairway.specs.Courses.{faster}
use Rattle.fairway.proofs.SliceCounts.{ones_fit, count_fits}
use Rattle.fairway.proofs.order.count_slower.Goals as goal

-- each course adds 1 at most
pub sum-requires-clause-fits : goal.sum-requires-clause-fits
sum-requires-clause-fits c = ones_fit _ _ c.args.courses.now (cc) (search rules) c.map.ensures.closure (λ x r q k. search (rules, tests))

pub returns-clause-few : goal.returns-clause-few
returns-clause-few c = count_fits (faster c.args.rear) c.args.courses.now (search rules)
