use Rattle.std.proofs.Common.{rules, tests}
use Rattle.fairway.specs.Stamps.{time_of}
use Rattle.fairway.specs.Orders.{turns, pair}
use Rattle.fairway.proofs.SliceCounts.{ones_fit, count_fits}
use Rattle.fairway.proofs.order.count_turned.Goals as goal

-- each course adds 1 at most
pub sum-requires-clause-fits : goal.sum-requires-clause-fits
sum-requires-clause-fits c = ones_fit _ _ c.args.courses.now (cc) (search rules) c.map.ensures.closure (λ x r q k. search (rules, tests))

pub returns-clause-few : goal.returns-clause-few
returns-clause-few c = count_fits (λ y. turns (time_of c.args.from) (time_of c.args.to) (pair c.args.rear y)) c.args.courses.now (search rules)
