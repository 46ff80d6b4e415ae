use Rattle.std.proofs.Common.{◌≡◌, ℕ, sum_by, rules}
use Rattle.fairway.specs.Stamps.{time_of}
use Rattle.fairway.specs.Orders.{turned_by}
use Rattle.fairway.specs.declared.course.Course.{Course}
use Rattle.fairway.proofs.Lists.{turned_count}
use Rattle.fairway.specs.StampsLemmas.{proper}
use Rattle.fairway.proofs.order.turned_pairs.Goals as goal

pub returns : goal.returns
returns c =
    let xs = c.args.courses.now in
    let f : Course → ℕ = λ x. turned_by (time_of c.args.from) (time_of c.args.to) x xs in
    let e : c.sum.result ≡ sum_by f xs = search rules in
    turned_count (time_of c.args.from) (time_of c.args.to) (proper c.args.from) (proper c.args.to) xs c.sum.result e
