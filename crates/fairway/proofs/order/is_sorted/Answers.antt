use Rattle.std.proofs.Common.{rules}
use Rattle.std.proofs.lemmas.Fn.{always_returns_same}
use Rattle.fairway.specs.Stamps.{time_of}
use Rattle.fairway.specs.Behind.{behind}
use Rattle.fairway.specs.StampsLemmas.{proper}
use Rattle.fairway.proofs.Lists.{sorted_told}
use Rattle.fairway.proofs.order.is_sorted.Goals as goal

pub returns : goal.returns
returns c =
    let t = time_of c.args.at in
    sorted_told t (proper c.args.at) c.args.courses.now c.is_sorted_by.result
    (c.is_sorted_by.ensures.cases (behind t) (search (rules, always_returns_same)))
