use Rattle.std.proofs.Common.{◌≡◌, ◌^◌, ◌<◌, length, ap, arith, rules}
use Rattle.std.proofs.lemmas.List.{drop_all}
use Rattle.fairway.specs.Orders.{load}
use Rattle.fairway.proofs.Lists.{nobody}
use Rattle.fairway.proofs.Loads.{load_rest, load_le, load_fits}
use Rattle.fairway.proofs.order.load.Goals as goal

pub overflow_add-total : goal.overflow_add-total
overflow_add-total c =
    let n : length c.args.courses.now < 2 ^ 64 = search rules in
    let e = load_rest c.loop-rest.rest.now nobody (omega arith) in
    record { fits = omega (arith, e, c.count_slower.ensures.count, c.loop-rest.invariant, load_fits c.args.courses.now n) }

pub returns : goal.returns
returns c =
    let e : load c.loop-rest.rest.now ≡ 0 = ap load (drop_all 0 c.loop-rest.rest.now (omega arith)) in
    let v : c.loop-rest.total ≡ load c.args.courses.now = omega (arith, c.loop-rest.invariant) in
    record { value = v; most = λ n h. omega (arith, load_le c.args.courses.now n h) }
