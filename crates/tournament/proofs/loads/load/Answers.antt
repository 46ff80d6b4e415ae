use Rattle.std.proofs.Common.{◌≤◌, sum_by, refl, arith, rules}
use Rattle.std.specs.List.{range_with_len}
use Rattle.std.proofs.lemmas.Iterator.{YieldsList-from_range, YieldsList-from_map}
use Rattle.std.proofs.lemmas.Iterator.Consumers.{sum_by_from_yields_List, fits_by_from_yields_list}
use Rattle.tournament.specs.Loads.{match_load, load}
use Rattle.tournament.specs.LoadsLemmas.{load_bounded}
use Rattle.tournament.proofs.loads.load.Goals as goal

pub sum-requires-clause-fits : goal.sum-requires-clause-fits
unfolding load
sum-requires-clause-fits c =
    let f = match_load c.args.nodes.now in
    let few : sum_by f (range_with_len 0 63) ≤ 2016 = load_bounded c.args.nodes.now in
    fits_by_from_yields_list f (range_with_len 0 63) c.map.result 18446744073709551616
    (YieldsList-from_map _ f (YieldsList-from_range 0 63 63 c.map.ensures.source refl) c.map.ensures.closure (λ x r q k. search rules)) (omega (arith, few))

pub returns : goal.returns
unfolding load
returns c =
    let f = match_load c.args.nodes.now in
    sum_by_from_yields_List f (range_with_len 0 63) c.map.result c.sum.result c.sum.ensures.ran
    (YieldsList-from_map _ f (YieldsList-from_range 0 63 63 c.map.ensures.source refl) c.map.ensures.closure (λ x r q k. search rules))
