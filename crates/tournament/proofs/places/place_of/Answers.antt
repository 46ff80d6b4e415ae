use Rattle.std.proofs.Common.{sym, subst, rules, tests}
use Rattle.std.proofs.lemmas.Iterator.{YieldsList-from_slice}
use Rattle.std.proofs.lemmas.Iterator.Search.{position_from_yields_List}
use Rattle.tournament.specs.Places.{PlaceOf}
use Rattle.tournament.proofs.Taken.{has_vessel, place_found}
use Rattle.tournament.proofs.places.place_of.Goals as goal

pub returns : goal.returns
returns c =
    let n = c.args.number in
    let xs = c.args.places.now in
    let e = position_from_yields_List (has_vessel n) _ _ c.position.result c.position.ensures.ran (YieldsList-from_slice xs cc) (λ x b q k. search (rules, tests)) in
    subst (PlaceOf xs n) (sym e) (place_found n xs)
