use Rattle.std.proofs.Common.{sym, subst, rules, tests}
use Rattle.std.proofs.lemmas.Iterator.{YieldsList-from_slice}
use Rattle.std.proofs.lemmas.Iterator.Search.{position_from_yields_List}
use Rattle.tournament.specs.Places.{FreePlace}
use Rattle.tournament.proofs.Taken.{is_free, free_found}
use Rattle.tournament.proofs.places.free_place.Goals as goal

pub returns : goal.returns
returns c =
    let xs = c.args.places.now in
    let e = position_from_yields_List is_free _ _ c.position.result c.position.ensures.ran (YieldsList-from_slice xs cc) (λ x b q k. search (rules, tests)) in
    subst (FreePlace xs) (sym e) (free_found xs)
