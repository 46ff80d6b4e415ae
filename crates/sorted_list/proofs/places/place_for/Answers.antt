use Rattle.std.proofs.Common.{length, ap, ◌∙◌, rules, tests}
use Rattle.std.specs.Option.{unwrap_or}
use Rattle.std.proofs.lemmas.Iterator.{YieldsList-from_slice}
use Rattle.std.proofs.lemmas.Iterator.Search.{position_from_yields_List}
use Rattle.fairway.specs.Behind.{behind}
use Rattle.fairway.specs.Stamps.{time_of}
use Rattle.sorted_list.proofs.places.place_for.Goals as goal

pub returns-clause-first : goal.returns-clause-first
returns-clause-first c =
    let t = time_of c.args.at in
    let x = c.args.course in
    let xs = c.args.courses.now in
    let e = position_from_yields_List (behind t x) _ _ c.position.result c.position.ensures.ran (YieldsList-from_slice xs cc) (λ y b q k. search (rules, tests)) in
    c.unwrap_or.ensures ∙ ap (λ o. unwrap_or o (length xs)) e
