use Rattle.std.proofs.Common.{◌≡◌, is_some, ◌∙◌, rules}
use Rattle.std.specs.List.{count_by}
use Rattle.tournament.proofs.Taken.{counted}
use Rattle.tournament.proofs.places.count_taken.Goals as goal

pub returns : goal.returns
returns c =
    let e : c.count.result ≡ count_by is_some c.args.places.now = search rules in
    e ∙ counted c.args.places.now
