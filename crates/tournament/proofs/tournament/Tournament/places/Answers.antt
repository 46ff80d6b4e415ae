use Rattle.std.proofs.Common.{drop, length-drop, arith}
use Rattle.std.proofs.lemmas.List.{take_all}
use Rattle.tournament.proofs.tournament.Tournament.places.Goals as goal

pub returns-clause-value : goal.returns-clause-value
returns-clause-value c =
    let ns = c.args.self.now.nodes in
    take_all 64 (drop 63 ns) (omega (arith, length-drop 63 ns, c.args.self.now.sized))
