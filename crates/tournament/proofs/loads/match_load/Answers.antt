use Rattle.std.proofs.Common.{sym, ◌∙◌}
use Rattle.tournament.proofs.Beneath.{match_won}
use Rattle.tournament.proofs.loads.match_load.Goals as goal

pub returns-in-Some-clause-count : goal.returns-in-Some-clause-count
returns-in-Some-clause-count c = c.count_faster.ensures.count ∙ sym (match_won c.args.nodes.now c.args.number c.in-Some.winner c.in-Some.is)
