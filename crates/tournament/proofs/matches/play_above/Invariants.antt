use Rattle.fairway.specs.Stamps.{time_of}
use Rattle.tournament.specs.Rounds.{PlayedBelow, NamedBelow}
use Rattle.tournament.proofs.matches.play_above.Given as goal

abbrev pub invariant-loop-node : goal.invariant-loop-node
invariant-loop-node l = PlayedBelow (time_of l.at) l.node l.from l.initial.nodes l.nodes l.numbers × NamedBelow l.node l.from l.numbers

abbrev pub decreases-loop-node : goal.decreases-loop-node
decreases-loop-node l = l.node
