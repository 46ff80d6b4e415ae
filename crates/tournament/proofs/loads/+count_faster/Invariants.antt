use Rattle.std.proofs.Common.{◌-◌}
use Rattle.tournament.proofs.loads.+count_faster.Given as goal

abbrev pub decreases-count_faster : goal.decreases-count_faster
decreases-count_faster l = 127 - l.node
