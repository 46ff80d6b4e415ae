use Rattle.std.proofs.Common.{◌≡◌, ◌+◌, length}
use Rattle.fairway.specs.Orders.{load}
use Rattle.fairway.proofs.order.load.Given as goal

-- counted so far, and still to be counted
abbrev pub invariant-loop-rest : goal.invariant-loop-rest
invariant-loop-rest l = l.total + load l.rest ≡ load l.courses

abbrev pub decreases-loop-rest : goal.decreases-loop-rest
decreases-loop-rest l = length l.rest
