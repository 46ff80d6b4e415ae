use Rattle.std.proofs.Common.{◌≡◌, take}
use Rattle.fairway.specs.Orders.{faster_than}
use Rattle.sorted_list.proofs.places.count_faster.Given as goal

-- those before the place are counted
abbrev pub invariant-loop-rear : goal.invariant-loop-rear
invariant-loop-rear l = l.count ≡ faster_than l.front (take l.rear-index l.courses)
