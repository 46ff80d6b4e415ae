use Rattle.std.proofs.Common.{◌≡◌, take}
use Rattle.fairway.specs.Orders.{faster_than}
use Rattle.sorted_list.proofs.places.count_faster_than_each.Given as goal

-- those before the place are counted
abbrev pub invariant-loop-rear : goal.invariant-loop-rear
invariant-loop-rear l =
    (l.of_one ≡ faster_than l.one (take l.rear-index l.courses)) × (l.of_other ≡ faster_than l.other (take l.rear-index l.courses))
