use Rattle.std.proofs.Common.{◌≡◌, take}
use Rattle.fairway.specs.Orders.{slower_than}
use Rattle.sorted_list.proofs.places.count_slower.Given as goal

-- those before the place are counted
abbrev pub invariant-loop-front : goal.invariant-loop-front
invariant-loop-front l = l.count ≡ slower_than l.rear (take l.front-index l.courses)
