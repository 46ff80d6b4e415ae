use Rattle.std.proofs.Common.{◌≡◌, take}
use Rattle.fairway.specs.Orders.{slower_than}
use Rattle.sorted_list.proofs.places.count_slower_than_each.Given as goal

-- those before the place are counted
abbrev pub invariant-loop-front : goal.invariant-loop-front
invariant-loop-front l =
    (l.of_one ≡ slower_than l.one (take l.front-index l.courses)) × (l.of_other ≡ slower_than l.other (take l.front-index l.courses))
