use Rattle.std.proofs.Common.{◌≡◌, ◌-◌, ◌<◌, ◌≤◌}
use Rattle.std.specs.List.{range_with_len}
use Rattle.sorted_list.proofs.places.numbers_from.Given as goal

abbrev pub invariant-loop-number : goal.invariant-loop-number
invariant-loop-number l = (l.first ≤ l.number) × (l.numbers ≡ range_with_len l.first (l.number - l.first)) × (l.end < l.first → l.number ≡ l.first)
