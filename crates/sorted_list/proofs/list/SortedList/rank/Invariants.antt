use Rattle.std.proofs.Common.{◌≡◌, take}
use Rattle.fairway.specs.Stamps.{time_of}
use Rattle.sorted_list.specs.Ranks.{in_front}
use Rattle.sorted_list.proofs.list.SortedList.rank.Given as goal

-- those before the place that are in front are counted
abbrev pub invariant-loop-other : goal.invariant-loop-other
invariant-loop-other l = l.count ≡ in_front (time_of l.at) l.own (take l.other-index l.courses)
