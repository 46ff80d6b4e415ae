use Rattle.std.specs.Prelude.{◌≤◌, length}
use Rattle.std.proofs.Common.{arith}
use Rattle.sorted_list.specs.declared.list.SortedList.{SortedList}

pub few : (s : SortedList) → length s.courses.items ≤ 64
few s = omega (arith, s.few, s.courses.ok.0)
