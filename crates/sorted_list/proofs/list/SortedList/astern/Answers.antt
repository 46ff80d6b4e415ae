use Rattle.std.proofs.Common.{◌≡◌, rules}
use Rattle.sorted_list.specs.Ranks.{NextBehind}
use Rattle.sorted_list.proofs.Beside.{rear, stands_astern}
use Rattle.sorted_list.proofs.Changes.{placed_at}
use Rattle.sorted_list.proofs.Neighbours.{beside, next_behind_it}
use Rattle.sorted_list.proofs.list.SortedList.astern.Goals as goal

pub returns : goal.returns
returns c =
    let s = c.args.self.now in
    let n = c.args.number in
    let xs = s.courses.items in
    let i = c.in_ok-place.place in
    let p = placed_at n xs i c.in_ok-place.ensures.1 in
    let e : c.copied.result ≡ rear xs i = search rules in
    beside s n NextBehind c.in_ok-place.ensures.0 e (stands_astern xs s.sound n i p.0 p.2) (next_behind_it xs s.sound n i p.0 p.2)
