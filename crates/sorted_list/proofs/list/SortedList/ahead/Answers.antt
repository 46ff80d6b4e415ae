use Rattle.std.proofs.Common.{◌≡◌, ◌+◌, slice_get, rules}
use Rattle.sorted_list.specs.Ranks.{NextAhead}
use Rattle.sorted_list.proofs.Beside.{get_copied, stands_ahead}
use Rattle.sorted_list.proofs.Changes.{placed_at}
use Rattle.sorted_list.proofs.Neighbours.{beside, next_in_front}
use Rattle.sorted_list.proofs.list.SortedList.ahead.Goals as goal

pub returns : goal.returns
returns c =
    let s = c.args.self.now in
    let n = c.args.number in
    let xs = s.courses.items in
    let i = c.in_ok-place.place in
    let p = placed_at n xs i c.in_ok-place.ensures.1 in
    let e : c.copied.result ≡ slice_get xs (i + 1) = search (rules, get_copied) in
    beside s n NextAhead c.in_ok-place.ensures.0 e (stands_ahead xs s.sound n i p.0 p.2) (next_in_front xs s.sound n i p.0 p.2)
