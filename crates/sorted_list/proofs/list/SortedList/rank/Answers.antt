use Rattle.std.proofs.Common.{◌≡◌, ◌+◌, take, sym, ap, ◌∙◌, arith}
use Rattle.std.proofs.lemmas.List.{take_all}
use Rattle.event_queue.proofs.Options.{some_same}
use Rattle.fairway.specs.Stamps.{time_of}
use Rattle.sorted_list.specs.Ranks.{in_front}
use Rattle.sorted_list.proofs.Changes.{placed_at}
use Rattle.sorted_list.proofs.list.SortedList.rank.Goals as goal

pub returns : goal.returns
returns c =
    let t = time_of c.args.at in
    let n = c.args.number in
    let xs = c.args.self.now.courses.items in
    let place = c.in_ok-place.ensures in
    let p = placed_at n xs c.in_ok-place.place place.1 in
    let own = c.index-own.result.now in
    let all : take c.loop-other.other-index c.as_slice-courses.result.now ≡ xs = take_all _ _ (omega arith) ∙ c.as_slice-courses.ensures.value in
    let count : c.loop-other.count ≡ in_front t own xs = c.loop-other.invariant ∙ ap (in_front t own) all in
    (place.0, λ d e. ap (λ k. k + 1) count ∙ ap (λ x. in_front t x xs + 1) (c.index-own.ensures ∙ sym (some_same (sym e ∙ p.2 own))))
