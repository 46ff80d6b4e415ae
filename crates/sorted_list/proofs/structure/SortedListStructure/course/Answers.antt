use Rattle.std.proofs.Common.{Some, sym, ap, ◌∙◌, get_or, rules}
use Rattle.sorted_list.specs.Places.{place_in}
use Rattle.sorted_list.proofs.Changes.{placed_at, not_placed}
use Rattle.sorted_list.proofs.structure.SortedListStructure.course.Goals as goal

pub returns-in_err-place : goal.returns-in_err-place
returns-in_err-place c =
    let n = c.args.number in
    let xs = c.args.self.now.courses.items in
    c.from_residual.ensures ∙ sym (not_placed n xs (sym (c.in_err-place.ensures ∙ ap (place_in n) c.as_slice.ensures.value)))

pub returns : goal.returns
returns c =
    let n = c.args.number in
    let xs = c.args.self.now.courses.items in
    let p = placed_at n xs c.in_ok-place.place (sym (c.in_ok-place.ensures ∙ ap (place_in n) c.as_slice.ensures.value)) in
    ap Some (c.index.ensures ∙ ap (λ i. get_or xs i c.index.result.now) (search rules)) ∙ sym (p.2 c.index.result.now)
