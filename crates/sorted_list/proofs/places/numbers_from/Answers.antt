use Rattle.std.proofs.Common.{◌≡◌, ◌<◌, ◌≤◌, ◌-◌, length, ⊎_elim, ◌∙◌, ap, arith}
use Rattle.std.specs.List.{range_with_len}
use Rattle.std.proofs.lemmas.Bool.{cases_lt}
use Rattle.std.proofs.lemmas.List.FromFn.{length-range_with_len}
use Rattle.sorted_list.proofs.Naming.{next_named}
use Rattle.sorted_list.proofs.places.numbers_from.Goals as goal

pub loop-number-preserved : goal.loop-number-preserved
loop-number-preserved c =
    let first = c.saturating_sub-first.result in
    let number = c.loop-number.number in
    let numbers = c.loop-number.numbers in
    let i = c.loop-number.invariant in
    let long = ap length i.1 ∙ length-range_with_len first (number - first) in
    let room : length numbers < 64 = omega (arith, long, c.requires) in
    (omega (arith, i.0), next_named first number numbers c.push.new.self i.0 (c.push.ensures.value room) i.1, (λ h. omega arith))

pub returns : goal.returns
returns c =
    let first = c.saturating_sub-first.result in
    let i = c.loop-number.invariant in
    let to_end : c.loop-number.number - first ≡ c.args.end - first = ⊎_elim
    (λ (h : c.args.end < first). let e = i.2 h in omega arith)
    (λ (h : first ≤ c.args.end). omega (arith, c.loop-number.auto.number-end))
    (cases_lt c.args.end first) in
    c.loop-number.invariant.1 ∙ ap (range_with_len first) to_end ∙ ap (λ f. range_with_len f (c.args.end - f)) c.saturating_sub-first.ensures
