use Rattle.std.proofs.Common.{◌≡◌, ◌-◌, length, slice_get, sym, ap, ◌∙◌, rules}
use Rattle.std.specs.Option.{option_copied, option_map}
use Rattle.fairway.specs.declared.course.Course.{Course}
use Rattle.sorted_list.proofs.Beside.{last_number_is}
use Rattle.sorted_list.proofs.structure.SortedListStructure.foremost.Goals as goal

pub returns : goal.returns
returns c =
    let number = λ (z : Course). z.number in
    let e : c.map.result ≡ option_map number (option_copied c.last.result) = search rules in
    e ∙ ap (option_map number) (c.last.ensures.value ∙ ap (λ l. slice_get l (length l - 1)) c.deref.ensures.value) ∙ sym (last_number_is c.args.self.now.courses.items)
