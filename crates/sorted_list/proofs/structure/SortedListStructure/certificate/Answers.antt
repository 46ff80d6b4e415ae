use Rattle.std.proofs.Common.{◌≡◌, suc, ◌+◌, ◌<◌, length, get_or, Some, sym, ap, ◌∙◌, add-one, arith}
use Rattle.std.proofs.lemmas.List.{get_or_default}
use Rattle.sorted_list.specs.RostersLemmas.{cert_is, cert_past}
use Rattle.sorted_list.proofs.structure.SortedListStructure.certificate.Goals as goal

pub returns-in_err-rear : goal.returns-in_err-rear
returns-in_err-rear c =
    let v = ap length c.deref.ensures.value in
    c.from_residual.ensures ∙ sym (cert_past c.args.self.now.courses.items c.args.number (omega (arith, v, c.in_err-rear.ensures.lookup.3)))

pub returns-in_err-front : goal.returns-in_err-front
returns-in_err-front c =
    let v = ap length c.deref-2.ensures.value in
    c.from_residual-in_err-front.ensures ∙ sym (cert_past c.args.self.now.courses.items c.args.number (omega (arith, v, c.in_err-front.ensures.lookup.3)))

pub returns : goal.returns
returns c =
    let xs = c.args.self.now.courses.items in
    let i = c.args.number in
    let x = c.in_ok-rear.rear.now in
    let y = c.in_ok-front.front.now in
    let u = c.deref.ensures.value in
    let v = c.deref-2.ensures.value in
    let h : i + 1 < length xs = omega (arith, ap length v, c.in_ok-front.ensures.lookup.3.0) in
    let p : x ≡ get_or xs i x = c.in_ok-rear.ensures.lookup.1 ∙ ap (λ l. get_or l i x) u in
    let q : y ≡ get_or xs (suc i) x = c.in_ok-front.ensures.lookup.1 ∙ ap (λ l. get_or l (i + 1) y) v ∙ get_or_default xs (i + 1) y x h ∙ ap (λ k. get_or xs k x) (add-one i) in
    sym (cert_is xs i x (omega arith) ∙ ap (λ z. Some (z, get_or xs (suc i) x)) (sym p) ∙ ap (λ z. Some (x, z)) (sym q))
