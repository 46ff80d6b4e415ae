use Rattle.std.proofs.Common.{◌+◌, ◌-◌, replicate, drop, sym, ap, ◌∙◌, arith}
use Rattle.std.proofs.lemmas.List.{drop-drop, drop-replicate, drop-set-lt, length-set}
use Rattle.kinetic.proofs.numbers.Numbers.push.Goals as goal

-- one zero less
pub invariant_of-self : goal.invariant_of-self
invariant_of-self c =
    let k = c.self.inside.count in
    let ns = c.self.inside.numbers in
    let h = c.self.invariant in
    record {
      few = omega arith;
      long = length-set ns k c.args.number ∙ h.long;
      zeros = drop-set-lt (k + 1) ns k c.args.number (omega arith) ∙ sym (drop-drop 1 k ns) ∙ ap (drop 1) h.zeros ∙ drop-replicate 1 (64 - k) 0 ∙ ap (λ n. replicate n 0) (omega arith);
    }
