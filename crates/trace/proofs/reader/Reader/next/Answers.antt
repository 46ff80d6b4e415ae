use Rattle.std.proofs.Common.{ap, sym, ◌∙◌, drop, slice_get}
use Rattle.trace.proofs.WalkLemmas.{step_made}
use Rattle.trace.proofs.reader.Reader.next.Goals as goal

pub returns-in_default : goal.returns-in_default
returns-in_default c =
    let made = step_made _ _ _ _ (c.in-Ok.record, c.in-Ok.rest.now) c.self.view_is c.if-self.false c.in-Ok.ensures.exact c.in_default.not-End-0 in
    record {
      answer = sym (ap (λ steps. slice_get steps 0) made.1);
      left = made.2 ∙ sym (ap (drop 1) made.1);
    }
