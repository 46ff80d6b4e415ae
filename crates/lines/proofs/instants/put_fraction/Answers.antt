use Rattle.std.proofs.Common.{◌≢◌, ap, ◌∙◌, decimal}
use Rattle.lines.proofs.Puts.{puts, same}
use Rattle.lines.proofs.Fractions.{fraction}
use Rattle.lines.proofs.instants.put_fraction.Goals as goal

pub returns : goal.returns
returns c =
    let i = c.args.at in
    let part : i.numerator ≢ 0 = λ e. c.if-numerator-eq0.false (c.numerator.ensures ∙ e) in
    let denominator = same (ap decimal (c.from.ensures ∙ c.denominator.ensures)) c.put_number-end.ensures in
    let numerator = same (ap decimal (c.from-2.ensures ∙ c.numerator-2.ensures)) c.put_number-end-2.ensures in
    same (fraction i part i.below) (puts (puts (puts denominator c.put_text-end.ensures) numerator) c.put_text.ensures)
