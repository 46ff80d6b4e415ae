use Rattle.std.proofs.Common.{sym, ◌∙◌, arith}
use Rattle.radio_watch.proofs.Numbers.{too_large}
use Rattle.radio_watch.proofs.script.decimal.Goals as goal

pub returns-in_err-checked_mul : goal.returns-in_err-checked_mul
returns-in_err-checked_mul c = c.from_residual.ensures ∙ too_large c.args.word.now c.loop-b.b-index c.loop-b.n c.loop-b-test.true (sym c.if-not-is_ascii_digit.ensures.value) (omega (arith, c.in_err-checked_mul.ensures)) c.loop-b.invariant.1

pub returns-in_err-n : goal.returns-in_err-n
returns-in_err-n c = c.from_residual-in_err-n.ensures ∙ too_large c.args.word.now c.loop-b.b-index c.loop-b.n c.loop-b-test.true (sym c.if-not-is_ascii_digit.ensures.value) (omega (arith, c.in_ok-checked_mul.ensures, c.in_err-n.ensures)) c.loop-b.invariant.1
