use Rattle.std.proofs.Common.{Err, subst, ◌^◌, ◌∙◌, arith}
use Rattle.std.specs.Int.{w16}
use Rattle.std.specs.Str.Parse.{ParsesSigned}
use Rattle.trace_text.proofs.Numbers.{integer_not_text, integer_unparsed}
use Rattle.trace_text.proofs.words.i16_of.Goals as goal

pub returns-in_err-text_of : goal.returns-in_err-text_of
returns-in_err-text_of c = c.from_residual.ensures ∙ integer_not_text c.args.word.now (2 ^ 15) (omega arith) c.in_err-text_of.ensures

pub returns-in-Err : goal.returns-in-Err
returns-in-Err c = integer_unparsed c.args.word.now w16 (2 ^ 15) c.in-Err.field-0 (omega arith) (λ z h. record { sfits = h }) (subst (λ bs. ParsesSigned w16 10 bs (Err c.in-Err.field-0)) c.in_ok-text_of.ensures c.in-Err.ensures.value.0)
