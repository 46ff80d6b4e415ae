use Rattle.std.proofs.Common.{Err, sym, subst, ◌∙◌, arith}
use Rattle.std.specs.Str.Parse.{ParsesUnsigned}
use Rattle.trace_text.proofs.Numbers.{natural_not_text, natural_unparsed, natural_found, natural_other}
use Rattle.trace_text.proofs.words.u32_of.Goals as goal

pub returns-in_err-text_of : goal.returns-in_err-text_of
returns-in_err-text_of c = c.from_residual.ensures ∙ natural_not_text c.args.word.now 32 (omega arith) c.in_err-text_of.ensures

pub returns-in-Err : goal.returns-in-Err
returns-in-Err c = natural_unparsed c.args.word.now 32 c.in-Err.field-0 (omega arith) (subst (λ bs. ParsesUnsigned 32 10 bs (Err c.in-Err.field-0)) c.in_ok-text_of.ensures c.in-Err.ensures.value.0)

pub returns-then-is_printed : goal.returns-then-is_printed
returns-then-is_printed c =
    let value = c.in-Ok.ensures.value.0 in
    natural_found c.args.word.now 32 c.in-Ok.number (omega arith) (omega (arith, value.0.1, value.1)) (c.is_printed.ensures.0 c.if-is_printed.true ∙ c.format.ensures.text)

pub returns-else-is_printed : goal.returns-else-is_printed
returns-else-is_printed c =
    let parsed = subst (λ bs. ParsesUnsigned 32 10 bs c.parse.result) c.in_ok-text_of.ensures c.parse.ensures.value.0 in
    let other = natural_other c.args.word.now 32 c.in-Ok.number c.parse.result c.in-Ok.is (omega arith) parsed in
    other (λ e.
    let printed = c.is_printed.ensures.1 (e ∙ sym c.format.ensures.text) in
    let not_printed = c.if-is_printed.false in
    absurd cc)
