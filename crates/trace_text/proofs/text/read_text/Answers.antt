use Rattle.std.proofs.Common.{◌≡◌, [], length, Err, ap, arith}
use Rattle.std.proofs.lemmas.List.{nil_from_length}
use Rattle.trace_text.specs.declared.text.TextError.TheVariants.{Unreadable}
use Rattle.trace_text.proofs.Texts.{read_more, unreadable, answers_again, shorter, ended}
use Rattle.trace_text.proofs.text.read_text.Goals as goal

pub returns-in_default-clause-answer : goal.returns-in_default-clause-answer
returns-in_default-clause-answer c =
    let filled : c.loop-rest.rest.now ≡ [] → ⊥ = λ e. (let none : length c.loop-rest.rest.now ≡ 0 = ap length e in grind arith) in
    unreadable c.args.text.now c.loop-rest.rest.now c.loop-rest.records.items _ (omega (arith, c.len.ensures, c.loop-rest.records.ok.0)) c.loop-rest.invariant filled c.in_default.ensures

pub returns-in_default-clause-again : goal.returns-in_default-clause-again
returns-in_default-clause-again c = answers_again c.args.text.now (Err (Unreadable _)) (returns-in_default-clause-answer c)

pub loop-rest-smaller : goal.loop-rest-smaller
loop-rest-smaller c = shorter c.loop-rest.rest.now c.in-Some.after.now c.in-Some.record c.in-Some.ensures

pub loop-rest-preserved : goal.loop-rest-preserved
loop-rest-preserved c = read_more c.args.text.now c.loop-rest.records.items c.push.new.self.items c.loop-rest.rest.now c.in-Some.after.now c.in-Some.record c.in_ok-push.ensures.items c.loop-rest.invariant c.in-Some.ensures

pub returns-clause-again : goal.returns-clause-again
returns-clause-again c =
    let none : length c.loop-rest.rest.now ≡ 0 = grind arith in
    ended c.args.text.now c.loop-rest.records.items c.loop-rest.rest.now c.loop-rest.invariant (nil_from_length c.loop-rest.rest.now none)
