use Rattle.std.proofs.Common.{◌-◌, [], Some, None, length, take, drop, sym, refl, ◌∙◌, rules, tests, arith}
use Rattle.std.proofs.lemmas.Iterator.{YieldsList-from_slice}
use Rattle.std.proofs.lemmas.Iterator.Search.{position_from_yields_List}
use Rattle.std.proofs.lemmas.List.{drop_all, take_all}
use Rattle.std.proofs.lemmas.Bool.{eqb-true}
use Rattle.radio_watch.specs.Script.{blank}
use Rattle.radio_watch.proofs.Words.{no_blank, cut_place, no_word, found_word}
use Rattle.radio_watch.proofs.script.first_word.Goals as goal

pub returns-then-is_empty : goal.returns-then-is_empty
returns-then-is_empty c =
    let s = c.args.text.now in
    let e = position_from_yields_List no_blank _ _ c.position.result c.position.ensures.ran (YieldsList-from_slice s cc) (λ x b q k. search (rules, tests)) in
    no_word s _ _ (cut_place no_blank s _ _ e c.unwrap_or-start.ensures) refl (eqb-true _ _ (sym c.is_empty.ensures ∙ c.if-is_empty.true))

pub returns-in-Some : goal.returns-in-Some
returns-in-Some c =
    let s = c.args.text.now in
    let t = take (length s - c.unwrap_or-start.result) (drop c.unwrap_or-start.result s) in
    let e = position_from_yields_List no_blank _ _ c.position.result c.position.ensures.ran (YieldsList-from_slice s cc) (λ x b q k. search (rules, tests)) in
    let f = position_from_yields_List blank _ _ c.position-2.result c.position-2.ensures.ran (YieldsList-from_slice t cc) (λ x b q k. search (rules, tests)) in
    found_word s t _ (cut_place no_blank s _ _ e c.unwrap_or-start.ensures) refl _ _ c.in-Some.end (grind arith) (cut_place blank t (Some c.in-Some.end) _ (sym c.in-Some.is ∙ f) refl) c.split_at.ensures.front c.split_at.ensures.back

pub returns-in-None : goal.returns-in-None
returns-in-None c =
    let s = c.args.text.now in
    let t = take (length s - c.unwrap_or-start.result) (drop c.unwrap_or-start.result s) in
    let e = position_from_yields_List no_blank _ _ c.position.result c.position.ensures.ran (YieldsList-from_slice s cc) (λ x b q k. search (rules, tests)) in
    let f = position_from_yields_List blank _ _ c.position-2.result c.position-2.ensures.ran (YieldsList-from_slice t cc) (λ x b q k. search (rules, tests)) in
    found_word s t _ (cut_place no_blank s _ _ e c.unwrap_or-start.ensures) refl t [] (length t) (grind arith) (cut_place blank t None _ (sym c.in-None.is ∙ f) refl) (sym (take_all (length t) t (omega arith))) (sym (drop_all (length t) t (omega arith)))
