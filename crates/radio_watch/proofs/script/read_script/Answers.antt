use Rattle.std.proofs.Common.{vec_items, Some, None, Ok, Err, sym, ap, ◌∙◌, append-nil, rules}
use Rattle.std.proofs.lemmas.Iterator.Consumers.{YieldsList-at, YieldsList-end, YieldsList-from_enumerate, YieldsList-from_filter}
use Rattle.std.proofs.lemmas.Iterator.Splits.{YieldsList-from_slice_split}
use borrow.Author.Tests.{tests}
use Rattle.radio_watch.proofs.Lines.{line_feed, asked, filled, filled_is, read_more, all_asked}
use Rattle.radio_watch.proofs.script.read_script.Goals as goal

pub loop-index-preserved-in-Ok-None : goal.loop-index-preserved-in-Ok-None
loop-index-preserved-in-Ok-None c =
    read_more (vec_items c.loop-index.found) _ c.loop-index.yielded (c.in-Some.index, c.in-Some.line) (Ok None) c.loop-index.invariant (rw c.in-Ok-None.field-0-is at c.in-Ok-None.ensures) (sym (append-nil _))

pub loop-index-preserved-in-Continue-1 : goal.loop-index-preserved-in-Continue-1
loop-index-preserved-in-Continue-1 c =
    read_more (vec_items c.loop-index.found) _ c.loop-index.yielded (c.in-Some.index, c.in-Some.line) (Ok (Some c.in-Ok-Some.call)) c.loop-index.invariant (rw c.in-Ok-Some.field-0-is at c.in-Ok-Some.ensures) c.in_ok-push-in-Ok-Some.ensures.items

pub loop-index-preserved : goal.loop-index-preserved
loop-index-preserved c =
    read_more (vec_items c.loop-index.found) _ c.loop-index.yielded (c.in-Some.index, c.in-Some.line) (Err c.in-Err.field-0) c.loop-index.invariant c.in-Err.ensures c.in_ok-push-in-Err.ensures.items

pub returns : goal.returns
returns c =
    let script = c.args.script.now in
    let end = YieldsList-end (YieldsList-at c.into_iter-index-iterator.ensures.into_iter_gives (YieldsList-from_filter _ (λ x. filled x.1) (YieldsList-at c.filter-index-items.ensures.source (YieldsList-from_enumerate (YieldsList-at c.enumerate.ensures.source (
    YieldsList-from_slice_split _ line_feed script c.split.ensures.rest c.split.ensures.done c.split.ensures.closure (λ x b q k. search (rules, tests))
    )) c.enumerate.ensures.count)) c.filter-index-items.ensures.closure (λ x b q k. search (rules, filled_is)))) c.loop-index.yielded _ c.loop-index.yielded_by _ _ c.in-None.is c.next.ensures.steps in
    c.loop-index.invariant ∙ ap asked end.0 ∙ all_asked script
