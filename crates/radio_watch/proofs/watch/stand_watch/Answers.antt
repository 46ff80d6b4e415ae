use Rattle.std.proofs.Common.{◌≡◌, List, Ok, Err, inr, ap, sym, ◌∙◌}
use Rattle.std.specs.Result.{OnErr}
use Rattle.std.proofs.lemmas.Result.{IfOk-weaker}
use Rattle.std.proofs.lemmas.List.{take_at}
use Rattle.call_sheet.specs.History.{LedTo}
use Rattle.call_sheet.specs.declared.call.Event.{Event}
use Rattle.radio_watch.specs.Report.{report_text}
use Rattle.radio_watch.specs.Watch.{Done, NoneOrAllDone}
use Rattle.radio_watch.proofs.Watches.{whole}
use Rattle.radio_watch.proofs.watch.stand_watch.Goals as goal

-- all that the script asks for was done, and the journal of it is the one that was kept
all_done : (g : _) (c : goal.After-drop-items-2 g) (log : List Event) → LedTo g.Q.Queue.means log c.args.sheet.now.queue → (done : Done g.Q.Queue.means log c.args.script.now c.keep.new.sheet.queue) × (done.journal ≡ c.keep.new.journal)
all_done g c log led =
    let kept = c.keep.ensures in
    whole g.Q.Queue.means c.args.script.now _ _ c.as_mut_slice.result.now _ _
    (c.as_slice.ensures.value ∙ c.in_ok-items.ensures)
    (c.as_mut_slice.ensures.len ∙ c.in_ok-journal.ensures.len ∙ c.len.ensures ∙ sym c.as_slice.ensures.len)
    c.keep.auto.journal kept.count kept.items log (kept.history log led)

-- which is what is reported on
written_back : (g : _) (c : goal.After-drop-items-2 g) → c.as_slice-2.result.now ≡ c.keep.new.journal
written_back g c = c.as_slice-2.ensures.value ∙ take_at c.keep.new.journal _ _ (c.keep.auto.journal ∙ c.as_mut_slice.ensures.len)

pub returns-clause-report : goal.returns-clause-report
returns-clause-report g c =
    IfOk-weaker c.report.result _ _
    (λ text e log led. let done = all_done g c log led in record { done = done.0; written = e ∙ ap report_text (written_back g c ∙ sym done.1) })
    c.report.ensures

pub returns-clause-wanting : goal.returns-clause-wanting
returns-clause-wanting g c = elim c.report.result as (λ r. OnErr r (NoneOrAllDone g.Q.Queue.means c.args.script.now c.args.sheet.now.queue c.keep.new.sheet.queue)) [ Ok t ↦ tt | Err e ↦ inr (λ log led. (all_done g c log led).0) ]
