use Rattle.std.proofs.Common.{◌≡◌, ◌≤◌, length, take, sym, ap, ◌∙◌, subst, arith}
use Rattle.std.proofs.lemmas.List.{length-take, take_all}
use Rattle.radio_watch.proofs.Journals.{KeptSoFar, kept_none, kept_more}
use Rattle.radio_watch.proofs.journal.keep.Goals as goal

pub loop-index-init : goal.loop-index-init
loop-index-init g c = kept_none g.Q.Queue.means _ _ _ _

pub loop-index-preserved : goal.loop-index-preserved
loop-index-preserved g c =
    let asked = take c.min-count.result c.args.items.now in
    let long : length asked ≡ c.min-count.result = length-take c.min-count.result c.args.items.now ∙ omega arith in
    let said = c.answer.ensures in
    kept_more g.Q.Queue.means asked _ _ _ c.loop-index.invariant c.answer.result _ said.item c.loop-index-test.true (omega (arith, long)) (omega (arith, long)) said.history said.sound said.capacity said.keeps

pub returns : goal.returns
returns g c =
    let asked = take c.min-count.result c.args.items.now in
    let long : length asked ≡ c.min-count.result = length-take c.min-count.result c.args.items.now ∙ omega arith in
    let index : c.loop-index.index ≡ c.min-count.result = omega (arith, long) in
    let h = subst (λ i. KeptSoFar g.Q.Queue.means asked c.min-count.result c.args.journal.now c.args.sheet.now.queue i c.loop-index.journal c.loop-index.sheet.queue) index c.loop-index.invariant in
    record {
      count = c.min-count.ensures;
      items = h.in_turn ∙ take_all c.min-count.result asked (omega (arith, long));
      past = h.past;
      history = h.history;
      sound = h.sound;
      capacity = h.capacity;
      keeps = h.keeps;
    }
