use Rattle.std.proofs.Common.{◌∙◌, subst}
use Rattle.event_queue.specs.Queues.{Only}
use Rattle.board.proofs.Renewing.{wanted, renewed_none, renewed_more, renewed_all, kept_itself, kept_on}
use Rattle.board.proofs.tickets.renew_all.Goals as goal

pub loop-number-init : goal.loop-number-init
loop-number-init g c =
    let n = g.Q.Queue.means in
    (λ s large. renewed_none n (wanted g.S.Structure.means c.args.structure.now) c.args.numbers.now _ s, kept_itself n _)

pub loop-number-preserved : goal.loop-number-preserved
loop-number-preserved g c =
    let n = g.Q.Queue.means in
    let h = c.loop-number.invariant in (
      λ s large.
          let want = wanted g.S.Structure.means c.args.structure.now in
          let r = h.0 s large in
          renewed_more n want c.args.numbers.now _ c.loop-number-test.true r (subst (λ i. Only n c.loop-number.queue c.renew.new.queue i (want i)) c.from.ensures (c.renew.ensures.only r.sound (r.capacity ∙ large))),
      kept_on n h.1 c.renew.ensures.kept,
    )

pub returns : goal.returns
returns g c =
    let n = g.Q.Queue.means in
    let h = c.loop-number.invariant in
    record {
      tickets = λ s large but. renewed_all n (wanted g.S.Structure.means c.args.structure.now) c.args.numbers.now c.loop-number-test.false (h.0 s large) but;
      kept = h.1;
    }
