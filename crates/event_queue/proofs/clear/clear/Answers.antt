use Rattle.std.proofs.Common.{sym, ap, ◌∙◌, subst, arith}
use Rattle.event_queue.proofs.Laws.{dropped_only}
use Rattle.event_queue.proofs.Clearing.{cleared_none, cleared_more, cleared_all}
use Rattle.event_queue.proofs.clear.clear.Goals as goal

pub loop-ticket-init : goal.loop-ticket-init
loop-ticket-init g c =
    let m = g.Q.Queue.means in
    (λ s. cleared_none m _ s, m.keeps_itself _)

pub loop-ticket-preserved : goal.loop-ticket-preserved
loop-ticket-preserved g c =
    let m = g.Q.Queue.means in (
      λ s. let h = c.loop-ticket.invariant.0 s in cleared_more m h (dropped_only m _ _ _ c.drop.result c.drop.ensures.after h.sound),
      m.keeps_on _ _ _ c.loop-ticket.invariant.1 c.drop.ensures.keeps,
    )

pub returns : goal.returns
returns g c =
    let m = g.Q.Queue.means in
    let asked = c.capacity-ticket-end.ensures in
    let h = c.loop-ticket.invariant in
    record {
      empty = λ s. cleared_all m (h.0 (subst m.sound (sym asked.same) s)) (omega (arith, asked.value, ap m.capacity asked.same));
      capacity = λ s. (h.0 (subst m.sound (sym asked.same) s)).capacity ∙ ap m.capacity asked.same;
      keeps = subst (λ q. m.keeps q c.loop-ticket.queue) asked.same h.1;
    }
