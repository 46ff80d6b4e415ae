use Rattle.std.proofs.Common.{◌<◌, min, [], length, is_some, Some, sym, ap, ◌∙◌, subst, arith, rules}
use Rattle.event_queue.specs.Queues.{Put}
use Rattle.event_queue.specs.declared.refusal.Refusal.TheVariants.{NoSuchTicket}
use Rattle.event_queue.proofs.Fronts.{length_64}
use Rattle.event_queue.proofs.Laws.{below_accepted, put_accepted}
use Rattle.event_queue.proofs.Options.{not_some}
use Rattle.binary_heap.specs.Meanings.{heap_meaning}
use Rattle.binary_heap.proofs.Methods.{only_64, same_heap}
use Rattle.binary_heap.proofs.heap.BinaryHeapQueue.put.Goals as goal

pub returns-in_err-held-clause-after : goal.returns-in_err-held-clause-after
returns-in_err-held-clause-after g c =
    subst (λ r. Put (heap_meaning g.K.Key.before) c.args.self.now r c.args.ticket c.args.key c.from_residual.result) (sym (same_heap c.args.self.now _ _)) (search rules)

pub returns-then-is_some-clause-after : goal.returns-then-is_some-clause-after
returns-then-is_some-clause-after g c = (same_heap c.args.self.now _ _, search rules)

pub returns-clause-after : goal.returns-clause-after
returns-clause-after g c s =
    let q = c.args.self.now in
    let n = c.args.ticket in
    let b : n < min (length q.cells.now) 64 = below_accepted NoSuchTicket _ n [] c.in_ok-held.ensures.0 in
    let free = not_some _ (ap is_some (sym c.in_ok-held.ensures.1) ∙ sym c.if-is_some.ensures) in (
      put_accepted (heap_meaning g.K.Key.before) q n b free,
      only_64 g.K.Key.before q _ n (Some c.args.key) b (c.insert_front-self.ensures.inserts s (omega (arith, length_64 q.cells.now)) free),
    )
