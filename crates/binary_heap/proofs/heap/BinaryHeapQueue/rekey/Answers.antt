use Rattle.std.proofs.Common.{[], Some, sym, ap, ◌∙◌, subst, rules, is_some}
use Rattle.event_queue.specs.Queues.{Put, Rekeyed}
use Rattle.event_queue.specs.declared.refusal.Refusal.TheVariants.{NoSuchTicket}
use Rattle.event_queue.proofs.Laws.{below_accepted}
use Rattle.event_queue.proofs.Options.{not_some}
use Rattle.binary_heap.specs.Meanings.{heap_meaning}
use Rattle.binary_heap.proofs.Methods.{only_64, same_heap, some_key, put_rekeys}
use Rattle.binary_heap.proofs.heap.BinaryHeapQueue.rekey.Goals as goal

pub returns-in_err-held-clause-after : goal.returns-in_err-held-clause-after
returns-in_err-held-clause-after g c =
    subst (λ r. Rekeyed (heap_meaning g.K.Key.before) c.args.self.now r c.args.ticket c.args.key c.from_residual.result) (sym (same_heap c.args.self.now _ _)) (search rules)

pub returns-then-is_none-clause-after : goal.returns-then-is_none-clause-after
returns-then-is_none-clause-after g c =
    let m = heap_meaning g.K.Key.before in
    let q = c.args.self.now in
    let n = c.args.ticket in
    let asked = c.in_ok-held.ensures in
    let free = not_some _ (ap is_some (sym asked.1) ∙ c.if-is_none.ensures) in
    put_rekeys m q c.put.new.self n c.args.key c.put.result (below_accepted NoSuchTicket _ n [] asked.0) asked.0 free
    (subst (λ r. Put m r c.put.new.self n c.args.key c.put.result) (same_heap q _ _) c.put.ensures.after)

pub returns-then-is_none-clause-keeps : goal.returns-then-is_none-clause-keeps
returns-then-is_none-clause-keeps g c = c.put.ensures.keeps

pub returns-clause-after : goal.returns-clause-after
returns-clause-after g c s =
    let n = c.args.ticket in
    let asked = c.in_ok-held.ensures in
    let old = some_key _ (ap is_some (sym asked.1) ∙ c.if-is_none.ensures) in
    (asked.0, only_64 g.K.Key.before c.args.self.now _ n (Some c.args.key) (below_accepted NoSuchTicket _ n [] asked.0) (c.change_front.ensures.changes old.0 s old.1))
