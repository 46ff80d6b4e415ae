use Rattle.std.proofs.Common.{[], None, sym, ◌∙◌, subst, arith, rules}
use Rattle.event_queue.specs.Queues.{Dropped}
use Rattle.event_queue.specs.declared.refusal.Refusal.TheVariants.{NoSuchTicket}
use Rattle.event_queue.proofs.Laws.{below_accepted}
use Rattle.binary_heap.specs.Meanings.{heap_meaning}
use Rattle.binary_heap.proofs.Methods.{only_64, same_heap}
use Rattle.binary_heap.proofs.heap.BinaryHeapQueue.drop.Goals as goal

pub returns-in_err-key-clause-after : goal.returns-in_err-key-clause-after
returns-in_err-key-clause-after g c =
    subst (λ r. Dropped (heap_meaning g.K.Key.before) c.args.self.now r c.args.ticket c.from_residual.result) (sym (same_heap c.args.self.now _ _)) (search rules)

pub returns-in_default-clause-none : goal.returns-in_default-clause-none
returns-in_default-clause-none g c = same_heap c.args.self.now _ _

pub invariant_of-self-2 : goal.invariant_of-self-2
invariant_of-self-2 g c = record {
  few = omega (arith, c.remove_front-self.ensures.few, c.remove_front-self.ensures.fewer);
  within = λ s h. c.remove_front-self.ensures.within s (omega (arith, c.remove_front-self.ensures.fewer));
}

pub returns-clause-after : goal.returns-clause-after
returns-clause-after g c s =
    let n = c.args.ticket in
    let asked = c.in_ok-key.ensures in
    let held = sym asked.1 ∙ c.in-Some.is in
    (asked.0, held, only_64 g.K.Key.before c.args.self.now _ n None (below_accepted NoSuchTicket _ n [] asked.0) (c.remove_front-self.ensures.removes c.in-Some.key s held))
