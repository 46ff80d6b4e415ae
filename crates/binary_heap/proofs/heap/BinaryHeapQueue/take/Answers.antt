use Rattle.std.proofs.Common.{None, sym, refl, subst, arith}
use Rattle.event_queue.specs.Queues.{Took}
use Rattle.event_queue.proofs.Laws.{unchanged_itself}
use Rattle.event_queue.proofs.Orders.{all_later}
use Rattle.event_queue.proofs.Options.{some_none}
use Rattle.binary_heap.specs.Meanings.{heap_meaning}
use Rattle.binary_heap.proofs.Methods.{only_64, same_heap}
use Rattle.binary_heap.proofs.heap.BinaryHeapQueue.take.Goals as goal

pub returns-in_err-first-clause-after : goal.returns-in_err-first-clause-after
returns-in_err-first-clause-after g c =
    subst (λ q. Took (heap_meaning g.K.Key.before) g.K.Key.before c.args.self.now q c.args.limit c.from_residual.result) (sym (same_heap c.args.self.now _ _))
    (subst (λ r. Took (heap_meaning g.K.Key.before) g.K.Key.before c.args.self.now c.args.self.now c.args.limit r) (sym c.from_residual.ensures)
    (λ s. ((λ i k h. absurd (some_none _ k h (c.in_err-first.ensures.earliest s i))), unchanged_itself (heap_meaning g.K.Key.before) c.args.self.now s)))

pub returns-in_err-first-clause-none : goal.returns-in_err-first-clause-none
returns-in_err-first-clause-none g c = rw c.from_residual.ensures (same_heap c.args.self.now _ _)

pub returns-then-is_before-clause-after : goal.returns-then-is_before-clause-after
returns-then-is_before-clause-after g c s = (
  (λ i k h. all_later g.K.Key.before (record { asymmetric = g.met.K.Key.asymmetric; carries = g.met.K.Key.carries }) c.args.limit c.in_ok-first.first.1 k (sym c.if-is_before.ensures) ((c.in_ok-first.ensures.earliest s).1 i k h)),
  record { sound = s; capacity = refl; same = λ i. refl },
)

pub returns-then-is_before-clause-none : goal.returns-then-is_before-clause-none
returns-then-is_before-clause-none g c = same_heap c.args.self.now _ _

pub invariant_of-self-2 : goal.invariant_of-self-2
invariant_of-self-2 g c = record {
  few = omega (arith, c.remove_front-self.ensures.few, c.remove_front-self.ensures.fewer);
  within = λ s h. c.remove_front-self.ensures.within s (omega (arith, c.remove_front-self.ensures.fewer));
}

pub returns-clause-after : goal.returns-clause-after
returns-clause-after g c s =
    let n = c.in_ok-first.first.0 in
    let key = c.in_ok-first.first.1 in
    let first = c.in_ok-first.ensures.earliest s in
    record {
      was_held = first.0;
      not_after = sym c.if-is_before.ensures;
      none_before = first.1;
      after = only_64 g.K.Key.before c.args.self.now _ n None c.in_ok-first.ensures.within (c.remove_front-self.ensures.removes key s first.0);
    }
