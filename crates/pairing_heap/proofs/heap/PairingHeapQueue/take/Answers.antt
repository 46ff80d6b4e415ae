use Rattle.std.proofs.Common.{◌-◌, None, sym, refl, subst}
use Rattle.event_queue.specs.Queues.{Took}
use Rattle.event_queue.proofs.Laws.{unchanged_itself}
use Rattle.event_queue.proofs.Options.{some_none}
use Rattle.event_queue.proofs.Keyed.{held_64}
use Rattle.event_queue.proofs.Orders.{all_later}
use Rattle.pairing_heap.specs.Links.{node_key}
use Rattle.pairing_heap.specs.Meanings.{heap_meaning}
use Rattle.pairing_heap.proofs.Methods.{only_64}
use Rattle.pairing_heap.proofs.heap.PairingHeapQueue.take.Goals as goal

pub returns-in_err-first-clause-after : goal.returns-in_err-first-clause-after
returns-in_err-first-clause-after g c =
    subst (λ r. Took (heap_meaning g.K.Key.before) g.K.Key.before c.args.self.now c.args.self.now c.args.limit r) (sym c.from_residual.ensures)
    (λ s. ((λ i k h. absurd (some_none _ k h (c.in_err-first.ensures c.args.self.now.size s i))), unchanged_itself (heap_meaning g.K.Key.before) c.args.self.now s))

pub returns-then-is_before-clause-after : goal.returns-then-is_before-clause-after
returns-then-is_before-clause-after g c s = (
  (λ i k h. all_later g.K.Key.before (record { asymmetric = g.met.K.Key.asymmetric; carries = g.met.K.Key.carries }) c.args.limit c.in_ok-first.first.1 k (sym c.if-is_before.ensures) ((c.in_ok-first.ensures c.args.self.now.size s).1 i k h)),
  record { sound = s; capacity = refl; same = λ i. refl },
)

pub returns-clause-after : goal.returns-clause-after
returns-clause-after g c s =
    let q = c.args.self.now in
    let n = c.in_ok-first.first.0 in
    let key = c.in_ok-first.first.1 in
    let first = c.in_ok-first.ensures q.size s in
    record {
      was_held = first.0;
      not_after = sym c.if-is_before.ensures;
      none_before = first.1;
      after = only_64 g.K.Key.before q _ (q.size - 1) n None (held_64 node_key q.cells.now n key first.0) (c.remove_front-self.ensures.removes q.size key s first.0) (sym c.saturating_sub-self.ensures);
    }
