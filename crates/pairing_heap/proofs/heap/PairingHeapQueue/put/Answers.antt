use Rattle.std.proofs.Common.{◌+◌, ◌<◌, min, [], length, is_some, Some, sym, ap, ◌∙◌, arith}
use Rattle.event_queue.specs.declared.refusal.Refusal.TheVariants.{NoSuchTicket}
use Rattle.event_queue.proofs.Fronts.{length_64}
use Rattle.event_queue.proofs.Laws.{below_accepted, put_accepted}
use Rattle.event_queue.proofs.Options.{not_some}
use Rattle.pairing_heap.specs.Meanings.{heap_meaning}
use Rattle.pairing_heap.proofs.Methods.{only_64, one_more}
use Rattle.pairing_heap.proofs.heap.PairingHeapQueue.put.Goals as goal

pub returns-clause-after : goal.returns-clause-after
returns-clause-after g c s =
    let q = c.args.self.now in
    let xs = q.cells.now in
    let n = c.args.ticket in
    let b : n < min (length xs) 64 = below_accepted NoSuchTicket _ n [] c.in_ok-held.ensures.0 in
    let free = not_some _ (ap is_some (sym c.in_ok-held.ensures.1) ∙ sym c.if-is_some.ensures) in (
      put_accepted (heap_meaning g.K.Key.before) q n b free,
      only_64 g.K.Key.before q _ (q.size + 1) n (Some c.args.key) b (c.insert_front-self.ensures.inserts q.size s (omega (arith, length_64 xs)) free)
          (one_more xs g.K.Key.before q.root q.size _ s c.saturating_add-self.ensures),
    )
