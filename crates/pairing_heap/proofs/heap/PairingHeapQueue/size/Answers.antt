use Rattle.std.proofs.Common.{take, ap, ◌∙◌, rules}
use Rattle.event_queue.specs.Queues.{count_below}
use Rattle.event_queue.proofs.Fronts.{length_64}
use Rattle.pairing_heap.proofs.Counting.{sound_count}
use Rattle.pairing_heap.proofs.heap.PairingHeapQueue.size.Goals as goal

pub returns-clause-value : goal.returns-clause-value
returns-clause-value g c s =
    let q = c.args.self.now in
    let told = sound_count g.K.Key.before (take 64 q.cells.now) q.root q.size s ∙ ap (count_below _) (length_64 q.cells.now) in
    search (rules, told)
