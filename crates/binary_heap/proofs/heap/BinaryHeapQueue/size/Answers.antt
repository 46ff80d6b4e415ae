use Rattle.std.proofs.Common.{ap, ◌∙◌, rules}
use Rattle.event_queue.specs.Queues.{count_below}
use Rattle.event_queue.proofs.Fronts.{length_64}
use Rattle.binary_heap.proofs.heap.BinaryHeapQueue.size.Goals as goal

pub returns-clause-value : goal.returns-clause-value
returns-clause-value g c s =
    let told = s.counted ∙ ap (count_below _) (length_64 c.args.self.now.cells.now) in
    search (rules, told)
