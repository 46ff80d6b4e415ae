use Rattle.binary_heap.proofs.Methods.{same_heap}
use Rattle.binary_heap.proofs.heap.BinaryHeapQueue.capacity.Goals as goal

pub returns-clause-same : goal.returns-clause-same
returns-clause-same g c = same_heap c.args.self.now _ _
