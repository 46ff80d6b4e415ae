-- What a pairing heap means as an event queue.
use Rattle.std.specs.Prelude.{Bool, [], None, take, refl}
use Rattle.event_queue.specs.Queues.{Meaning, Empty}
use Rattle.event_queue.specs.Lent.{lent_meaning}
use Rattle.pairing_heap.specs.declared.heap.PairingHeap.{PairingHeap}
use Rattle.pairing_heap.specs.Links.{node_key}
use Rattle.pairing_heap.specs.Forests.Forest.{nil}
use Rattle.pairing_heap.specs.Sound.{Sound}

abbrev pub heap_meaning : {K : Type 0} → (K → K → Bool) → Meaning (PairingHeap K) K
heap_meaning before = lent_meaning node_key (λ q. q.cells.now) (λ q. q.cells.ghost_name) (λ q. Sound before (take 64 q.cells.now) q.root q.size)

-- a heap in no cells at all is empty
pub in_no_cells : {K : Type 0} (before : K → K → Bool) → (q : PairingHeap K) × Empty (heap_meaning before) q
in_no_cells before = (
  record { cells = record { ref_ptr = (0, 0); ghost_name = 0; now = [] }; root = None; size = 0 },
  record { sound = record { tree = nil; rooted = refl; once = λ i. refl; ordered = tt; counted = refl }; none = λ i. refl },
)
