-- What a binary heap means as an event queue.
use Rattle.std.specs.Prelude.{Bool, [], take, refl}
use Rattle.std.proofs.Common.{arith}
use Rattle.event_queue.specs.Queues.{Meaning, Empty}
use Rattle.event_queue.specs.Lent.{lent_meaning}
use Rattle.binary_heap.specs.declared.heap.BinaryHeap.{BinaryHeap}
use Rattle.binary_heap.specs.Slots.{cell_key, Linked, columns}
use Rattle.binary_heap.specs.Sound.{Sound}

abbrev pub heap_meaning : {K : Type 0} → (K → K → Bool) → Meaning (BinaryHeap K) K
heap_meaning before = lent_meaning cell_key (λ q. q.cells.now) (λ q. q.cells.ghost_name) (λ q. Sound before (take 64 q.cells.now) q.size)

-- no slot of no cells is taken
none_linked : {K : Type 0} → Linked (columns {K = K} []) 0
none_linked = record { room = omega arith; seats = λ s h. absurd (omega arith); within = λ i k h. cc; there = λ i k h. cc }

-- a heap in no cells at all is empty
pub in_no_cells : {K : Type 0} (before : K → K → Bool) → (q : BinaryHeap K) × Empty (heap_meaning before) q
in_no_cells before = (
  record { cells = record { ref_ptr = (0, 0); ghost_name = 0; now = [] }; size = 0; few = omega arith; within = λ s h. absurd (omega arith) },
  record { sound = record { linked = none_linked; ordered = λ c p h. absurd (omega arith); counted = refl }; none = λ i. refl },
)
