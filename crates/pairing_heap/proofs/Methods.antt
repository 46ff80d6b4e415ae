-- From the first 64 cells to the queue.
use Rattle.std.proofs.Common.{◌≡◌, ℕ, ◌+◌, ◌-◌, ◌^◌, ◌<◌, min, Bool, List, length, take, Option, subst, arith}
use Rattle.event_queue.specs.Queues.{Only}
use Rattle.event_queue.proofs.Fronts.{length_64}
use Rattle.event_queue.proofs.Keyed.{capacity_64, there_64, keyed_others}
use Rattle.pairing_heap.specs.declared.node.Node.{Node}
use Rattle.pairing_heap.specs.declared.heap.PairingHeap.{PairingHeap}
use Rattle.pairing_heap.specs.Links.{node_key}
use Rattle.pairing_heap.specs.Meanings.{heap_meaning}
use Rattle.pairing_heap.specs.Sound.{Sound, Keyed}
use Rattle.pairing_heap.proofs.Counting.{sound_le}

-- a change of one ticket, told of the queue
pub only_64 : {K : Type 0} (before : K → K → Bool) (q q' : PairingHeap K) (size n : ℕ) (v : Option K) → n < min (length q.cells.now) 64 → Keyed before (take 64 q.cells.now) (take 64 q'.cells.now) q'.root size n v → size ≡ q'.size → Only (heap_meaning before) q q' n v
only_64 before q q' size n v h k e =
    let xs = q.cells.now in
    let zs = q'.cells.now in
    record { sound = subst (λ m. Sound before (take 64 zs) q'.root m) e k.sound; capacity = capacity_64 node_key xs zs n v k.keys; there = there_64 node_key xs zs n v k.keys h; others = keyed_others node_key (take 64 xs) (take 64 zs) n v k.keys }

-- the size of a sound heap is small, so that one more fits
pub one_more : {K : Type 0} (xs : List (Node K)) (before : K → K → Bool) (root : Option ℕ) (size more : ℕ) → Sound before (take 64 xs) root size → more ≡ min (size + 1) (2 ^ 64 - 1) → size + 1 ≡ more
one_more xs before root size more S e = omega (arith, sound_le before (take 64 xs) root size S, length_64 xs)
