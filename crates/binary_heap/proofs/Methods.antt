-- From the first 64 cells to the queue.
use Rattle.std.proofs.Common.{◌≡◌, ℕ, ◌<◌, ◌≤◌, min, Bool, true, List, [], ◌∷◌, length, take, is_some, Some, None, Ok, Err, Option, Result, sym, refl, ap, ◌∙◌, ⊎_elim, arith}
use Rattle.std.proofs.Props.{props}
use Rattle.std.proofs.lemmas.Bool.{cases_lt}
use Rattle.std.proofs.lemmas.List.{take_all}
use Rattle.event_queue.specs.Queues.{Meaning, Only, Put, Rekeyed, ticket_refusal, put_refusal}
use Rattle.event_queue.specs.declared.refusal.Refusal.{Refusal}
use Rattle.event_queue.proofs.Laws.{put_accepted}
use Rattle.event_queue.proofs.Options.{some_none}
use Rattle.event_queue.proofs.Keyed.{capacity_64, there_64, keyed_others}
use Rattle.binary_heap.specs.declared.cell.Cell.{Cell}
use Rattle.binary_heap.specs.declared.heap.BinaryHeap.{BinaryHeap}
use Rattle.binary_heap.specs.Meanings.{heap_meaning}
use Rattle.binary_heap.specs.Slots.{cell_key, columns, ticket_at, key_at, Within}
use Rattle.binary_heap.specs.Sound.{Keyed}

-- a change of one ticket, told of the queue
pub only_64 : {K : Type 0} (before : K → K → Bool) (q q' : BinaryHeap K) (n : ℕ) (v : Option K) → n < min (length q.cells.now) 64 → Keyed before (take 64 q.cells.now) (take 64 q'.cells.now) q'.size n v → Only (heap_meaning before) q q' n v
only_64 before q q' n v h k =
    let xs = q.cells.now in
    let zs = q'.cells.now in
    record { sound = k.sound; capacity = capacity_64 cell_key xs zs n v k.keys; there = there_64 cell_key xs zs n v k.keys h; others = keyed_others cell_key (take 64 xs) (take 64 zs) n v k.keys }

-- the part of the cells that a call is lent is the first 64
pub part_64 : {X : Type 0} (xs : List X) (k : ℕ) → k ≡ min (length xs) 64 → take k xs ≡ take 64 xs
part_64 xs k e =
    ⊎_elim
    (λ h. take_all k xs (omega arith) ∙ sym (take_all 64 xs (omega arith)))
    (λ h. let f : k ≡ 64 = omega arith in ap (λ n. take n xs) f)
    (cases_lt (length xs) 64)

-- the first slot is among the first 64
module _ {K : Type 0} where
  pub first_ticket : (xs : List (Cell K)) → ticket_at (columns xs) 0 ≡ ticket_at (columns (take 64 xs)) 0
  first_ticket [] = refl
  first_ticket (x ∷ xs) = refl

  pub first_key : (xs : List (Cell K)) → key_at (columns xs) 0 ≡ key_at (columns (take 64 xs)) 0
  unfolding key_at
  first_key [] = refl
  first_key (x ∷ xs) = refl

-- what a heap keeps of its cells has one proof, so a heap is its cells and its size
few_prop : {K : Type 0} (q : BinaryHeap K) → IsProp (q.size ≤ min (length q.cells.now) 64)
few_prop q = Prim.hlevel props

within_prop : {K : Type 0} (q : BinaryHeap K) → IsProp (Within (columns (take 64 q.cells.now)) q.size)
within_prop q = Prim.hlevel props

pub same_heap : {K : Type 0} (q : BinaryHeap K) (few : q.size ≤ min (length q.cells.now) 64) (within : Within (columns (take 64 q.cells.now)) q.size) → ◌≡◌ {A = BinaryHeap K} (record { cells = q.cells; size = q.size; few = few; within = within }) q
same_heap {K} q few within =
    let f : few ≡ q.few = few_prop q few q.few in
    let w : within ≡ q.within = within_prop q within q.within in
    rw (f, w)

-- what is some is the key that it is
pub some_key : {K : Type 0} (o : Option K) → is_some o ≡ true → (k : K) × (o ≡ Some k)
some_key (Some k) e = (k, refl)
some_key None e = cc

-- a put into a ticket number that holds no key gives it the key, as a rekey is to
pub put_rekeys : {Q K : Type 0} (m : Meaning Q K) (q q' : Q) (n : ℕ) (key : K) (r : Result Unit Refusal) → n < m.capacity q → ticket_refusal m q n ≡ None → m.held q n ≡ None → Put m q q' n key r → Rekeyed m q q' n key r
put_rekeys m q q' n key (Ok u) h a free p = λ s. (a, (p s).1)
put_rekeys m q q' n key (Err e) h a free p = (
  p.0,
  λ s. let refused : put_refusal m q n ≡ Some e = p.1 s in
      let accepted : put_refusal m q n ≡ None = put_accepted m q n h free in
      absurd (some_none _ e refused accepted),
)
