-- When cells hold a binary heap, and what a change of one ticket does.
use Rattle.std.specs.Prelude.{◌≡◌, ℕ, ◌<◌, Bool, List, length, is_some, Some, None, Option, slice_set}
use Rattle.event_queue.specs.Queues.{count_below}
use Rattle.binary_heap.specs.declared.cell.Cell.{Cell}
use Rattle.binary_heap.specs.Slots.{columns, key_of, key_at, Linked}
use Rattle.binary_heap.specs.Orders.{Ordered}

module _ {K : Type 0} (before : K → K → Bool) where
  -- The tickets that hold a key stand in the first slots, as many as there are, none sooner than its
  -- parent.
  pub record Sound (cells : List (Cell K)) (size : ℕ) : Type 0 where
    pub linked : Linked (columns cells) size
    pub ordered : Ordered before (key_at (columns cells)) size
    pub counted : size ≡ count_below (λ i. is_some (key_of (columns cells) i)) (length cells)

  -- a sound heap in which the ticket holds what is given, and every other ticket what it held
  pub record Keyed (cells cells' : List (Cell K)) (size ticket : ℕ) (holds : Option K) : Type 0 where
    pub sound : Sound cells' size
    pub keys : (columns cells').key ≡ slice_set (columns cells).key ticket holds

  -- a ticket that holds no key gets one
  abbrev pub Inserts : List (Cell K) → List (Cell K) → ℕ → ℕ → ℕ → K → Type 0
  Inserts cells cells' size size' ticket key = Sound cells size → ticket < length cells → key_of (columns cells) ticket ≡ None → Keyed cells cells' size' ticket (Some key)

  -- a ticket that holds a key loses it
  abbrev pub Removes : List (Cell K) → List (Cell K) → ℕ → ℕ → ℕ → Type 0
  Removes cells cells' size size' ticket = (key : K) → Sound cells size → key_of (columns cells) ticket ≡ Some key → Keyed cells cells' size' ticket None

  -- a ticket that holds a key gets another
  abbrev pub Changes : List (Cell K) → List (Cell K) → ℕ → ℕ → K → Type 0
  Changes cells cells' size ticket key = (old : K) → Sound cells size → key_of (columns cells) ticket ≡ Some old → Keyed cells cells' size ticket (Some key)
