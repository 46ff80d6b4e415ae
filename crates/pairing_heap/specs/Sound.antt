-- When cells hold a pairing heap, and what a change of one ticket does.
use Rattle.std.specs.Prelude.{◌≡◌, ℕ, ◌+◌, ◌-◌, ◌<◌, Bool, cond, List, length, is_some, Some, None, Option, slice_set}
use Rattle.pairing_heap.specs.declared.node.Node.{Node}
use Rattle.pairing_heap.specs.Links.{columns, key_of}
use Rattle.pairing_heap.specs.Forests.{Forest, times, nodes, Rooted, Ordered}

-- 1 where a key is held, else 0
abbrev pub bit : {K : Type 0} → Option K → ℕ
bit o = cond (is_some o) 1 0

module _ {K : Type 0} (before : K → K → Bool) where
  -- The root leads to a tree in order, of `size` tickets, in which each ticket that holds a key stands
  -- once, and no other.
  pub record Sound (cells : List (Node K)) (root : Option ℕ) (size : ℕ) : Type 0 where
    pub tree : Forest
    pub rooted : Rooted (columns cells) root tree
    pub once : (i : ℕ) → times i tree ≡ bit (key_of (columns cells) i)
    pub ordered : Ordered before (columns cells).key tree
    pub counted : nodes tree ≡ size

  -- a sound heap in which the ticket holds what is given, and every other ticket what it held
  pub record Keyed (cells cells' : List (Node K)) (root : Option ℕ) (size ticket : ℕ) (holds : Option K) : Type 0 where
    pub sound : Sound cells' root size
    pub keys : (columns cells').key ≡ slice_set (columns cells).key ticket holds

  -- a ticket that holds no key gets one
  abbrev pub Inserts : List (Node K) → List (Node K) → Option ℕ → Option ℕ → ℕ → K → Type 0
  Inserts cells cells' root root' ticket key = (size : ℕ) → Sound cells root size → ticket < length cells → key_of (columns cells) ticket ≡ None → Keyed cells cells' root' (size + 1) ticket (Some key)

  -- a ticket that holds a key loses it
  abbrev pub Removes : List (Node K) → List (Node K) → Option ℕ → Option ℕ → ℕ → Type 0
  Removes cells cells' root root' ticket = (size : ℕ) (key : K) → Sound cells root size → key_of (columns cells) ticket ≡ Some key → Keyed cells cells' root' (size - 1) ticket None
