-- Trees of tickets, and the order of their keys.
use Rattle.std.specs.Prelude.{◌≡◌, ℕ, ◌+◌, ◌<◌, Bool, false, cond, List, length, Some, None, Option, ◌==◌, slice_index_or}
use Rattle.event_queue.specs.Orders.{sooner}
use Rattle.pairing_heap.specs.Links.{Columns, child_of, next_of, back_of}

-- A row of sibling trees: the first ticket, the row of its children, and the row of the siblings after it.
pub data Forest : Type 0 where
  nil : Forest
  node : ℕ → Forest → Forest → Forest

-- 1 if the two are the same number, else 0
unfoldable pub one : ℕ → ℕ → ℕ
one j i = cond (j == i) 1 0

-- how often the ticket j stands in a forest
abbrev pub times : ℕ → Forest → ℕ
times j nil = 0
times j (node i below beside) = one j i + (times j below + times j beside)

-- how many tickets stand in a forest
abbrev pub nodes : Forest → ℕ
nodes nil = 0
nodes (node i below beside) = 1 + (nodes below + nodes beside)

-- The link leads to the forest, before whose first ticket stands p.
abbrev pub Leads : {K : Type 0} → Columns K → ℕ → Option ℕ → Forest → Type 0
Leads t p link nil = link ≡ None
Leads t p link (node i below beside) = (link ≡ Some i) × (i < length t.key) × (back_of t i ≡ Some p) × Leads t i (child_of t i) below × Leads t i (next_of t i) beside

-- The link leads to the tree, or to none. What the root has beside it and before it does not matter.
abbrev pub Rooted : {K : Type 0} → Columns K → Option ℕ → Forest → Type 0
Rooted t link nil = link ≡ None
Rooted t link (node i below nil) = (link ≡ Some i) × (i < length t.key) × Leads t i (child_of t i) below
Rooted t link (node i below (node a b c)) = ⊥

module _ {K : Type 0} (before : K → K → Bool) (keys : List (Option K)) where
  -- no tree of the row has a root that comes sooner than x
  abbrev pub NoneSooner : Option K → Forest → Type 0
  NoneSooner x nil = Unit {0}
  NoneSooner x (node i below beside) = (sooner before (slice_index_or keys i None) x ≡ false) × NoneSooner x beside

  -- no child comes sooner than its parent
  abbrev pub Ordered : Forest → Type 0
  Ordered nil = Unit {0}
  Ordered (node i below beside) = NoneSooner (slice_index_or keys i None) below × Ordered below × Ordered beside
