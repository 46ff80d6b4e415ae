-- The order of a binary heap, on the keys of its slots: the slot s has the children 2s + 1 and 2s + 2.
use Rattle.std.specs.Prelude.{◌≡◌, ℕ, ◌-◌, ◌/◌, ◌<◌, Bool, true, false, Some, None, Option, ◌≢◌}
use Rattle.event_queue.specs.Orders.{sooner}
use Rattle.binary_heap.specs.Slots.{Columns, key_at, Reads}
use Rattle.binary_heap.specs.declared.slots.Entry.{Entry}

abbrev pub parent : ℕ → ℕ
parent s = (s - 1) / 2

module _ {K : Type 0} (before : K → K → Bool) (at : ℕ → Option K) (n : ℕ) where
  -- no slot below n comes sooner than its parent
  abbrev pub Ordered : Type 0
  Ordered = (c : ℕ) → 0 < c → c < n → sooner before (at c) (at (parent c)) ≡ false

  -- no child of the slot s comes sooner than the parent of s
  abbrev pub Bridged : ℕ → Type 0
  Bridged s = (c : ℕ) → 0 < c → c < n → parent c ≡ s → 0 < s → sooner before (at c) (at (parent s)) ≡ false

  -- in order but that the slot s may come sooner than its parent
  pub record Upward (s : ℕ) : Type 0 where
    pub pairs : (c : ℕ) → 0 < c → c < n → (c ≢ s) → sooner before (at c) (at (parent c)) ≡ false
    pub bridged : Bridged s

  -- in order but that a child of the slot s may come sooner than s
  pub record Downward (s : ℕ) : Type 0 where
    pub pairs : (c : ℕ) → 0 < c → c < n → (parent c ≢ s) → sooner before (at c) (at (parent c)) ≡ false
    pub bridged : Bridged s

  -- in order but for the slot s with its parent and its children
  pub record Loose (s : ℕ) : Type 0 where
    pub pairs : (c : ℕ) → 0 < c → c < n → (c ≢ s) → (parent c ≢ s) → sooner before (at c) (at (parent c)) ≡ false
    pub bridged : Bridged s

  -- m is a child of the slot s, and no child of s comes sooner than m
  pub record FirstChild (s m : ℕ) : Type 0 where
    pub positive : 0 < m
    pub below : m < n
    pub child : parent m ≡ s
    pub first : (c : ℕ) → 0 < c → c < n → parent c ≡ s → sooner before (at c) (at m) ≡ false

module _ {K : Type 0} (before : K → K → Bool) (t : Columns K) where
  -- what stands in the parent of the slot s, where its key is later than k; none where s is the top or has no later parent
  abbrev pub LaterParent : ℕ → K → Option (Entry K) → Type 0
  LaterParent s k (Some e) = (0 < s) × Reads t (parent s) e × (sooner before (Some k) (key_at t (parent s)) ≡ true)
  LaterParent s k None = 0 < s → sooner before (Some k) (key_at t (parent s)) ≡ false

  -- a first child of the slot s among n, which comes sooner than k; none where no child of s does
  abbrev pub SoonerChild : ℕ → ℕ → K → Option ℕ → Type 0
  SoonerChild n s k (Some m) = FirstChild before (key_at t) n s m × (sooner before (key_at t m) (Some k) ≡ true)
  SoonerChild n s k None = (c : ℕ) → 0 < c → c < n → parent c ≡ s → sooner before (key_at t c) (Some k) ≡ false
