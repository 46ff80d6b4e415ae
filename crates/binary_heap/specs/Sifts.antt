-- What a sift does.
use Rattle.std.specs.Prelude.{◌≡◌, ℕ, Bool}
use Rattle.binary_heap.specs.Slots.{Columns, key_at, Linked}
use Rattle.binary_heap.specs.Orders.{Ordered, Upward, Downward, Loose}

module _ {K : Type 0} (before : K → K → Bool) (t u : Columns K) (n : ℕ) where
  -- the tickets in the first n slots of t are now in order there, and hold the keys that they held
  pub record Settled : Type 0 where
    pub keys : u.key ≡ t.key
    pub linked : Linked u n
    pub ordered : Ordered before (key_at u) n

  -- from a slot that may have to go up, from one that may have to go down, and from either
  abbrev pub SiftsUp : ℕ → Type 0
  SiftsUp s = Linked t n → Upward before (key_at t) n s → Settled

  abbrev pub SiftsDown : ℕ → Type 0
  SiftsDown s = Linked t n → Downward before (key_at t) n s → Settled

  abbrev pub Sifts : ℕ → Type 0
  Sifts s = Linked t n → Loose before (key_at t) n s → Settled
