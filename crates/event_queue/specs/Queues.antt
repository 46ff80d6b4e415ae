-- What an event queue means, and what each of its calls does.
use Rattle.std.specs.Prelude.{◌≡◌, ℕ, zero, suc, ◌+◌, ◌≤◌, Bool, true, false, cond, [], ◌∷◌, is_some, Some, None, Ok, Err, Option, Result, ◌≢◌, nat_le}
use Rattle.event_queue.specs.Refusals.{◌when◌, topmost}
use Rattle.event_queue.specs.declared.refusal.Refusal.{Refusal}
use Rattle.event_queue.specs.declared.refusal.Refusal.TheVariants.{NoSuchTicket, TicketHeld}

-- The meaning of a queue of the type Q with keys of the type K. An implementation gives the first four,
-- and shows the rest.
pub record Meaning (Q K : Type 0) : Type 1 where
  -- the queue's own condition: setting up brings it about, and every call keeps it
  pub sound : Q → Type 0
  -- the ticket numbers are those below it
  pub capacity : Q → ℕ
  -- the key of each ticket number, or none
  pub held : Q → ℕ → Option K
  -- what no call changes whatever the queue holds: which memory it is in, and what there is not its own
  pub keeps : Q → Q → Type 0
  pub bounded : (q : Q) → sound q → capacity q ≤ 64
  pub within : (q : Q) → sound q → (n : ℕ) → capacity q ≤ n → held q n ≡ None
  pub keeps_itself : (q : Q) → keeps q q
  pub keeps_on : (a b c : Q) → keeps a b → keeps b c → keeps a c

-- how many of the numbers below n pass a test
abbrev pub count_below : (ℕ → Bool) → ℕ → ℕ
count_below test zero = 0
count_below test (suc n) = cond (test n) 1 0 + count_below test n

-- the key of a ticket number is answered, where the numbers are those below the capacity
abbrev pub HeldBelow : {K : Type 0} → ℕ → (ℕ → Option K) → ℕ → Result (Option K) Refusal → Type 0
HeldBelow capacity held n (Ok answer) = (topmost (NoSuchTicket when nat_le capacity n ∷ []) ≡ None) × (answer ≡ held n)
HeldBelow capacity held n (Err e) = topmost (NoSuchTicket when nat_le capacity n ∷ []) ≡ Some e

module _ {Q K : Type 0} (m : Meaning Q K) where
  -- how many tickets hold a key
  abbrev pub size_of : Q → ℕ
  size_of q = count_below (λ n. is_some (m.held q n)) (m.capacity q)

  -- the refusals of held, drop and rekey
  abbrev pub ticket_refusal : Q → ℕ → Option Refusal
  ticket_refusal q n = topmost (NoSuchTicket when nat_le (m.capacity q) n ∷ [])

  -- the refusals of put
  abbrev pub put_refusal : Q → ℕ → Option Refusal
  put_refusal q n = topmost (NoSuchTicket when nat_le (m.capacity q) n ∷ TicketHeld when is_some (m.held q n) ∷ [])

  -- q is sound, and holds nothing
  pub record Empty (q : Q) : Type 0 where
    pub sound : m.sound q
    pub none : (n : ℕ) → m.held q n ≡ None

  -- q' is q but for what the ticket n holds
  pub record Only (q q' : Q) (n : ℕ) (holds : Option K) : Type 0 where
    pub sound : m.sound q'
    pub capacity : m.capacity q' ≡ m.capacity q
    pub there : m.held q' n ≡ holds
    pub others : (i : ℕ) → (i ≢ n) → m.held q' i ≡ m.held q i

  -- q' means what q does: it is sound, as large, and each ticket holds what it held
  pub record Unchanged (q q' : Q) : Type 0 where
    pub sound : m.sound q'
    pub capacity : m.capacity q' ≡ m.capacity q
    pub same : (i : ℕ) → m.held q' i ≡ m.held q i

  -- held answers a sound queue's key
  abbrev pub Held : Q → ℕ → Result (Option K) Refusal → Type 0
  Held q n answer = HeldBelow (m.capacity q) (m.held q) n answer

  -- put: refused, it leaves any queue as it was
  abbrev pub Put : Q → Q → ℕ → K → Result Unit Refusal → Type 0
  Put q q' n key (Ok _) = m.sound q → (put_refusal q n ≡ None) × Only q q' n (Some key)
  Put q q' n key (Err e) = (q' ≡ q) × (m.sound q → put_refusal q n ≡ Some e)

  -- drop: refused, it leaves any queue as it was; where the ticket holds no key, a sound one means what it did
  abbrev pub Dropped : Q → Q → ℕ → Result (Option K) Refusal → Type 0
  Dropped q q' n (Ok (Some key)) = m.sound q → (ticket_refusal q n ≡ None) × (m.held q n ≡ Some key) × Only q q' n None
  Dropped q q' n (Ok None) = m.sound q → (ticket_refusal q n ≡ None) × (m.held q n ≡ None) × Unchanged q q'
  Dropped q q' n (Err e) = (q' ≡ q) × (m.sound q → ticket_refusal q n ≡ Some e)

  -- rekey: refused, it leaves any queue as it was
  abbrev pub Rekeyed : Q → Q → ℕ → K → Result Unit Refusal → Type 0
  Rekeyed q q' n key (Ok _) = m.sound q → (ticket_refusal q n ≡ None) × Only q q' n (Some key)
  Rekeyed q q' n key (Err e) = (q' ≡ q) × (m.sound q → ticket_refusal q n ≡ Some e)

  module _ (before : K → K → Bool) where
    -- a ticket was handed out. Among equal keys, of which none is before another, the choice is the queue's.
    pub record HandedOut (q q' : Q) (limit : K) (n : ℕ) (key : K) : Type 0 where
      pub was_held : m.held q n ≡ Some key
      pub not_after : before limit key ≡ false
      pub none_before : (i : ℕ) (k : K) → m.held q i ≡ Some k → before k key ≡ false
      pub after : Only q q' n None

    -- take: where it answers none, a sound queue means what it did
    abbrev pub Took : Q → Q → K → Option (ℕ × K) → Type 0
    Took q q' limit (Some ticket) = m.sound q → HandedOut q q' limit ticket.0 ticket.1
    Took q q' limit None = m.sound q → ((i : ℕ) (k : K) → m.held q i ≡ Some k → before limit k ≡ true) × Unchanged q q'
