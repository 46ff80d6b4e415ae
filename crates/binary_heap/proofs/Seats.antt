-- Tickets in their slots: what an exchange, a new ticket and a removal keep.
use Rattle.std.proofs.Common.{◌≡◌, ℕ, ◌<◌, ◌≢◌, List, length, set, Some, None, Option, sym, ap, ◌∙◌, subst, ⊎_elim, arith}
use Rattle.std.proofs.lemmas.Bool.{cases_eq}
use Rattle.std.proofs.lemmas.List.{get_or-set_same, get_or-set_other, length-set, set-set, set_comm}
use Rattle.binary_heap.specs.Slots.{Columns, key_of, slot_of, ticket_at, key_at, Within, with_key, seated, Seat, Linked}

-- what stands in the slots a and b changes places
abbrev pub exchanged : {K : Type 0} → Columns K → ℕ → ℕ → Columns K
exchanged t a b = seated (seated t a (ticket_at t b) (key_at t b)) b (ticket_at t a) (key_at t a)

-- the columns are equally long
pub record Even {K : Type 0} (t : Columns K) : Type 0 where
  pub slot : length t.slot ≡ length t.key
  pub ticket : length t.ticket ≡ length t.key
  pub slot_key : length t.slot_key ≡ length t.key

-- reads of one write
module _ {K : Type 0} (t : Columns K) (even : Even t) (s i : ℕ) (k : Option K) where
  pub seated_ticket : s < length t.key → ticket_at (seated t s i k) s ≡ i
  seated_ticket h = get_or-set_same t.ticket s i 0 (omega (arith, even.ticket))

  pub seated_slot : i < length t.key → slot_of (seated t s i k) i ≡ s
  seated_slot h = get_or-set_same t.slot i s 0 (omega (arith, even.slot))

  pub seated_key : s < length t.key → key_at (seated t s i k) s ≡ k
  unfolding key_at
  seated_key h = get_or-set_same t.slot_key s k None (omega (arith, even.slot_key))

  pub seated_ticket_other : (z : ℕ) → z ≢ s → ticket_at (seated t s i k) z ≡ ticket_at t z
  seated_ticket_other z h = get_or-set_other t.ticket s z i 0 h

  pub seated_slot_other : (j : ℕ) → j ≢ i → slot_of (seated t s i k) j ≡ slot_of t j
  seated_slot_other j h = get_or-set_other t.slot i j s 0 h

  pub seated_key_other : (z : ℕ) → z ≢ s → key_at (seated t s i k) z ≡ key_at t z
  unfolding key_at
  seated_key_other z h = get_or-set_other t.slot_key s z k None h

  pub seated_even : Even (seated t s i k)
  seated_even = record { slot = length-set t.slot i s ∙ even.slot; ticket = length-set t.ticket s i ∙ even.ticket; slot_key = length-set t.slot_key s k ∙ even.slot_key }

  -- a ticket that has a cell is seated
  pub seated_within : s < length t.key → i < length t.key → (n : ℕ) → ((z : ℕ) → z < n → z ≢ s → ticket_at t z < length t.key) → Within (seated t s i k) n
  seated_within hs h n w z b =
      ⊎_elim
      (λ e. subst (λ y. ticket_at (seated t s i k) y < length t.key) (sym e) (subst (λ j. j < length t.key) (sym (seated_ticket hs)) h))
      (λ e. subst (λ j. j < length t.key) (sym (seated_ticket_other z e)) (w z b e))
      (cases_eq z s)

-- a key that is written moves no ticket
pub keyed_within : {K : Type 0} (t u : Columns K) (i : ℕ) (k : Option K) (n : ℕ) → u ≡ with_key t i k → Within t n → Within u n
keyed_within t u i k n e w = subst (λ y. Within y n) (sym e) (λ z h. omega (arith, w z h, length-set t.key i k))

-- a seat from what is read of it
pub seat_from : {K : Type 0} (t : Columns K) (s i : ℕ) (k : K) → ticket_at t s ≡ i → i < length t.key → slot_of t i ≡ s → key_of t i ≡ Some k → key_at t s ≡ Some k → Seat t s
seat_from t s i k e h f g r = record { cell = subst (λ j. j < length t.key) (sym e) h; slot = ap (slot_of t) e ∙ f; key = k; holds = ap (key_of t) e ∙ g; slot_key = r }

-- An exchange of two slots.
module _ {K : Type 0} (t : Columns K) (even : Even t) (n : ℕ) (l : Linked t n) (a b : ℕ) (ha : a < n) (hb : b < n) (ne : a ≢ b) where
  -- the two tickets are not the same
  apart : ticket_at t a ≢ ticket_at t b
  apart e = ne (sym (l.seats a ha).slot ∙ ap (slot_of t) e ∙ (l.seats b hb).slot)

  abbrev once : Columns K
  once = seated t a (ticket_at t b) (key_at t b)

  first_even : Even once
  first_even = seated_even t even a (ticket_at t b) (key_at t b)

  ticket_b : ticket_at (exchanged t a b) b ≡ ticket_at t a
  ticket_b = seated_ticket once first_even b (ticket_at t a) (key_at t a) (omega (arith, l.room))

  ticket_a : ticket_at (exchanged t a b) a ≡ ticket_at t b
  ticket_a = seated_ticket_other once first_even b (ticket_at t a) (key_at t a) a ne ∙ seated_ticket t even a (ticket_at t b) (key_at t b) (omega (arith, l.room))

  ticket_other : (s : ℕ) → s ≢ a → s ≢ b → ticket_at (exchanged t a b) s ≡ ticket_at t s
  ticket_other s p q = seated_ticket_other once first_even b (ticket_at t a) (key_at t a) s q ∙ seated_ticket_other t even a (ticket_at t b) (key_at t b) s p

  slot_a : slot_of (exchanged t a b) (ticket_at t a) ≡ b
  slot_a = seated_slot once first_even b (ticket_at t a) (key_at t a) (l.seats a ha).cell

  slot_b : slot_of (exchanged t a b) (ticket_at t b) ≡ a
  slot_b = seated_slot_other once first_even b (ticket_at t a) (key_at t a) (ticket_at t b) (λ e. apart (sym e)) ∙ seated_slot t even a (ticket_at t b) (key_at t b) (l.seats b hb).cell

  slot_other : (i : ℕ) → i ≢ ticket_at t a → i ≢ ticket_at t b → slot_of (exchanged t a b) i ≡ slot_of t i
  slot_other i p q = seated_slot_other once first_even b (ticket_at t a) (key_at t a) i p ∙ seated_slot_other t even a (ticket_at t b) (key_at t b) i q

  pub exchange_first : key_at (exchanged t a b) a ≡ key_at t b
  exchange_first = seated_key_other once first_even b (ticket_at t a) (key_at t a) a ne ∙ seated_key t even a (ticket_at t b) (key_at t b) (omega (arith, l.room))

  pub exchange_second : key_at (exchanged t a b) b ≡ key_at t a
  exchange_second = seated_key once first_even b (ticket_at t a) (key_at t a) (omega (arith, l.room))

  pub exchange_others : (s : ℕ) → s ≢ a → s ≢ b → key_at (exchanged t a b) s ≡ key_at t s
  exchange_others s p q = seated_key_other once first_even b (ticket_at t a) (key_at t a) s q ∙ seated_key_other t even a (ticket_at t b) (key_at t b) s p

  seat : (s : ℕ) → s < n → Seat (exchanged t a b) s
  seat s h =
      ⊎_elim
      (λ e. subst (λ z. Seat (exchanged t a b) z) (sym e) (seat_from (exchanged t a b) a (ticket_at t b) (l.seats b hb).key ticket_a (l.seats b hb).cell slot_b (l.seats b hb).holds (exchange_first ∙ (l.seats b hb).slot_key)))
      (λ p. ⊎_elim
      (λ e. subst (λ z. Seat (exchanged t a b) z) (sym e) (seat_from (exchanged t a b) b (ticket_at t a) (l.seats a ha).key ticket_b (l.seats a ha).cell slot_a (l.seats a ha).holds (exchange_second ∙ (l.seats a ha).slot_key)))
      (λ q. seat_from (exchanged t a b) s (ticket_at t s) (l.seats s h).key (ticket_other s p q) (l.seats s h).cell
      (slot_other (ticket_at t s) (λ e. p (sym (l.seats s h).slot ∙ ap (slot_of t) e ∙ (l.seats a ha).slot)) (λ e. q (sym (l.seats s h).slot ∙ ap (slot_of t) e ∙ (l.seats b hb).slot)) ∙ (l.seats s h).slot)
      (l.seats s h).holds (exchange_others s p q ∙ (l.seats s h).slot_key))
      (cases_eq s b))
      (cases_eq s a)

  -- what is true of the slots b and a, and of every slot but those, is true of the slot of each ticket with a key
  by_ticket : (P : ℕ → ℕ → Type 0) → P (ticket_at t a) b → P (ticket_at t b) a → ((i : ℕ) (k : K) → key_of t i ≡ Some k → i ≢ ticket_at t a → i ≢ ticket_at t b → P i (slot_of t i)) → (i : ℕ) (k : K) → key_of t i ≡ Some k → P i (slot_of (exchanged t a b) i)
  by_ticket P pa pb po i k h =
      ⊎_elim
      (λ e. subst (λ j. P j (slot_of (exchanged t a b) j)) (sym e) (subst (λ s. P (ticket_at t a) s) (sym slot_a) pa))
      (λ p. ⊎_elim
      (λ e. subst (λ j. P j (slot_of (exchanged t a b) j)) (sym e) (subst (λ s. P (ticket_at t b) s) (sym slot_b) pb))
      (λ q. subst (λ s. P i s) (sym (slot_other i p q)) (po i k h p q))
      (cases_eq i (ticket_at t b)))
      (cases_eq i (ticket_at t a))

  pub exchange_linked : Linked (exchanged t a b) n
  exchange_linked = record {
    room = l.room;
    seats = seat;
    within = by_ticket (λ i s. s < n) hb ha (λ i k h p q. l.within i k h);
    there = by_ticket (λ i s. ticket_at (exchanged t a b) s ≡ i) ticket_b ticket_a
        (λ i k h p q. ticket_other (slot_of t i) (λ e. p (sym (l.there i k h) ∙ ap (ticket_at t) e)) (λ e. q (sym (l.there i k h) ∙ ap (ticket_at t) e)) ∙ l.there i k h);
  }

-- The ticket i with the key k, not yet seated, goes on from the slot a to the slot b, and what stands there to a.
module _ {K : Type 0} (t : Columns K) (even : Even t) (a b i : ℕ) (k : Option K) (ha : a < length t.key) (ne : a ≢ b) where
  -- of two writes of the slots of two tickets the first is lost where a third one follows
  slots_over : (xs : List ℕ) (x : ℕ) → set (set (set xs i a) x a) i b ≡ set (set xs x a) i b
  slots_over xs x =
      ⊎_elim
      (λ e. ap (λ z. set (set (set xs i a) z a) i b) e ∙ ap (λ zs. set zs i b) (set-set xs i a a) ∙ sym (ap (λ z. set (set xs z a) i b) e))
      (λ q. ap (λ zs. set zs i b) (set_comm xs i x a a (λ e. q (sym e))) ∙ set-set (set xs x a) i a b)
      (cases_eq x i)

  seated_over : (x : ℕ) (kx : Option K) → seated (seated t a x kx) b i k ≡ seated (seated (seated t a i k) a x kx) b i k
  seated_over x kx = rw (slots_over t.slot x, set-set t.ticket a i x, set-set t.slot_key a k kx)

  moved_ticket : ticket_at (seated t a i k) b ≡ ticket_at t b
  moved_ticket = seated_ticket_other t even a i k b (λ e. ne (sym e))

  pub move_here : key_at (seated t a i k) a ≡ k
  move_here = seated_key t even a i k ha

  pub move_there : key_at (seated t a i k) b ≡ key_at t b
  move_there = seated_key_other t even a i k b (λ e. ne (sym e))

  pub move_exchanges : seated (seated t a (ticket_at t b) (key_at t b)) b i k ≡ exchanged (seated t a i k) a b
  move_exchanges =
      seated_over (ticket_at t b) (key_at t b) ∙ ap (λ x. seated (seated (seated t a i k) a x (key_at t b)) b i k) (sym moved_ticket) ∙ ap (λ y. seated (seated (seated t a i k) a (ticket_at (seated t a i k) b) y) b i k) (sym move_there) ∙ ap (λ j. seated (seated (seated t a i k) a (ticket_at (seated t a i k) b) (key_at (seated t a i k) b)) b j k) (sym (seated_ticket t even a i k ha)) ∙ ap (λ y. seated (seated (seated t a i k) a (ticket_at (seated t a i k) b) (key_at (seated t a i k) b)) b (ticket_at (seated t a i k) a) y) (sym move_here)
