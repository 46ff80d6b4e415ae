-- A ticket that gets a key, one that loses it, and one that gets another: the columns before the sift, and the heap after it.
use Rattle.std.proofs.Common.{◌≡◌, ℕ, ◌+◌, ◌-◌, ◌<◌, ◌≤◌, Bool, false, ◌≢◌, length, set, Some, None, sym, refl, ap, ◌∙◌, subst, ⊎_elim, arith}
use Rattle.std.proofs.lemmas.Bool.{cases_eq}
use Rattle.std.proofs.lemmas.List.{get_or-set_same, get_or-set_other, length-set, set-get_or}
use Rattle.event_queue.specs.Orders.{sooner}
use Rattle.event_queue.proofs.Options.{some_none}
use Rattle.event_queue.proofs.Orders.{Total, sooner_carries}
use Rattle.binary_heap.specs.Slots.{Columns, key_of, slot_of, ticket_at, key_at, with_key, seated, Seat, Linked}
use Rattle.binary_heap.specs.Orders.{parent, Ordered, Upward, Loose}
use Rattle.binary_heap.proofs.Columns.{columns_from}
use Rattle.binary_heap.proofs.Seats.{Even, seated_ticket, seated_slot, seated_key, seated_ticket_other, seated_slot_other, seated_key_other, seat_from}
use Rattle.binary_heap.proofs.Sifting.{later_as}

-- The ticket i, which holds no key, gets one and stands in the slot n.
module _ {K : Type 0} (before : K → K → Bool) (t : Columns K) (even : Even t) (n i : ℕ) (k : K) (l : Linked t n) (hn : n < length t.key) (hi : i < length t.key) (free : key_of t i ≡ None) where
  keyed_even : Even (with_key t i (Some k))
  keyed_even = record { slot = even.slot ∙ sym (length-set t.key i (Some k)); ticket = even.ticket ∙ sym (length-set t.key i (Some k)); slot_key = even.slot_key ∙ sym (length-set t.key i (Some k)) }

  key_here : key_of (seated (with_key t i (Some k)) n i (Some k)) i ≡ Some k
  key_here = get_or-set_same t.key i (Some k) None hi

  key_other : (j : ℕ) → j ≢ i → key_of (seated (with_key t i (Some k)) n i (Some k)) j ≡ key_of t j
  key_other j h = get_or-set_other t.key i j (Some k) None h

  ticket_other : (s : ℕ) → s < n → ticket_at (seated (with_key t i (Some k)) n i (Some k)) s ≡ ticket_at t s
  ticket_other s h = seated_ticket_other (with_key t i (Some k)) keyed_even n i (Some k) s (λ e. omega arith)

  slot_other : (j : ℕ) → j ≢ i → slot_of (seated (with_key t i (Some k)) n i (Some k)) j ≡ slot_of t j
  slot_other j h = seated_slot_other (with_key t i (Some k)) keyed_even n i (Some k) j h

  longer : (m : ℕ) → m < length t.key → m < length (set t.key i (Some k))
  longer m h = omega (arith, length-set t.key i (Some k))

  ticket_here : ticket_at (seated (with_key t i (Some k)) n i (Some k)) n ≡ i
  ticket_here = seated_ticket (with_key t i (Some k)) keyed_even n i (Some k) (longer n hn)

  slot_here : slot_of (seated (with_key t i (Some k)) n i (Some k)) i ≡ n
  slot_here = seated_slot (with_key t i (Some k)) keyed_even n i (Some k) (longer i hi)

  rank_here : key_at (seated (with_key t i (Some k)) n i (Some k)) n ≡ Some k
  rank_here = seated_key (with_key t i (Some k)) keyed_even n i (Some k) (longer n hn)

  same_key : (s : ℕ) → s < n → key_at (seated (with_key t i (Some k)) n i (Some k)) s ≡ key_at t s
  unfolding key_at
  same_key s h = seated_key_other (with_key t i (Some k)) keyed_even n i (Some k) s (λ e. omega arith)

  -- a ticket in a slot is not i
  taken : (s : ℕ) (h : s < n) → ticket_at t s ≢ i
  taken s h e = some_none (key_of t (ticket_at t s)) (l.seats s h).key (l.seats s h).holds (ap (key_of t) e ∙ free)

  seat : (s : ℕ) → s < n + 1 → Seat (seated (with_key t i (Some k)) n i (Some k)) s
  seat s h =
      ⊎_elim
      (λ e. subst (λ z. Seat (seated (with_key t i (Some k)) n i (Some k)) z) (sym e) (seat_from (seated (with_key t i (Some k)) n i (Some k)) n i k ticket_here (longer i hi) slot_here key_here rank_here))
      (λ e. let b : s < n = omega arith in
      seat_from (seated (with_key t i (Some k)) n i (Some k)) s (ticket_at t s) (l.seats s b).key (ticket_other s b) (longer _ (l.seats s b).cell) (slot_other (ticket_at t s) (taken s b) ∙ (l.seats s b).slot) (key_other (ticket_at t s) (taken s b) ∙ (l.seats s b).holds) (same_key s b ∙ (l.seats s b).slot_key))
      (cases_eq s n)

  pub insert_linked : Linked (seated (with_key t i (Some k)) n i (Some k)) (n + 1)
  insert_linked = record {
    room = omega (arith, longer n hn);
    seats = seat;
    within = λ j v h. ⊎_elim
        (λ e. subst (λ z. z < n + 1) (sym (ap (slot_of (seated (with_key t i (Some k)) n i (Some k))) e ∙ slot_here)) (omega arith))
        (λ e. subst (λ z. z < n + 1) (sym (slot_other j e)) (omega (arith, l.within j v (sym (key_other j e) ∙ h))))
        (cases_eq j i);
    there = λ j v h. ⊎_elim
        (λ e. ap (ticket_at (seated (with_key t i (Some k)) n i (Some k))) (ap (slot_of (seated (with_key t i (Some k)) n i (Some k))) e ∙ slot_here) ∙ ticket_here ∙ sym e)
        (λ e. let f : key_of t j ≡ Some v = sym (key_other j e) ∙ h in
        ap (ticket_at (seated (with_key t i (Some k)) n i (Some k))) (slot_other j e) ∙ ticket_other (slot_of t j) (l.within j v f) ∙ l.there j v f)
        (cases_eq j i);
  }

  pub insert_upward : Ordered before (key_at t) n → Upward before (key_at (seated (with_key t i (Some k)) n i (Some k))) (n + 1) n
  insert_upward o = record {
    pairs = λ c p h e. let b : c < n = omega arith in later_as before (key_at t c) _ (key_at t (parent c)) _ (same_key c b) (same_key (parent c) (omega arith)) (o c p b);
    bridged = λ c p h e q. absurd (omega arith);
  }

-- The ticket i loses its key; the ticket in the last slot takes its slot.
module _ {K : Type 0} (before : K → K → Bool) (t : Columns K) (even : Even t) (n i : ℕ) (k : K) (l : Linked t n) (hn : 0 < n) (held : key_of t i ≡ Some k) where
  abbrev after : Columns K
  after = seated (with_key t i None) (slot_of t i) (ticket_at t (n - 1)) (key_at t (n - 1))

  unkeyed_even : Even (with_key t i None)
  unkeyed_even = record { slot = even.slot ∙ sym (length-set t.key i None); ticket = even.ticket ∙ sym (length-set t.key i None); slot_key = even.slot_key ∙ sym (length-set t.key i None) }

  hp : slot_of t i < n
  hp = l.within i k held

  pub hl : n - 1 < n
  hl = omega arith

  cell_of_i : i < length t.key
  cell_of_i = subst (λ z. z < length t.key) (l.there i k held) (l.seats (slot_of t i) hp).cell

  none_here : key_of after i ≡ None
  none_here = get_or-set_same t.key i None None cell_of_i

  kept_key : (j : ℕ) → j ≢ i → key_of after j ≡ key_of t j
  kept_key j h = get_or-set_other t.key i j None None h

  room_for : (m : ℕ) → m < length t.key → m < length (set t.key i None)
  room_for m h = omega (arith, length-set t.key i None)

  kept_ticket : (s : ℕ) → s ≢ slot_of t i → ticket_at after s ≡ ticket_at t s
  kept_ticket s h = seated_ticket_other (with_key t i None) unkeyed_even (slot_of t i) (ticket_at t (n - 1)) (key_at t (n - 1)) s h

  kept_slot : (j : ℕ) → j ≢ ticket_at t (n - 1) → slot_of after j ≡ slot_of t j
  kept_slot j h = seated_slot_other (with_key t i None) unkeyed_even (slot_of t i) (ticket_at t (n - 1)) (key_at t (n - 1)) j h

  new_ticket : ticket_at after (slot_of t i) ≡ ticket_at t (n - 1)
  new_ticket = seated_ticket (with_key t i None) unkeyed_even (slot_of t i) (ticket_at t (n - 1)) (key_at t (n - 1)) (room_for _ (omega (arith, l.room, hp)))

  new_slot : slot_of after (ticket_at t (n - 1)) ≡ slot_of t i
  new_slot = seated_slot (with_key t i None) unkeyed_even (slot_of t i) (ticket_at t (n - 1)) (key_at t (n - 1)) (room_for _ (l.seats (n - 1) hl).cell)

  new_rank : key_at after (slot_of t i) ≡ key_at t (n - 1)
  new_rank = seated_key (with_key t i None) unkeyed_even (slot_of t i) (ticket_at t (n - 1)) (key_at t (n - 1)) (room_for _ (omega (arith, l.room, hp)))

  kept_at : (s : ℕ) → s ≢ slot_of t i → key_at after s ≡ key_at t s
  unfolding key_at
  kept_at s h = seated_key_other (with_key t i None) unkeyed_even (slot_of t i) (ticket_at t (n - 1)) (key_at t (n - 1)) s h

  -- a ticket in another slot is another ticket
  other_ticket : (s z : ℕ) (h : s < n) (j : z < n) → s ≢ z → ticket_at t s ≢ ticket_at t z
  other_ticket s z h j ne e = ne (sym (l.seats s h).slot ∙ ap (slot_of t) e ∙ (l.seats z j).slot)

  not_i : (s : ℕ) → s < n → s ≢ slot_of t i → ticket_at t s ≢ i
  not_i s h ne e = ne (sym (l.seats s h).slot ∙ ap (slot_of t) e)

  seat_after : (s : ℕ) → s < n - 1 → Seat after s
  seat_after s h =
      ⊎_elim
      (λ e. let ne : n - 1 ≢ slot_of t i = λ z. omega arith in
      subst (λ z. Seat after z) (sym e)
      (seat_from after (slot_of t i) (ticket_at t (n - 1)) (l.seats (n - 1) hl).key new_ticket (room_for _ (l.seats (n - 1) hl).cell) new_slot
      (kept_key (ticket_at t (n - 1)) (not_i (n - 1) hl ne) ∙ (l.seats (n - 1) hl).holds) (new_rank ∙ (l.seats (n - 1) hl).slot_key)))
      (λ e. let b : s < n = omega arith in
      seat_from after s (ticket_at t s) (l.seats s b).key (kept_ticket s e) (room_for _ (l.seats s b).cell)
      (kept_slot (ticket_at t s) (other_ticket s (n - 1) b hl (λ z. omega arith)) ∙ (l.seats s b).slot)
      (kept_key (ticket_at t s) (not_i s b e) ∙ (l.seats s b).holds) (kept_at s e ∙ (l.seats s b).slot_key))
      (cases_eq s (slot_of t i))

  module _ (j : ℕ) (v : K) (h : key_of after j ≡ Some v) where
    j_not_i : j ≢ i
    j_not_i e = some_none (key_of after j) v h (ap (key_of after) e ∙ none_here)

    j_held : key_of t j ≡ Some v
    j_held = sym (kept_key j j_not_i) ∙ h

    -- where j is the last ticket, its new slot lies below the last one
    slot_below : j ≡ ticket_at t (n - 1) → slot_of t i < n - 1
    slot_below e =
        let ne : slot_of t i ≢ n - 1 = λ z. j_not_i (e ∙ ap (ticket_at t) (sym z) ∙ l.there i k held) in
        omega (arith, hp)

    slot_not_last : j ≢ ticket_at t (n - 1) → slot_of t j ≢ n - 1
    slot_not_last ne e = ne (sym (l.there j v j_held) ∙ ap (ticket_at t) e)

    slot_not_p : slot_of t j ≢ slot_of t i
    slot_not_p e = j_not_i (sym (l.there j v j_held) ∙ ap (ticket_at t) e ∙ l.there i k held)

    within_after : slot_of after j < n - 1
    within_after =
        ⊎_elim
        (λ e. subst (λ z. z < n - 1) (sym (ap (slot_of after) e ∙ new_slot)) (slot_below e))
        (λ e. subst (λ z. z < n - 1) (sym (kept_slot j e)) (let ne : slot_of t j ≢ n - 1 = slot_not_last e in omega (arith, l.within j v j_held)))
        (cases_eq j (ticket_at t (n - 1)))

    there_after : ticket_at after (slot_of after j) ≡ j
    there_after =
        ⊎_elim
        (λ e. ap (ticket_at after) (ap (slot_of after) e ∙ new_slot) ∙ new_ticket ∙ sym e)
        (λ e. ap (ticket_at after) (kept_slot j e) ∙ kept_ticket (slot_of t j) slot_not_p ∙ l.there j v j_held)
        (cases_eq j (ticket_at t (n - 1)))

  pub remove_linked : Linked after (n - 1)
  remove_linked = record { room = omega (arith, l.room, length-set t.key i None); seats = seat_after; within = within_after; there = there_after }

  -- where the last slot becomes free, its ticket stands there already
  pub last_stands : n - 1 ≤ slot_of t i → with_key t i None ≡ after
  unfolding key_at
  last_stands h =
      let e : slot_of t i ≡ n - 1 = omega (arith, hp) in
      let f : ticket_at t (n - 1) ≡ i = ap (ticket_at t) (sym e) ∙ l.there i k held in
      columns_from refl
      (sym (ap (λ j. set t.slot j (slot_of t i)) f ∙ set-get_or t.slot i 0))
      (sym (ap (λ s. set t.ticket (slot_of t i) (ticket_at t s)) (sym e) ∙ set-get_or t.ticket (slot_of t i) 0))
      (sym (ap (λ s. set t.slot_key (slot_of t i) (key_at t s)) (sym e) ∙ set-get_or t.slot_key (slot_of t i) None))

  pub remove_ordered : n - 1 ≤ slot_of t i → Ordered before (key_at t) n → Ordered before (key_at after) (n - 1)
  remove_ordered h o c p b = later_as before (key_at t c) _ (key_at t (parent c)) _ (kept_at c (λ z. omega arith)) (kept_at (parent c) (λ z. omega arith)) (o c p (omega arith))

  pub remove_loose : Total before → slot_of t i < n - 1 → Ordered before (key_at t) n → Loose before (key_at after) (n - 1) (slot_of t i)
  remove_loose total h o = record {
    pairs = λ c p b e f. later_as before (key_at t c) _ (key_at t (parent c)) _ (kept_at c e) (kept_at (parent c) f) (o c p (omega arith));
    bridged = λ c p b e q. later_as before (key_at t c) _ (key_at t (parent (slot_of t i))) _ (kept_at c (λ z. omega arith)) (kept_at (parent (slot_of t i)) (λ z. omega arith))
        (sooner_carries before total (key_at t (parent (slot_of t i))) (key_at t (slot_of t i)) (key_at t c) (o (slot_of t i) q hp) (subst (λ z. sooner before (key_at t c) (key_at t z) ≡ false) e (o c p (omega arith))));
  }

-- The ticket i, which holds a key, gets another one, in the slot where it stands.
module _ {K : Type 0} (before : K → K → Bool) (t : Columns K) (even : Even t) (n i : ℕ) (old k : K) (l : Linked t n) (held : key_of t i ≡ Some old) where
  abbrev changed : Columns K
  changed = seated (with_key t i (Some k)) (slot_of t i) i (Some k)

  changed_even : Even (with_key t i (Some k))
  changed_even = record { slot = even.slot ∙ sym (length-set t.key i (Some k)); ticket = even.ticket ∙ sym (length-set t.key i (Some k)); slot_key = even.slot_key ∙ sym (length-set t.key i (Some k)) }

  own_slot : slot_of t i < n
  own_slot = l.within i old held

  own_cell : i < length t.key
  own_cell = subst (λ z. z < length t.key) (l.there i old held) (l.seats (slot_of t i) own_slot).cell

  as_long : (m : ℕ) → m < length t.key → m < length (set t.key i (Some k))
  as_long m h = omega (arith, length-set t.key i (Some k))

  -- no ticket moves
  same_tickets : (s : ℕ) → ticket_at changed s ≡ ticket_at t s
  same_tickets s =
      ⊎_elim
      (λ e. ap (ticket_at changed) e ∙ seated_ticket (with_key t i (Some k)) changed_even (slot_of t i) i (Some k) (as_long _ (omega (arith, l.room, own_slot))) ∙ sym (l.there i old held) ∙ sym (ap (ticket_at t) e))
      (λ e. seated_ticket_other (with_key t i (Some k)) changed_even (slot_of t i) i (Some k) s e)
      (cases_eq s (slot_of t i))

  same_slots : (j : ℕ) → slot_of changed j ≡ slot_of t j
  same_slots j =
      ⊎_elim
      (λ e. ap (slot_of changed) e ∙ seated_slot (with_key t i (Some k)) changed_even (slot_of t i) i (Some k) (as_long _ own_cell) ∙ sym (ap (slot_of t) e))
      (λ e. seated_slot_other (with_key t i (Some k)) changed_even (slot_of t i) i (Some k) j e)
      (cases_eq j i)

  changed_key : key_of changed i ≡ Some k
  changed_key = get_or-set_same t.key i (Some k) None own_cell

  unchanged_key : (j : ℕ) → j ≢ i → key_of changed j ≡ key_of t j
  unchanged_key j h = get_or-set_other t.key i j (Some k) None h

  changed_rank : key_at changed (slot_of t i) ≡ Some k
  changed_rank = seated_key (with_key t i (Some k)) changed_even (slot_of t i) i (Some k) (as_long _ (omega (arith, l.room, own_slot)))

  unchanged_rank : (s : ℕ) → s ≢ slot_of t i → key_at changed s ≡ key_at t s
  unfolding key_at
  unchanged_rank s h = seated_key_other (with_key t i (Some k)) changed_even (slot_of t i) i (Some k) s h

  another : (s : ℕ) → s < n → s ≢ slot_of t i → ticket_at t s ≢ i
  another s h ne e = ne (sym (l.seats s h).slot ∙ ap (slot_of t) e)

  seat_changed : (s : ℕ) → s < n → Seat changed s
  seat_changed s h =
      ⊎_elim
      (λ e. subst (λ z. Seat changed z) (sym e) (seat_from changed (slot_of t i) i k (same_tickets (slot_of t i) ∙ l.there i old held) (as_long _ own_cell) (same_slots i) changed_key changed_rank))
      (λ e. seat_from changed s (ticket_at t s) (l.seats s h).key (same_tickets s) (as_long _ (l.seats s h).cell) (same_slots (ticket_at t s) ∙ (l.seats s h).slot) (unchanged_key (ticket_at t s) (another s h e) ∙ (l.seats s h).holds) (unchanged_rank s e ∙ (l.seats s h).slot_key))
      (cases_eq s (slot_of t i))

  -- a ticket that holds a key held one before
  module _ (P : ℕ → Type 0) (p : (j : ℕ) (v : K) → key_of t j ≡ Some v → P j) where
    held_before : (j : ℕ) (v : K) → key_of changed j ≡ Some v → P j
    held_before j v h =
        ⊎_elim
        (λ e. subst P (sym e) (p i old held))
        (λ e. p j v (sym (unchanged_key j e) ∙ h))
        (cases_eq j i)

  pub change_linked : Linked changed n
  change_linked = record {
    room = omega (arith, l.room, length-set t.key i (Some k));
    seats = seat_changed;
    within = held_before (λ j. slot_of changed j < n) (λ j v h. subst (λ z. z < n) (sym (same_slots j)) (l.within j v h));
    there = held_before (λ j. ticket_at changed (slot_of changed j) ≡ j) (λ j v h. same_tickets (slot_of changed j) ∙ ap (ticket_at t) (same_slots j) ∙ l.there j v h);
  }

  pub change_loose : Total before → Ordered before (key_at t) n → Loose before (key_at changed) n (slot_of t i)
  change_loose total o = record {
    pairs = λ c p b e f. later_as before (key_at t c) _ (key_at t (parent c)) _ (unchanged_rank c e) (unchanged_rank (parent c) f) (o c p b);
    bridged = λ c p b e q. later_as before (key_at t c) _ (key_at t (parent (slot_of t i))) _ (unchanged_rank c (λ z. omega arith)) (unchanged_rank (parent (slot_of t i)) (λ z. omega arith))
        (sooner_carries before total (key_at t (parent (slot_of t i))) (key_at t (slot_of t i)) (key_at t c) (o (slot_of t i) q own_slot) (subst (λ z. sooner before (key_at t c) (key_at t z) ≡ false) e (o c p b)));
  }
