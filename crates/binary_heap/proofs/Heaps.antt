-- From the columns to the heap: what a change of one ticket does, and which key comes first.
use Rattle.std.proofs.Common.{◌≡◌, ℕ, ◌+◌, ◌-◌, ◌<◌, ◌≤◌, Bool, false, ◌≢◌, List, length, set, is_some, Some, None, Option, slice_index_or, sym, refl, ap, ◌∙◌, subst, arith}
use Rattle.std.proofs.lemmas.List.{get_or-set_same, get_or-set_other}
use Rattle.event_queue.specs.Orders.{sooner}
use Rattle.event_queue.specs.Queues.{count_below}
use Rattle.event_queue.proofs.Orders.{Total}
use Rattle.event_queue.proofs.Counts.{count_none, count_more, count_room, count_some}
use Rattle.binary_heap.specs.declared.cell.Cell.{Cell}
use Rattle.binary_heap.specs.Slots.{Columns, columns, cell_key, key_of, slot_of, ticket_at, key_at, with_key, seated, Linked}
use Rattle.binary_heap.specs.Orders.{Upward, Loose}
use Rattle.binary_heap.specs.Sifts.{Settled}
use Rattle.binary_heap.specs.Sound.{Sound, Keyed}
use Rattle.binary_heap.proofs.Columns.{key_length}
use Rattle.binary_heap.proofs.Sifting.{top_first}
use Rattle.binary_heap.proofs.Sifts.{cells_even}
use Rattle.binary_heap.proofs.Seating.{insert_linked, insert_upward, remove_linked, remove_loose, remove_ordered, last_stands, change_linked, change_loose}
use Rattle.event_queue.proofs.Options.{some_none}
use Rattle.event_queue.proofs.Keyed.{held_cell, keyed_length, keyed_there, keyed_others}

-- how many hold a key
abbrev holding : {K : Type 0} → List (Cell K) → ℕ → Bool
holding cells i = is_some (key_of (columns cells) i)

-- The ticket i gets the key k.
module _ {K : Type 0} (before : K → K → Bool) (cells cells' : List (Cell K)) (n i : ℕ) (k : K) (S : Sound before cells n) (hi : i < length cells) (free : key_of (columns cells) i ≡ None) where
  pub room_left : n < length cells
  room_left = omega (arith, S.counted, count_room (holding cells) (length cells) i hi (ap is_some free))

  pub insert_settles : (u : Columns K) → u ≡ seated (with_key (columns cells) i (Some k)) n i (Some k) → ((m : ℕ) → n < m → Linked u m → Upward before (key_at u) m n → Settled before u (columns cells') m) → Settled before (seated (with_key (columns cells) i (Some k)) n i (Some k)) (columns cells') (n + 1)
  insert_settles u e sift =
      let t = columns cells in
      let l = insert_linked before t (cells_even cells) n i k S.linked (omega (arith, room_left, key_length cells)) (omega (arith, key_length cells)) free in
      let w = insert_upward before t (cells_even cells) n i k S.linked (omega (arith, room_left, key_length cells)) (omega (arith, key_length cells)) free S.ordered in
      subst (λ z. (Linked z (n + 1) → Upward before (key_at z) (n + 1) n → Settled before z (columns cells') (n + 1))) e (sift (n + 1) (omega arith)) l w

  pub inserted : Settled before (seated (with_key (columns cells) i (Some k)) n i (Some k)) (columns cells') (n + 1) → Keyed before cells cells' (n + 1) i (Some k)
  inserted z = record {
    sound = record {
      linked = z.linked;
      ordered = z.ordered;
      counted = ap (λ m. m + 1) S.counted ∙ sym (count_more (holding cells) (holding cells') (length cells) i hi (ap is_some free) (ap is_some (keyed_there cell_key cells cells' i (Some k) z.keys hi)) (λ j h. ap is_some (keyed_others cell_key cells cells' i (Some k) z.keys j h))) ∙ ap (count_below (holding cells')) (sym (keyed_length cell_key cells cells' i (Some k) z.keys));
    };
    keys = z.keys;
  }

-- The ticket i loses the key k.
module _ {K : Type 0} (before : K → K → Bool) (cells cells' : List (Cell K)) (n i : ℕ) (k : K) (S : Sound before cells n) (held : key_of (columns cells) i ≡ Some k) where
  pub some_held : 0 < n
  some_held = omega (arith, S.counted, count_some (holding cells) (length cells) i (held_cell cell_key cells i k held) (ap is_some held))

  pub remove_settles : Total before → (u : Columns K) → u ≡ seated (with_key (columns cells) i None) (slot_of (columns cells) i) (ticket_at (columns cells) (n - 1)) (key_at (columns cells) (n - 1)) → slot_of (columns cells) i < n - 1 → (Linked u (n - 1) → Loose before (key_at u) (n - 1) (slot_of (columns cells) i) → Settled before u (columns cells') (n - 1)) → Settled before (seated (with_key (columns cells) i None) (slot_of (columns cells) i) (ticket_at (columns cells) (n - 1)) (key_at (columns cells) (n - 1))) (columns cells') (n - 1)
  remove_settles o u e h sift =
      let t = columns cells in
      subst (λ z. (Linked z (n - 1) → Loose before (key_at z) (n - 1) (slot_of t i) → Settled before z (columns cells') (n - 1))) e sift
      (remove_linked before t (cells_even cells) n i k S.linked some_held held)
      (remove_loose before t (cells_even cells) n i k S.linked some_held held o h S.ordered)

  pub remove_last : n - 1 ≤ slot_of (columns cells) i → columns cells' ≡ seated (with_key (columns cells) i None) (slot_of (columns cells) i) (ticket_at (columns cells) (n - 1)) (key_at (columns cells) (n - 1)) → Settled before (seated (with_key (columns cells) i None) (slot_of (columns cells) i) (ticket_at (columns cells) (n - 1)) (key_at (columns cells) (n - 1))) (columns cells') (n - 1)
  remove_last h e =
      let t = columns cells in
      subst (λ z. Settled before (seated (with_key t i None) (slot_of t i) (ticket_at t (n - 1)) (key_at t (n - 1))) z (n - 1)) (sym e)
      (record {
        keys = refl;
        linked = remove_linked before t (cells_even cells) n i k S.linked some_held held;
        ordered = remove_ordered before t (cells_even cells) n i k S.linked some_held held h S.ordered;
      })

  pub removed : Settled before (seated (with_key (columns cells) i None) (slot_of (columns cells) i) (ticket_at (columns cells) (n - 1)) (key_at (columns cells) (n - 1))) (columns cells') (n - 1) → Keyed before cells cells' (n - 1) i None
  removed z =
      let hi = held_cell cell_key cells i k held in
      let more = count_more (holding cells') (holding cells) (length cells) i hi (ap is_some (keyed_there cell_key cells cells' i None z.keys hi)) (ap is_some held) (λ j h. ap is_some (sym (keyed_others cell_key cells cells' i None z.keys j h))) in
      let same = ap (count_below (holding cells')) (keyed_length cell_key cells cells' i None z.keys) in
      record {
        sound = record {
          linked = z.linked;
          ordered = z.ordered;
          counted = omega (arith, S.counted, more, same);
        };
        keys = z.keys;
      }

-- a removal as the code makes it: with a sift, and at the last slot without
module _ {K : Type 0} (before : K → K → Bool) (cells cells' : List (Cell K)) (n i : ℕ) (k : K) (S : Sound before cells n) (held : key_of (columns cells) i ≡ Some k) (s : ℕ) (es : s ≡ slot_of (columns cells) i) (u : Columns K) (eu : u ≡ with_key (columns cells) i None) where
  -- the ticket m and the key k' of the last slot were read after the key was written
  module _ (h : s < n - 1) (m : ℕ) (em : m ≡ ticket_at u (n - 1)) (k' : K) (ek : key_at u (n - 1) ≡ Some k') where
    last_ticket : m ≡ ticket_at (columns cells) (n - 1)
    last_ticket = em ∙ ap (λ w. ticket_at w (n - 1)) eu

    last_key : Some k' ≡ key_at (columns cells) (n - 1)
    unfolding key_at
    last_key = sym ek ∙ ap (λ w. key_at w (n - 1)) eu

    seated_as : seated u s m (Some k') ≡ seated (with_key (columns cells) i None) (slot_of (columns cells) i) (ticket_at (columns cells) (n - 1)) (key_at (columns cells) (n - 1))
    seated_as = rw (eu, es, last_ticket, last_key)

    pub remove_sifted : Total before → (Linked (seated u s m (Some k')) (n - 1) → Loose before (key_at (seated u s m (Some k'))) (n - 1) s → Settled before (seated u s m (Some k')) (columns cells') (n - 1)) → Keyed before cells cells' (n - 1) i None
    remove_sifted o sift =
        removed before cells cells' n i k S held
        (remove_settles before cells cells' n i k S held o (seated u s m (Some k')) seated_as (subst (λ z. z < n - 1) es h)
        (λ l w. sift l (subst (λ z. Loose before (key_at (seated u s m (Some k'))) (n - 1) z) (sym es) w)))

  pub remove_unsifted : n - 1 ≤ s → columns cells' ≡ u → Keyed before cells cells' (n - 1) i None
  remove_unsifted h e =
      let last = subst (λ z. n - 1 ≤ z) es h in
      removed before cells cells' n i k S held
      (remove_last before cells cells' n i k S held last
      (e ∙ eu ∙ last_stands before (columns cells) (cells_even cells) n i k S.linked (some_held before cells cells' n i k S held) held last))

-- The ticket i, which holds the key old, gets the key k.
module _ {K : Type 0} (before : K → K → Bool) (cells cells' : List (Cell K)) (n i : ℕ) (old k : K) (S : Sound before cells n) (held : key_of (columns cells) i ≡ Some old) where
  -- which of them hold a key but for i
  abbrev others_holding : ℕ → Bool
  others_holding j = is_some (slice_index_or (set (columns cells).key i None) j None)

  -- as many hold a key as before
  counted_same : (columns cells').key ≡ set (columns cells).key i (Some k) → count_below (holding cells') (length cells) ≡ count_below (holding cells) (length cells)
  counted_same e =
      let hi = held_cell cell_key cells i old held in
      let none = ap is_some (get_or-set_same (columns cells).key i None None (omega (arith, hi, key_length cells))) in
      let other = λ (j : ℕ) (h : j ≢ i). sym (ap is_some (get_or-set_other (columns cells).key i j None None h)) in
      let new = count_more others_holding (holding cells') (length cells) i hi none (ap is_some (keyed_there cell_key cells cells' i (Some k) e hi)) (λ j h. ap is_some (keyed_others cell_key cells cells' i (Some k) e j h) ∙ other j h) in
      let before = count_more others_holding (holding cells) (length cells) i hi none (ap is_some held) other in
      omega (arith, new, before)

  keyed_anew : Settled before (seated (with_key (columns cells) i (Some k)) (slot_of (columns cells) i) i (Some k)) (columns cells') n → Keyed before cells cells' n i (Some k)
  keyed_anew z = record {
    sound = record {
      linked = z.linked;
      ordered = z.ordered;
      counted = omega (arith, S.counted, counted_same z.keys, ap (count_below (holding cells')) (keyed_length cell_key cells cells' i (Some k) z.keys));
    };
    keys = z.keys;
  }

  -- as the code makes it: u is what stands after the key is written, and s the slot that was read
  module _ (s : ℕ) (es : s ≡ slot_of (columns cells) i) (u : Columns K) (eu : u ≡ with_key (columns cells) i (Some k)) where
    anew_as : seated u s i (Some k) ≡ seated (with_key (columns cells) i (Some k)) (slot_of (columns cells) i) i (Some k)
    anew_as = rw (eu, es)

    pub change_sifted : Total before → (Linked (seated u s i (Some k)) n → Loose before (key_at (seated u s i (Some k))) n s → Settled before (seated u s i (Some k)) (columns cells') n) → Keyed before cells cells' n i (Some k)
    change_sifted o sift =
        let t = columns cells in
        keyed_anew (subst (λ z. Settled before z (columns cells') n) anew_as
        (sift (subst (λ z. Linked z n) (sym anew_as) (change_linked before t (cells_even cells) n i old k S.linked held))
        (subst (λ z. Loose before (key_at z) n s) (sym anew_as) (subst (λ z. Loose before (key_at (seated (with_key t i (Some k)) (slot_of t i) i (Some k))) n z) (sym es) (change_loose before t (cells_even cells) n i old k S.linked held o S.ordered)))))

    pub change_within : s < n
    change_within = subst (λ z. z < n) (sym es) (S.linked.within i old held)

-- what stands in the first slot comes first
module _ {K : Type 0} (before : K → K → Bool) (cells : List (Cell K)) (n : ℕ) (S : Sound before cells n) where
  pub first_held : 0 < n → (i : ℕ) (first : K) → i ≡ ticket_at (columns cells) 0 → key_at (columns cells) 0 ≡ Some first → key_of (columns cells) i ≡ Some first
  first_held h i first ei e = ap (key_of (columns cells)) ei ∙ (S.linked.seats 0 h).holds ∙ sym (S.linked.seats 0 h).slot_key ∙ e

  pub first_least : Total before → (first : K) → key_at (columns cells) 0 ≡ Some first → (i : ℕ) (k : K) → key_of (columns cells) i ≡ Some k → before k first ≡ false
  first_least o first e i k h =
      let t = columns cells in
      let s = slot_of t i in
      let b = S.linked.within i k h in
      let seat = S.linked.seats s b in
      let at : key_at t s ≡ Some k = seat.slot_key ∙ sym seat.holds ∙ ap (key_of t) (S.linked.there i k h) ∙ h in
      let w : sooner before (key_at t s) (key_at t 0) ≡ false = top_first before o (key_at t) n S.ordered s s (omega arith) b in
      subst (λ y. sooner before (Some k) y ≡ false) e (subst (λ x. sooner before x (key_at t 0) ≡ false) at w)

  pub none_held : n ≤ 0 → (i : ℕ) → key_of (columns cells) i ≡ None
  none_held h i = go (key_of (columns cells) i) refl
    where
      go : (o : Option K) → key_of (columns cells) i ≡ o → key_of (columns cells) i ≡ None
      go None e = e
      go (Some k) e = absurd (omega (arith, S.linked.within i k e))

-- cells that hold no key are an empty heap
pub empty_sound : {K : Type 0} (before : K → K → Bool) (cells : List (Cell K)) → ((i : ℕ) → key_of (columns cells) i ≡ None) → Sound before cells 0
empty_sound before cells none = record {
  linked = record {
    room = omega arith;
    seats = λ s h. absurd (omega arith);
    within = λ i k h. absurd (some_none (key_of (columns cells) i) k h (none i));
    there = λ i k h. absurd (some_none (key_of (columns cells) i) k h (none i));
  };
  ordered = λ c p h. absurd (omega arith);
  counted = sym (count_none (holding cells) (length cells) (λ i h. ap is_some (none i)));
}
