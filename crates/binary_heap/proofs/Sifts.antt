-- The sifts, as their loops go.
use Rattle.std.proofs.Common.{◌≡◌, ℕ, ◌+◌, ◌-◌, ◌*◌, ◌<◌, ◌≤◌, Bool, true, false, ◌≢◌, ◌⊎◌, List, length, Some, Option, sym, ap, ◌∙◌, subst, inl, inr, ⊎_elim, arith}
use Rattle.std.specs.Bool.{then_some}
use Rattle.std.proofs.lemmas.Bool.{cases_eq}
use Rattle.event_queue.specs.Orders.{sooner}
use Rattle.event_queue.proofs.Orders.{Total, sooner_asymmetric, sooner_carries, sooner_itself}
use Rattle.binary_heap.specs.declared.cell.Cell.{Cell}
use Rattle.binary_heap.specs.Slots.{Columns, columns, ticket_at, key_at, Within, seated, Linked}
use Rattle.binary_heap.specs.Orders.{parent, Upward, Downward, Loose, FirstChild, SoonerChild}
use Rattle.binary_heap.specs.Sifts.{Settled}
use Rattle.binary_heap.proofs.Columns.{key_length, slot_length, ticket_length, slot_key_length}
use Rattle.binary_heap.proofs.Seats.{Even, exchanged, exchange_linked, exchange_first, exchange_second, exchange_others, seated_even, seated_ticket, seated_ticket_other, move_exchanges, move_here, move_there}
use Rattle.binary_heap.proofs.Sifting.{Swapped, later_as, up_step, up_top, up_stop, down_step, down_stop, loose_top, loose_down, loose_up}

pub cells_even : {K : Type 0} (cells : List (Cell K)) → Even (columns cells)
cells_even cells = record { slot = slot_length cells ∙ sym (key_length cells); ticket = ticket_length cells ∙ sym (key_length cells); slot_key = slot_key_length cells ∙ sym (key_length cells) }

-- the tickets of t stand in the first n slots of u, and only the slot s may have to go up
pub record Rising {K : Type 0} (before : K → K → Bool) (t u : Columns K) (n s : ℕ) : Type 0 where
  pub keys : u.key ≡ t.key
  pub linked : Linked u n
  pub within : s < n
  pub upward : Upward before (key_at u) n s

-- the tickets of t stand in the first n slots of u, and only the slot s may have to go down
pub record Sinking {K : Type 0} (before : K → K → Bool) (t u : Columns K) (n s : ℕ) : Type 0 where
  pub keys : u.key ≡ t.key
  pub linked : Linked u n
  pub downward : Downward before (key_at u) n s

swapped_from : {K : Type 0} (u v : Columns K) (even : Even u) (n a b : ℕ) → Linked u n → a < n → b < n → a ≢ b → v ≡ exchanged u a b → Swapped (key_at u) (key_at v) a b
swapped_from u v even n a b l ha hb ne e =
    subst (λ w. Swapped (key_at u) (key_at w) a b) (sym e)
    (record { first = exchange_first u even n l a b ha hb ne; second = exchange_second u even n l a b ha hb ne; others = exchange_others u even n l a b ha hb ne })

linked_from : {K : Type 0} (u v : Columns K) (even : Even u) (n a b : ℕ) → Linked u n → a < n → b < n → a ≢ b → v ≡ exchanged u a b → Linked v n
linked_from u v even n a b l ha hb ne e = subst (λ w. Linked w n) (sym e) (exchange_linked u even n l a b ha hb ne)

module _ {K : Type 0} (before : K → K → Bool) (t u v : Columns K) (n s : ℕ) where
  pub rise_step : Total before → Even u → 0 < s → sooner before (key_at u s) (key_at u (parent s)) ≡ true → v ≡ exchanged u s (parent s) → Rising before t u n s → Rising before t v n (parent s)
  rise_step o even hs e ev r =
      let hp : parent s < n = omega (arith, r.within) in
      let ne : s ≢ parent s = λ z. omega arith in
      record {
        keys = ap (λ w. w.key) ev ∙ r.keys;
        linked = linked_from u v even n s (parent s) r.linked r.within hp ne ev;
        within = hp;
        upward = up_step before o (key_at u) (key_at v) n s hs r.within r.upward (swapped_from u v even n s (parent s) r.linked r.within hp ne ev) e;
      }

  pub sink_step : (m : ℕ) → Total before → Even u → FirstChild before (key_at u) n s m → sooner before (key_at u m) (key_at u s) ≡ true → v ≡ exchanged u s m → Sinking before t u n s → Sinking before t v n m
  sink_step m o even f e ev r =
      let hs : s < n = omega (arith, f.below, f.child) in
      let ne : s ≢ m = λ z. omega (arith, f.positive, f.child) in
      record {
        keys = ap (λ w. w.key) ev ∙ r.keys;
        linked = linked_from u v even n s m r.linked hs f.below ne ev;
        downward = down_step before o (key_at u) (key_at v) n s m f.positive f.below f.child r.downward (swapped_from u v even n s m r.linked hs f.below ne ev) e f.first;
      }

module _ {K : Type 0} (before : K → K → Bool) (t u : Columns K) (n s : ℕ) where
  pub rise_top : s ≤ 0 → Rising before t u n s → Settled before t u n
  rise_top z r = record { keys = r.keys; linked = r.linked; ordered = up_top before (key_at u) n s (omega arith) r.upward }

  pub rise_stop : sooner before (key_at u s) (key_at u (parent s)) ≡ false → Rising before t u n s → Settled before t u n
  rise_stop e r = record { keys = r.keys; linked = r.linked; ordered = up_stop before (key_at u) n s e r.upward }

  pub sink_stop : ((c : ℕ) → 0 < c → c < n → parent c ≡ s → sooner before (key_at u c) (key_at u s) ≡ false) → Sinking before t u n s → Settled before t u n
  sink_stop none r = record { keys = r.keys; linked = r.linked; ordered = down_stop before (key_at u) n s none r.downward }

-- A sift that has the ticket i with the key k in hand: it began with t, and has come to u and the slot s, in which i is
-- seated at last. At each step it writes what stands in another slot, the ticket x with the key kx, into s, and goes on
-- from that slot.
module _ {K : Type 0} (before : K → K → Bool) (o : Total before) (t u v : Columns K) (even : Even u) (n s i : ℕ) (k : K) where
  here_key : s < length u.key → key_at (seated u s i (Some k)) s ≡ Some k
  here_key hl = move_here u even s (s + 1) i (Some k) hl (λ z. omega arith)

  other_key : (b : ℕ) → s < length u.key → s ≢ b → key_at (seated u s i (Some k)) b ≡ key_at u b
  other_key b hl ne = move_there u even s b i (Some k) hl ne

  exchanged_from : (b x : ℕ) (kx : K) → s < length u.key → s ≢ b → x ≡ ticket_at u b → key_at u b ≡ Some kx → v ≡ seated u s x (Some kx) → seated v b i (Some k) ≡ exchanged (seated u s i (Some k)) s b
  exchanged_from b x kx hl ne ex ek ev =
      ap (λ w. seated w b i (Some k)) ev ∙ ap (λ z. seated (seated u s z (Some kx)) b i (Some k)) ex ∙ ap (λ y. seated (seated u s (ticket_at u b) y) b i (Some k)) (sym ek) ∙ move_exchanges u even s b i (Some k) hl ne

  pub rise_move : (x : ℕ) (kx : K) → 0 < s → x ≡ ticket_at u (parent s) → key_at u (parent s) ≡ Some kx → sooner before (Some k) (key_at u (parent s)) ≡ true → v ≡ seated u s x (Some kx) → Rising before t (seated u s i (Some k)) n s → Rising before t (seated v (parent s) i (Some k)) n (parent s)
  rise_move x kx hs ex ek e ev r =
      let hl : s < length u.key = omega (arith, r.within, r.linked.room) in
      let ne : s ≢ parent s = λ z. omega arith in
      rise_step before t (seated u s i (Some k)) (seated v (parent s) i (Some k)) n s o (seated_even u even s i (Some k)) hs
      (ap (λ y. sooner before y (key_at (seated u s i (Some k)) (parent s))) (here_key hl) ∙ ap (λ y. sooner before (Some k) y) (other_key (parent s) hl ne) ∙ e)
      (exchanged_from (parent s) x kx hl ne ex ek ev) r

  pub rise_seat : (0 < s → sooner before (Some k) (key_at u (parent s)) ≡ false) → v ≡ seated u s i (Some k) → Rising before t (seated u s i (Some k)) n s → Settled before t v n
  rise_seat none ev r =
      let hl : s < length u.key = omega (arith, r.within, r.linked.room) in
      subst (λ w. Settled before t w n) (sym ev)
      (⊎_elim
      (λ z. rise_top before t (seated u s i (Some k)) n s (omega arith) r)
      (λ z. let ne : s ≢ parent s = λ y. omega arith in
      rise_stop before t (seated u s i (Some k)) n s (later_as before (Some k) _ (key_at u (parent s)) _ (here_key hl) (other_key (parent s) hl ne) (none (omega arith))) r)
      (cases_eq s 0))

  pub sink_move : (m x : ℕ) (kx : K) → FirstChild before (key_at u) n s m → x ≡ ticket_at u m → key_at u m ≡ Some kx → sooner before (key_at u m) (Some k) ≡ true → v ≡ seated u s x (Some kx) → Sinking before t (seated u s i (Some k)) n s → Sinking before t (seated v m i (Some k)) n m
  sink_move m x kx f ex ek e ev r =
      let hl : s < length u.key = omega (arith, f.below, f.child, r.linked.room) in
      let ne : s ≢ m = λ z. omega (arith, f.positive, f.child) in
      sink_step before t (seated u s i (Some k)) (seated v m i (Some k)) n s m o (seated_even u even s i (Some k))
      (record {
        positive = f.positive;
        below = f.below;
        child = f.child;
        first = λ c p b q. later_as before (key_at u c) _ (key_at u m) _ (other_key c hl (λ z. omega arith)) (other_key m hl ne) (f.first c p b q);
      })
      (ap (λ y. sooner before (key_at (seated u s i (Some k)) m) y) (here_key hl) ∙ ap (λ y. sooner before y (Some k)) (other_key m hl ne) ∙ e)
      (exchanged_from m x kx hl ne ex ek ev) r

  pub sink_seat : s < n → ((c : ℕ) → 0 < c → c < n → parent c ≡ s → sooner before (key_at u c) (Some k) ≡ false) → v ≡ seated u s i (Some k) → Sinking before t (seated u s i (Some k)) n s → Settled before t v n
  sink_seat hs none ev r =
      let hl : s < length u.key = omega (arith, hs, r.linked.room) in
      subst (λ w. Settled before t w n) (sym ev)
      (sink_stop before t (seated u s i (Some k)) n s
      (λ c p b q. later_as before (key_at u c) _ (Some k) _ (other_key c hl (λ z. omega arith)) (here_key hl) (none c p b q)) r)

-- that tickets have cells stays true as such a sift goes on to the slot b
pub move_within : {K : Type 0} (u v : Columns K) (even : Even u) (s i : ℕ) (k : Option K) (b x : ℕ) (kx : Option K) → s < length u.key → b < length u.key → x < length u.key → i < length u.key → v ≡ seated u s x kx → (m : ℕ) → Within (seated u s i k) m → Within (seated v b i k) m
move_within u v even s i k b x kx hs hb hx hi ev m w =
    subst (λ y. Within (seated y b i k) m) (sym ev)
    (λ z h. ⊎_elim
    (λ e. subst (λ j. j < length u.key) (sym (ap (ticket_at (seated (seated u s x kx) b i k)) e ∙ seated_ticket (seated u s x kx) (seated_even u even s x kx) b i k hb)) hi)
    (λ p. subst (λ j. j < length u.key) (sym (seated_ticket_other (seated u s x kx) (seated_even u even s x kx) b i k z p))
    (⊎_elim
    (λ e. subst (λ j. j < length u.key) (sym (ap (ticket_at (seated u s x kx)) e ∙ seated_ticket u even s x kx hs)) hx)
    (λ q. subst (λ j. j < length u.key) (seated_ticket_other u even s i k z q ∙ sym (seated_ticket_other u even s x kx z q)) (w z h))
    (cases_eq z s)))
    (cases_eq z b))

-- where a ticket with its key belongs, from the slot s in which it is seated
module _ {K : Type 0} (before : K → K → Bool) (o : Total before) (u : Columns K) (even : Even u) (n s i : ℕ) (k : K) (hs : s < n) (l : Linked (seated u s i (Some k)) n) where
  within_cells : s < length u.key
  within_cells = omega (arith, hs, l.room)

  here : key_at (seated u s i (Some k)) s ≡ Some k
  here = move_here u even s (s + 1) i (Some k) within_cells (λ z. omega arith)

  above : 0 < s → key_at (seated u s i (Some k)) (parent s) ≡ key_at u (parent s)
  above p = move_there u even s (parent s) i (Some k) within_cells (λ z. omega arith)

  pub belongs_up : 0 < s → sooner before (Some k) (key_at u (parent s)) ≡ true → Loose before (key_at (seated u s i (Some k))) n s → Upward before (key_at (seated u s i (Some k))) n s
  belongs_up p e = loose_up before (key_at (seated u s i (Some k))) n s o p (ap (λ y. sooner before y (key_at (seated u s i (Some k)) (parent s))) here ∙ ap (λ y. sooner before (Some k) y) (above p) ∙ e)

  pub belongs_down : (0 < s → sooner before (Some k) (key_at u (parent s)) ≡ false) → Loose before (key_at (seated u s i (Some k))) n s → Downward before (key_at (seated u s i (Some k))) n s
  belongs_down e w =
      ⊎_elim
      (λ z. loose_top before (key_at (seated u s i (Some k))) n s z w)
      (λ z. let p : 0 < s = omega arith in
      loose_down before (key_at (seated u s i (Some k))) n s (later_as before (Some k) _ (key_at u (parent s)) _ here (above p) (e p)) w)
      (cases_eq s 0)

-- two keys that were read
pub read_sooner : {K : Type 0} (before : K → K → Bool) {x y : Option K} {a b : K} → x ≡ Some a → y ≡ Some b → sooner before x y ≡ before a b
read_sooner before e f = rw (e, f)

-- the children of a slot, of which r is the right one
module _ {K : Type 0} (before : K → K → Bool) (o : Total before) (at : ℕ → Option K) (n s r : ℕ) (er : r ≡ 2 * s + 2) (h : 2 * s + 1 < n) where
  children : (c : ℕ) → 0 < c → parent c ≡ s → (c ≡ r - 1) ⊎ (c ≡ r)
  children c p e = ⊎_elim (λ f. inl f) (λ f. inr (omega arith)) (cases_eq c (r - 1))

  pub left_first : (r < n → sooner before (at r) (at (r - 1)) ≡ false) → FirstChild before at n s (r - 1)
  left_first e = record {
    positive = omega arith;
    below = omega arith;
    child = omega arith;
    first = λ c p b q. ⊎_elim
        (λ f. ap (λ z. sooner before (at z) (at (r - 1))) f ∙ sooner_itself before o (at (r - 1)))
        (λ f. ap (λ z. sooner before (at z) (at (r - 1))) f ∙ e (omega arith))
        (children c p q);
  }

  pub right_first : r < n → sooner before (at r) (at (r - 1)) ≡ true → FirstChild before at n s r
  right_first b e = record {
    positive = omega arith;
    below = b;
    child = omega arith;
    first = λ c p b q. ⊎_elim
        (λ f. ap (λ z. sooner before (at z) (at r)) f ∙ sooner_asymmetric before o (at r) (at (r - 1)) e)
        (λ f. ap (λ z. sooner before (at z) (at r)) f ∙ sooner_itself before o (at r))
        (children c p q);
  }

-- the first child answers for all
pub child_answers : {K : Type 0} (before : K → K → Bool) (o : Total before) (t : Columns K) (n s m : ℕ) (k : K) → FirstChild before (key_at t) n s m → (b : Bool) → sooner before (key_at t m) (Some k) ≡ b → SoonerChild before t n s k (then_some b m)
child_answers before o t n s m k f true e = (f, e)
child_answers before o t n s m k f false e = λ c p b q. sooner_carries before o (Some k) (key_at t m) (key_at t c) e (f.first c p b q)
