-- Forests in the cells: what a write keeps, and what linking two roots makes.
use Rattle.std.proofs.Common.{◌≡◌, ℕ, ◌+◌, ◌<◌, ◌≤◌, Bool, false, ◌≢◌, List, length, get_or, Some, None, Option, sym, refl, ap, ◌∙◌, arith}
use Rattle.std.proofs.lemmas.Bool.{eq-eqb, ne_eqb}
use Rattle.std.proofs.lemmas.List.{get_or-set_same, get_or-set_other, length-set}
use Rattle.event_queue.specs.Orders.{sooner}
use Rattle.event_queue.proofs.Options.{some_none, same_some}
use Rattle.pairing_heap.specs.Links.{Columns, key_of, child_of, next_of, back_of, set_at, linked}
use Rattle.pairing_heap.specs.Forests.{Forest, nil, node, one, times, nodes, Leads, Rooted, NoneSooner, Ordered}
use Rattle.pairing_heap.specs.Melds.{Same, Made}
use Rattle.pairing_heap.proofs.Columns.{Even}

-- a count of one ticket

pub one_eq : (j i : ℕ) → j ≡ i → one j i ≡ 1
unfolding one
one_eq j i e = rw (eq-eqb j i e)

pub one_same : (i : ℕ) → one i i ≡ 1
one_same i = one_eq i i refl

pub one_other : (j i : ℕ) → j ≢ i → one j i ≡ 0
unfolding one
one_other j i h = rw (ne_eqb j i h)

pub apart : (j i : ℕ) → one j i ≡ 0 → j ≢ i
apart j i z e = omega (arith, one_eq j i e)

-- a list written at the number that a link leads to
module _ {X : Type 0} (xs : List (Option X)) (link : Option ℕ) where
  pub set_at_same : (i : ℕ) (v : Option X) → link ≡ Some i → i < length xs → get_or (set_at xs link v) i None ≡ v
  set_at_same i v e h = ap (λ l. get_or (set_at xs l v) i None) e ∙ get_or-set_same xs i v None h

  pub set_at_other : (j : ℕ) (v : Option X) → (link ≡ Some j → ⊥) → get_or (set_at xs link v) j None ≡ get_or xs j None
  set_at_other j v ne = go link refl
    where
      go : (l : Option ℕ) → link ≡ l → get_or (set_at xs link v) j None ≡ get_or xs j None
      go None e = ap (λ l. get_or (set_at xs l v) j None) e
      go (Some i) e = ap (λ l. get_or (set_at xs l v) j None) e ∙ get_or-set_other xs i j v None (λ f. ne (e ∙ ap Some (sym f)))

  pub set_at_length : (v : Option X) → length (set_at xs link v) ≡ length xs
  set_at_length v = go link refl
    where
      go : (l : Option ℕ) → link ≡ l → length (set_at xs link v) ≡ length xs
      go None e = ap (λ l. length (set_at xs l v)) e
      go (Some i) e = ap (λ l. length (set_at xs l v)) e ∙ length-set xs i v

-- the links of a ticket that no write changed
pub same_itself : {K : Type 0} (t : Columns K) (j : ℕ) → Same t t j
same_itself t j = record { child = refl; next = refl; back = refl }

pub same_on : {K : Type 0} {t u v : Columns K} {j : ℕ} → Same t u j → Same u v j → Same t v j
same_on a b = record { child = b.child ∙ a.child; next = b.next ∙ a.next; back = b.back ∙ a.back }

-- the first of a forest
module _ {K : Type 0} (t : Columns K) (p : ℕ) (link : Option ℕ) where
  pub first_apart : (F : Forest) (j : ℕ) → times j F ≡ 0 → Leads t p link F → link ≡ Some j → ⊥
  first_apart nil j z h e = some_none link j e h
  first_apart (node a k r) j z h e = omega (arith, one_eq j a (same_some link j a e h.0))

  pub first_cell : (F : Forest) (i : ℕ) → Leads t p link F → link ≡ Some i → i < length t.key
  first_cell nil i h e = absurd (some_none link i e h)
  first_cell (node a k r) i h e = omega (arith, h.1, same_some link i a e h.0)

  pub first_back : (F : Forest) (i : ℕ) → Leads t p link F → link ≡ Some i → back_of t i ≡ Some p
  first_back nil i h e = absurd (some_none link i e h)
  first_back (node a k r) i h e = ap (back_of t) (same_some link i a e h.0) ∙ h.2

  pub first_in : (F : Forest) (i : ℕ) → Leads t p link F → link ≡ Some i → 0 < times i F
  first_in nil i h e = absurd (some_none link i e h)
  first_in (node a k r) i h e = omega (arith, one_eq i a (same_some link i a e h.0))

-- a forest none of whose links changed
module _ {K : Type 0} (t u : Columns K) (len : length u.key ≡ length t.key) where
  pub leads_frame : (p : ℕ) (link : Option ℕ) (F : Forest) → ((j : ℕ) → 0 < times j F → Same t u j) → Leads t p link F → Leads u p link F
  leads_frame p link nil same h = h
  leads_frame p link (node j k r) same h =
      let s = same j (omega (arith, one_same j)) in (
        h.0,
        omega (arith, h.1),
        s.back ∙ h.2,
        rw s.child (leads_frame j _ k (λ m c. same m (omega arith)) h.3),
        rw s.next (leads_frame j _ r (λ m c. same m (omega arith)) h.4),
      )

  pub rooted_frame : (link : Option ℕ) (F : Forest) → ((j : ℕ) → 0 < times j F → Same t u j) → Rooted t link F → Rooted u link F
  rooted_frame link nil same h = h
  rooted_frame link (node j k nil) same h =
      let s = same j (omega (arith, one_same j)) in (
        h.0,
        omega (arith, h.1),
        rw s.child (leads_frame j _ k (λ m c. same m (omega arith)) h.2),
      )
  rooted_frame link (node j k (node a b c)) same h = absurd h

  -- a link that leads to a forest in t leads to it in u too, where only what stands before its first ticket changed, to q
  pub rehead : (p q : ℕ) (link : Option ℕ) (F : Forest) → Leads t p link F → ((j : ℕ) → times j F ≤ 1) → ((i : ℕ) → link ≡ Some i → (back_of u i ≡ Some q) × (child_of u i ≡ child_of t i) × (next_of u i ≡ next_of t i)) → ((j : ℕ) → 0 < times j F → (link ≡ Some j → ⊥) → Same t u j) → Leads u q link F
  rehead p q link nil h once new same = h
  rehead p q link (node j k r) h once new same =
      let v = new j h.0 in (
        h.0,
        omega (arith, h.1),
        v.0,
        rw v.1 (leads_frame j _ k (λ m c. same m (omega arith) (λ f. apart m j (omega (arith, once m)) (same_some link m j f h.0))) h.3),
        rw v.2 (leads_frame j _ r (λ m c. same m (omega arith) (λ f. apart m j (omega (arith, once m)) (same_some link m j f h.0))) h.4),
      )

-- an order none of whose keys changed
module _ {K : Type 0} (before : K → K → Bool) (keys keys' : List (Option K)) where
  pub none_sooner_frame : (x : Option K) (F : Forest) → ((j : ℕ) → 0 < times j F → get_or keys' j None ≡ get_or keys j None) → NoneSooner before keys x F → NoneSooner before keys' x F
  none_sooner_frame x nil same h = tt
  none_sooner_frame x (node a k r) same h = (rw (same a (omega (arith, one_same a))) h.0, none_sooner_frame x r (λ j c. same j (omega arith)) h.1)

  pub ordered_frame : (F : Forest) → ((j : ℕ) → 0 < times j F → get_or keys' j None ≡ get_or keys j None) → Ordered before keys F → Ordered before keys' F
  ordered_frame nil same h = tt
  ordered_frame (node a k r) same h = (
    rw (same a (omega (arith, one_same a))) (none_sooner_frame _ k (λ j c. same j (omega arith)) h.0),
    ordered_frame k (λ j c. same j (omega arith)) h.1,
    ordered_frame r (λ j c. same j (omega arith)) h.2,
  )

-- The root l, with the children L, becomes the first child of the root w, with the children W.
module _ {K : Type 0} (t : Columns K) (even : Even t) (w l : ℕ) (W L : Forest) (bw : w < length t.key) (bl : l < length t.key) (hw : Leads t w (child_of t w) W) (hl : Leads t l (child_of t l) L) (once : (j : ℕ) → (one j w + (times j W + 0)) + (one j l + (times j L + 0)) ≤ 1) where
  w≢l : w ≢ l
  w≢l e = omega (arith, once w, one_same w, one_eq w l e)

  off_w : (j : ℕ) → 0 < times j W + times j L → j ≢ w
  off_w j h = apart j w (omega (arith, once j))

  off_l : (j : ℕ) → 0 < times j W + times j L → j ≢ l
  off_l j h = apart j l (omega (arith, once j))

  -- a ticket that is neither root, nor the first child of w, keeps its links
  others : (j : ℕ) → j ≢ w → j ≢ l → (child_of t w ≡ Some j → ⊥) → Same t (linked t w l) j
  others j a b c = record {
    child = get_or-set_other t.child w j (Some l) None a;
    next = get_or-set_other t.next l j (child_of t w) None b;
    back = get_or-set_other (set_at t.back (child_of t w) (Some l)) l j (Some w) None b ∙ set_at_other t.back (child_of t w) j (Some l) c;
  }

  kept : (j : ℕ) → j ≢ w → j ≢ l → times j W ≡ 0 → Same t (linked t w l) j
  kept j a b z = others j a b (first_apart t w (child_of t w) W j z hw)

  -- the children of w, now behind l
  behind : Leads (linked t w l) l (child_of t w) W
  behind =
      rehead t (linked t w l) refl w l (child_of t w) W hw (λ j. omega (arith, once j))
      (λ i e.
      let b : i < length t.key = first_cell t w (child_of t w) W i hw e in
      let i≢l : i ≢ l = λ f. first_apart t w (child_of t w) W l (omega (arith, once l, one_same l)) hw (e ∙ ap Some f) in
      let i≢w : i ≢ w = λ f. first_apart t w (child_of t w) W w (omega (arith, once w, one_same w)) hw (e ∙ ap Some f) in (
        get_or-set_other (set_at t.back (child_of t w) (Some l)) l i (Some w) None i≢l ∙ set_at_same t.back (child_of t w) i (Some l) e (omega (arith, even.back)),
        get_or-set_other t.child w i (Some l) None i≢w,
        get_or-set_other t.next l i (child_of t w) None i≢l,
      ))
      (λ j h ne. others j (off_w j (omega arith)) (off_l j (omega arith)) ne)

  below : Leads (linked t w l) w (child_of (linked t w l) w) (node l L W)
  below = (
    get_or-set_same t.child w (Some l) None (omega (arith, even.child)),
    bl,
    get_or-set_same (set_at t.back (child_of t w) (Some l)) l (Some w) None (omega (arith, even.back, set_at_length t.back (child_of t w) (Some l))),
    rw (get_or-set_other t.child w l (Some l) None (λ e. w≢l (sym e))) (leads_frame t (linked t w l) refl l _ L (λ j h. kept j (off_w j (omega arith)) (off_l j (omega arith)) (omega (arith, once j))) hl),
    rw (get_or-set_same t.next l (child_of t w) None (omega (arith, even.next))) behind,
  )

  module _ (before : K → K → Bool) (order : sooner before (key_of t l) (key_of t w) ≡ false) (ow : Ordered before t.key (node w W nil)) (ol : Ordered before t.key (node l L nil)) where
    pub link_made : Made before t (linked t w l) (Some w) (λ j. (one j w + (times j W + 0)) + (one j l + (times j L + 0))) ((1 + (nodes W + 0)) + (1 + (nodes L + 0)))
    link_made = record {
      tree = node w (node l L W) nil;
      rooted = (refl, bw, below);
      count = λ j. omega arith;
      size = omega arith;
      ordered = ((order, ow.0), (ol.0, ol.1, ow.1), tt);
      keys = refl;
      frame = λ j z. kept j (apart j w (omega arith)) (apart j l (omega arith)) (omega arith);
    }
