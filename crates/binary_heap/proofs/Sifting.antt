-- One step of a sift, on the keys of the slots, and where it stops.
use Rattle.std.proofs.Common.{◌≡◌, ℕ, zero, suc, ◌<◌, ◌≤◌, Bool, true, false, ◌≢◌, Option, ap, ◌∙◌, subst, ⊎_elim, arith}
use Rattle.std.proofs.lemmas.Bool.{cases_eq}
use Rattle.event_queue.specs.Orders.{sooner}
use Rattle.event_queue.proofs.Orders.{Total, sooner_asymmetric, sooner_carries, sooner_itself}
use Rattle.binary_heap.specs.Orders.{parent, Ordered, Bridged, Upward, Downward, Loose}

-- the keys of the slots a and b are exchanged
pub record Swapped {K : Type 0} (at at' : ℕ → Option K) (a b : ℕ) : Type 0 where
  pub first : at' a ≡ at b
  pub second : at' b ≡ at a
  pub others : (s : ℕ) → s ≢ a → s ≢ b → at' s ≡ at s

zero_of : (c : ℕ) → c ≤ 0 → c ≡ 0
zero_of c h = omega arith

-- a fact about two keys, at equal keys
pub later_as : {K : Type 0} (before : K → K → Bool) (x x' y y' : Option K) → x' ≡ x → y' ≡ y → sooner before x y ≡ false → sooner before x' y' ≡ false
later_as before x x' y y' e f h = ap (λ v. sooner before v y') e ∙ ap (λ v. sooner before x v) f ∙ h

module _ {K : Type 0} (before : K → K → Bool) (o : Total before) (at at' : ℕ → Option K) (n s : ℕ) where
  -- Upward: the slot s comes sooner than its parent, and they are exchanged.
  module _ (hs : 0 < s) (hn : s < n) (u : Upward before at n s) (w : Swapped at at' s (parent s)) (e : sooner before (at s) (at (parent s)) ≡ true) where
    -- the former parent is not sooner than s
    settled : sooner before (at (parent s)) (at s) ≡ false
    settled = sooner_asymmetric before o (at s) (at (parent s)) e

    pairs : (c : ℕ) → 0 < c → c < n → c ≢ parent s → sooner before (at' c) (at' (parent c)) ≡ false
    pairs c p h q =
        ⊎_elim
        (λ i. later_as before (at (parent s)) (at' c) (at s) (at' (parent c)) (ap at' i ∙ w.first) (ap (λ z. at' (parent z)) i ∙ w.second) settled)
        (λ i. ⊎_elim
        (λ j. later_as before (at c) (at' c) (at s) (at' (parent c)) (w.others c i q) (ap at' j ∙ w.second)
        (sooner_carries before o (at s) (at (parent s)) (at c) settled (subst (λ z. sooner before (at c) (at z) ≡ false) j (u.pairs c p h i))))
        (λ j. ⊎_elim
        (λ k. later_as before (at c) (at' c) (at (parent s)) (at' (parent c)) (w.others c i q) (ap at' k ∙ w.first) (u.bridged c p h k hs))
        (λ k. later_as before (at c) (at' c) (at (parent c)) (at' (parent c)) (w.others c i q) (w.others (parent c) k j) (u.pairs c p h i))
        (cases_eq (parent c) s))
        (cases_eq (parent c) (parent s)))
        (cases_eq c s)

    above : 0 < parent s → at' (parent (parent s)) ≡ at (parent (parent s))
    above h = w.others (parent (parent s)) (λ z. omega arith) (λ z. omega arith)

    upper : 0 < parent s → sooner before (at (parent s)) (at (parent (parent s))) ≡ false
    upper h = u.pairs (parent s) h (omega arith) (λ z. omega arith)

    bridged : Bridged before at' n (parent s)
    bridged c p h q r =
        ⊎_elim
        (λ i. later_as before (at (parent s)) (at' c) (at (parent (parent s))) (at' (parent (parent s))) (ap at' i ∙ w.first) (above r) (upper r))
        (λ i. later_as before (at c) (at' c) (at (parent (parent s))) (at' (parent (parent s))) (w.others c i (λ z. omega arith)) (above r)
        (sooner_carries before o (at (parent (parent s))) (at (parent s)) (at c) (upper r) (subst (λ z. sooner before (at c) (at z) ≡ false) q (u.pairs c p h i))))
        (cases_eq c s)

    pub up_step : Upward before at' n (parent s)
    up_step = record { pairs = pairs; bridged = bridged }

  -- Downward: the child m of s comes sooner than s, and no child of s sooner than m; they are exchanged.
  module _ (m : ℕ) (hm : 0 < m) (hn : m < n) (pm : parent m ≡ s) (d : Downward before at n s) (w : Swapped at at' s m) (e : sooner before (at m) (at s) ≡ true) (least : (c : ℕ) → 0 < c → c < n → parent c ≡ s → sooner before (at c) (at m) ≡ false) where
    down_pairs : (c : ℕ) → 0 < c → c < n → parent c ≢ m → sooner before (at' c) (at' (parent c)) ≡ false
    down_pairs c p h q =
        ⊎_elim
        (λ i. ⊎_elim
        (λ j. later_as before (at s) (at' c) (at m) (at' (parent c)) (ap at' j ∙ w.second) (ap at' i ∙ w.first) (sooner_asymmetric before o (at m) (at s) e))
        (λ j. later_as before (at c) (at' c) (at m) (at' (parent c)) (w.others c (λ z. omega arith) j) (ap at' i ∙ w.first) (least c p h i))
        (cases_eq c m))
        (λ i. ⊎_elim
        (λ j. later_as before (at m) (at' c) (at (parent s)) (at' (parent c)) (ap at' j ∙ w.first) (w.others (parent c) i q ∙ ap (λ z. at (parent z)) j) (d.bridged m hm hn pm (omega arith)))
        (λ j. later_as before (at c) (at' c) (at (parent c)) (at' (parent c)) (w.others c j (λ z. i (ap parent z ∙ pm))) (w.others (parent c) i q) (d.pairs c p h i))
        (cases_eq c s))
        (cases_eq (parent c) s)

    down_bridged : Bridged before at' n m
    down_bridged c p h q r =
        later_as before (at c) (at' c) (at m) (at' (parent m)) (w.others c (λ z. omega arith) (λ z. omega arith)) (ap at' pm ∙ w.first)
        (subst (λ z. sooner before (at c) (at z) ≡ false) q (d.pairs c p h (λ z. omega arith)))

    pub down_step : Downward before at' n m
    down_step = record { pairs = down_pairs; bridged = down_bridged }

module _ {K : Type 0} (before : K → K → Bool) (at : ℕ → Option K) (n s : ℕ) where
  -- a sift that has come to the top, or to a parent that is not later, is done
  pub up_top : s ≡ 0 → Upward before at n s → Ordered before at n
  up_top z u c p h = u.pairs c p h (λ e. omega arith)

  pub up_stop : sooner before (at s) (at (parent s)) ≡ false → Upward before at n s → Ordered before at n
  up_stop e u c p h = ⊎_elim (λ i. ap (λ z. sooner before (at z) (at (parent z))) i ∙ e) (λ i. u.pairs c p h i) (cases_eq c s)

  -- a sift that has come to a slot with no sooner child is done
  pub down_stop : ((c : ℕ) → 0 < c → c < n → parent c ≡ s → sooner before (at c) (at s) ≡ false) → Downward before at n s → Ordered before at n
  down_stop none d c p h = ⊎_elim (λ i. ap (λ z. sooner before (at c) (at z)) i ∙ none c p h i) (λ i. d.pairs c p h i) (cases_eq (parent c) s)

  -- a slot at the top, or one whose parent is not later, can only have to go down
  pub loose_top : s ≡ 0 → Loose before at n s → Downward before at n s
  loose_top z l = record { pairs = λ c p h q. l.pairs c p h (λ e. omega arith) q; bridged = l.bridged }

  pub loose_down : sooner before (at s) (at (parent s)) ≡ false → Loose before at n s → Downward before at n s
  loose_down e l = record { pairs = λ c p h q. ⊎_elim (λ i. ap (λ z. sooner before (at z) (at (parent z))) i ∙ e) (λ i. l.pairs c p h i q) (cases_eq c s); bridged = l.bridged }

  -- a slot that comes sooner than its parent can only have to go up
  pub loose_up : Total before → 0 < s → sooner before (at s) (at (parent s)) ≡ true → Loose before at n s → Upward before at n s
  loose_up o hs e l = record {
    pairs = λ c p h q. ⊎_elim
        (λ i. ap (λ z. sooner before (at c) (at z)) i ∙ sooner_carries before o (at s) (at (parent s)) (at c) (sooner_asymmetric before o (at s) (at (parent s)) e) (l.bridged c p h i hs))
        (λ i. l.pairs c p h q i)
        (cases_eq (parent c) s);
    bridged = l.bridged;
  }

-- the top slot comes first
pub top_first : {K : Type 0} (before : K → K → Bool) (o : Total before) (at : ℕ → Option K) (n : ℕ) → Ordered before at n → (fuel c : ℕ) → c ≤ fuel → c < n → sooner before (at c) (at 0) ≡ false
top_first before o at n h zero c f b = ap (λ z. sooner before (at z) (at 0)) (zero_of c f) ∙ sooner_itself before o (at 0)
top_first before o at n h (suc fuel) c f b =
    ⊎_elim
    (λ e. ap (λ z. sooner before (at z) (at 0)) e ∙ sooner_itself before o (at 0))
    (λ e. sooner_carries before o (at 0) (at (parent c)) (at c) (top_first before o at n h fuel (parent c) (omega arith) (omega arith)) (h c (omega arith) b))
    (cases_eq c 0)
