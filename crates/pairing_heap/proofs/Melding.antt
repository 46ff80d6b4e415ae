-- What melding two trees makes, and melding a row of trees.
use Rattle.std.proofs.Common.{◌≡◌, ℕ, ◌+◌, ◌≤◌, Bool, true, false, length, Some, Option, sym, ap, ◌∙◌, subst, arith}
use Rattle.event_queue.specs.Orders.{sooner}
use Rattle.event_queue.proofs.Orders.{Total, sooner_asymmetric}
use Rattle.pairing_heap.specs.Links.{Columns, key_of, next_of, linked}
use Rattle.pairing_heap.specs.Forests.{nil, node, Leads, Rooted, Ordered}
use Rattle.pairing_heap.specs.Melds.{Made, Melds, MeldsPairs}
use Rattle.pairing_heap.proofs.Columns.{Even}
use Rattle.event_queue.proofs.Options.{some_none, same_some}
use Rattle.pairing_heap.proofs.Trees.{same_on, leads_frame, rooted_frame, link_made}

-- what was made of trees, with each ticket counted by g in place of f, and n tickets in place of m
made_as : {K : Type 0} {before : K → K → Bool} {t u : Columns K} {r : Option ℕ} (f g : ℕ → ℕ) (m n : ℕ) → ((j : ℕ) → f j ≡ g j) → m ≡ n → Made before t u r f m → Made before t u r g n
made_as f g m n e d w = record { tree = w.tree; rooted = w.rooted; count = λ j. w.count j ∙ e j; size = w.size ∙ d; ordered = w.ordered; keys = w.keys; frame = λ j z. w.frame j (e j ∙ z) }

module _ {K : Type 0} (before : K → K → Bool) where
  module _ (t : Columns K) (even : Even t) where
    -- the first root stays a root
    pub meld_first : (u : Columns K) (a b : Option ℕ) (x y : ℕ) → a ≡ Some x → b ≡ Some y → u ≡ linked t x y → sooner before (key_of t y) (key_of t x) ≡ false → Melds before t u a b (Some x)
    meld_first u a b x y ea eb e s nil G hf hg once of og = absurd (some_none a x ea hf)
    meld_first u a b x y ea eb e s (node i k (node p q r)) G hf hg once of og = absurd hf
    meld_first u a b x y ea eb e s (node i k nil) nil hf hg once of og = absurd (some_none b y eb hg)
    meld_first u a b x y ea eb e s (node i k nil) (node m l (node p q r)) hf hg once of og = absurd hg
    meld_first u a b x y ea eb e s (node i k nil) (node m l nil) hf hg once of og =
        let ex : x ≡ i = same_some a x i ea hf.0 in
        let ey : y ≡ m = same_some b y m eb hg.0 in
        let s' : sooner before (key_of t m) (key_of t i) ≡ false = subst (λ z. sooner before (key_of t z) (key_of t i) ≡ false) ey (subst (λ z. sooner before (key_of t y) (key_of t z) ≡ false) ex s) in
        rw (e, ex, ey) (link_made t even i m k l hf.1 hg.1 hf.2 hg.2 once before s' of og)

    -- the second stays a root
    pub meld_second : Total before → (u : Columns K) (a b : Option ℕ) (x y : ℕ) → a ≡ Some x → b ≡ Some y → u ≡ linked t y x → sooner before (key_of t y) (key_of t x) ≡ true → Melds before t u a b (Some y)
    meld_second o u a b x y ea eb e s F G hf hg once of og =
        made_as _ _ _ _ (λ j. omega arith) (omega arith) (meld_first u b a y x eb ea e (sooner_asymmetric before o (key_of t y) (key_of t x) s) G F hg hf (λ j. omega (arith, once j)) og of)

  -- the first two trees of a row are melded, then the rest of the row, and then what the two made
  pub pairs_step : (t t1 t2 t3 : Columns K) (first second rest pair others root : Option ℕ) (x y fuel less : ℕ) → first ≡ Some x → second ≡ next_of t x → second ≡ Some y → rest ≡ next_of t y → Melds before t t1 first (Some y) pair → MeldsPairs before t1 t2 rest less others → Melds before t2 t3 pair others root → fuel ≤ less + 1 → MeldsPairs before t t3 first fuel root
  pairs_step t t1 t2 t3 first second rest pair others root x y fuel less ex en ey er meld1 pairs meld2 lf p nil h once o le = absurd (some_none first x ex h)
  pairs_step t t1 t2 t3 first second rest pair others root x y fuel less ex en ey er meld1 pairs meld2 lf p (node a k nil) h once o le =
      absurd (some_none second y ey (en ∙ ap (next_of t) (same_some first x a ex h.0) ∙ h.4))
  pairs_step t t1 t2 t3 first second rest pair others root x y fuel less ex en ey er meld1 pairs meld2 lf p (node a k (node b l R)) h once o le =
      let eb : second ≡ Some b = en ∙ ap (next_of t) (same_some first x a ex h.0) ∙ h.4.0 in
      let er' : next_of t b ≡ rest = sym (er ∙ ap (next_of t) (same_some second y b ey eb)) in
      let m1 = meld1 (node a k nil) (node b l nil) (h.0, h.1, h.3) (sym ey ∙ eb, h.4.1, h.4.3) (λ j. omega (arith, once j)) (o.0, o.1, tt) (o.2.0, o.2.1, tt) in
      let hr : Leads t b rest R = subst (λ v. Leads t b v R) er' h.4.4 in
      let hr1 : Leads t1 b rest R = leads_frame t t1 (ap length m1.keys) b rest R (λ j c. m1.frame j (omega (arith, once j))) hr in
      let m2 = pairs b R hr1 (λ j. omega (arith, once j)) (rw m1.keys o.2.2) (omega arith) in
      let h1 : Rooted t2 pair m1.tree = rooted_frame t1 t2 (ap length m2.keys) pair m1.tree (λ j c. m2.frame j (omega (arith, once j, m1.count j))) m1.rooted in
      let m3 = meld2 m1.tree m2.tree h1 m2.rooted (λ j. omega (arith, once j, m1.count j, m2.count j)) (rw (m2.keys, m1.keys) m1.ordered) (rw m2.keys m2.ordered) in
      let ks : t2.key ≡ t.key = m2.keys ∙ m1.keys in
      record {
        tree = m3.tree;
        rooted = m3.rooted;
        count = λ j. omega (arith, m1.count j, m2.count j, m3.count j);
        size = omega (arith, m1.size, m2.size, m3.size);
        ordered = subst (λ v. Ordered before v m3.tree) ks m3.ordered;
        keys = m3.keys ∙ ks;
        frame = λ j z. same_on (m1.frame j (omega arith)) (same_on (m2.frame j (omega arith)) (m3.frame j (omega (arith, m1.count j, m2.count j))));
      }
