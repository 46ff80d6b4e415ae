-- Which key comes first in a heap, and when there is none.
use Rattle.std.proofs.Common.{◌≡◌, ℕ, ◌+◌, ◌<◌, Bool, false, List, get_or, Some, None, Option, sym, refl, ap, ◌∙◌, subst, ⊎_elim, arith}
use Rattle.std.proofs.lemmas.Bool.{cases_eq, cases_lt}
use Rattle.event_queue.specs.Orders.{sooner}
use Rattle.event_queue.proofs.Orders.{Total, sooner_carries, sooner_itself}
use Rattle.pairing_heap.specs.declared.node.Node.{Node}
use Rattle.pairing_heap.specs.Links.{Columns, columns, key_of}
use Rattle.pairing_heap.specs.Forests.{Forest, nil, node, one, times, NoneSooner, Ordered}
use Rattle.pairing_heap.specs.Sound.{bit, Sound}
use Rattle.pairing_heap.proofs.Removing.{tree_root, some_root}
use Rattle.event_queue.proofs.Options.{some_none}
use Rattle.pairing_heap.proofs.Trees.{one_same, one_other}

-- no ticket of a tree in order comes sooner than the root
module _ {K : Type 0} (before : K → K → Bool) (o : Total before) (keys : List (Option K)) where
  none_sooner_carries : (x y : Option K) (F : Forest) → sooner before y x ≡ false → NoneSooner before keys y F → NoneSooner before keys x F
  none_sooner_carries x y nil s h = tt
  none_sooner_carries x y (node a k r) s h = (sooner_carries before o x y (get_or keys a None) s h.0, none_sooner_carries x y r s h.1)

  pub root_first : (x : Option K) (F : Forest) → NoneSooner before keys x F → Ordered before keys F → (j : ℕ) → 0 < times j F → sooner before (get_or keys j None) x ≡ false
  root_first x nil h w j c = absurd (omega arith)
  root_first x (node a k r) h w j c =
      ⊎_elim
      (λ e. ap (λ y. sooner before (get_or keys y None) x) e ∙ h.0)
      (λ e. ⊎_elim
      (λ d. root_first x k (none_sooner_carries x (get_or keys a None) k h.0 w.0) w.1 j d)
      (λ d. root_first x r h.1 w.2 j (omega (arith, one_other j a e)))
      (cases_lt 0 (times j k)))
      (cases_eq j a)

module _ {K : Type 0} (before : K → K → Bool) (cells : List (Node K)) (root : Option ℕ) (size : ℕ) (S : Sound before cells root size) where
  -- the root holds a key
  pub root_key : (i : ℕ) → root ≡ Some i → (k : K) × (key_of (columns cells) i ≡ Some k)
  root_key i e = go (key_of (columns cells) i) refl
    where
      go : (o : Option K) → key_of (columns cells) i ≡ o → (k : K) × (key_of (columns cells) i ≡ Some k)
      go (Some k) h = (k, h)
      go None h =
          let top = tree_root (columns cells) root S.tree i S.rooted e in
          absurd (omega (arith, one_same i, ap (times i) (sym top.1) ∙ S.once i ∙ ap bit h))

  -- no ticket's key comes before that of the root
  pub root_least : Total before → (i : ℕ) (first : K) → root ≡ Some i → key_of (columns cells) i ≡ Some first → (j : ℕ) (k : K) → key_of (columns cells) j ≡ Some k → before k first ≡ false
  root_least o i first e held j k h =
      let t : Columns K = columns cells in
      let top = tree_root t root S.tree i S.rooted e in
      let w : Ordered before t.key (node i top.0 nil) = subst (λ F. Ordered before t.key F) top.1 S.ordered in
      let c : one j i + (times j top.0 + 0) ≡ 1 = ap (times j) (sym top.1) ∙ S.once j ∙ ap bit h in
      let s : sooner before (key_of t j) (key_of t i) ≡ false =
      ⊎_elim
      (λ d. ap (λ y. sooner before (key_of t y) (key_of t i)) d ∙ sooner_itself before o (key_of t i))
      (λ d. root_first before o t.key (key_of t i) top.0 w.0 w.1 j (omega (arith, one_other j i d)))
      (cases_eq j i) in
      subst (λ y. sooner before (Some k) y ≡ false) held (subst (λ y. sooner before y (key_of t i) ≡ false) h s)

  -- where there is no root, no key is held
  pub none_held : root ≡ None → (i : ℕ) → key_of (columns cells) i ≡ None
  none_held e i = go (key_of (columns cells) i) refl
    where
      go : (k : Option K) → key_of (columns cells) i ≡ k → key_of (columns cells) i ≡ None
      go None h = h
      go (Some k) h = let some = some_root (columns cells) root S.tree i S.rooted (omega (arith, S.once i, ap bit h)) in absurd (some_none root some.0 some.1 e)

-- cells that hold no key are an empty heap
pub empty_sound : {K : Type 0} (before : K → K → Bool) (cells : List (Node K)) → ((i : ℕ) → key_of (columns cells) i ≡ None) → Sound before cells None 0
empty_sound before cells none = record { tree = nil; rooted = refl; once = λ i. sym (ap bit (none i)); ordered = tt; counted = refl }
