-- A ticket that gets a key: its tree of one is melded with the heap.
use Rattle.std.proofs.Common.{◌≡◌, ℕ, ◌+◌, ◌<◌, Bool, ◌≢◌, List, length, set, Some, None, Option, refl, ap, ◌∙◌, subst, ⊎_elim, arith}
use Rattle.std.proofs.lemmas.Bool.{cases_eq}
use Rattle.std.proofs.lemmas.List.{get_or-set_same, get_or-set_other, length-set}
use Rattle.pairing_heap.specs.declared.node.Node.{Node}
use Rattle.pairing_heap.specs.Links.{Columns, columns, key_of, with_key, with_child}
use Rattle.pairing_heap.specs.Forests.{nil, node, times, nodes}
use Rattle.pairing_heap.specs.Melds.{Made, Melds}
use Rattle.pairing_heap.specs.Sound.{bit, Sound, Keyed}
use Rattle.pairing_heap.proofs.Columns.{key_length, cells_even}
use Rattle.pairing_heap.proofs.Counting.{bit_le}
use Rattle.pairing_heap.proofs.Changes.{made_keyed}
use Rattle.pairing_heap.proofs.Trees.{one_eq, one_other, rooted_frame, ordered_frame}

module _ {K : Type 0} (before : K → K → Bool) (cells cells' : List (Node K)) (root r : Option ℕ) (size n : ℕ) (key : K) (S : Sound before cells root size) (h : n < length cells) (free : key_of (columns cells) n ≡ None) where
  absent : (j : ℕ) → j ≡ n → times j S.tree ≡ 0
  absent j e = S.once j ∙ ap (λ x. bit (key_of (columns cells) x)) e ∙ ap bit free

  off : (j : ℕ) → 0 < times j S.tree → j ≢ n
  off j c e = omega (arith, absent j e)

  -- the cells with the ticket n as a tree of one
  abbrev fresh : Columns K
  fresh = with_child (with_key (columns cells) n (Some key)) n None

  made : Melds before fresh (columns cells') root (Some n) r → Made before fresh (columns cells') r (λ j. times j S.tree + times j (node n nil nil)) (nodes S.tree + nodes (node n nil nil))
  made melds =
      let t : Columns K = columns cells in
      let l = key_length cells in
      melds S.tree (node n nil nil)
      (rooted_frame t fresh (length-set t.key n (Some key)) root S.tree (λ j c. record { child = get_or-set_other t.child n j None None (off j c); next = refl; back = refl }) S.rooted)
      (refl, simp length-set (omega arith), get_or-set_same t.child n None None (omega (arith, (cells_even cells).child)))
      (λ j. ⊎_elim (λ e. omega (arith, absent j e, one_eq j n e)) (λ e. omega (arith, one_other j n e, S.once j, bit_le (key_of t j))) (cases_eq j n))
      (ordered_frame before t.key (set t.key n (Some key)) S.tree (λ j c. get_or-set_other t.key n j (Some key) None (off j c)) S.ordered)
      (tt, tt, tt)

  fresh_keyed : Melds before fresh (columns cells') root (Some n) r → Keyed before cells cells' r (nodes S.tree + 1) n (Some key)
  fresh_keyed melds =
      made_keyed before cells cells' fresh r (λ j. times j S.tree + times j (node n nil nil)) (nodes S.tree + 1) n (Some key) h refl (made melds)
      (λ j e. omega (arith, absent j e, one_eq j n e))
      (λ j e. omega (arith, S.once j, one_other j n e))

  -- the two writes and the meld, as the code makes them
  pub inserted : (t u : Columns K) → t ≡ with_key (columns cells) n (Some key) → u ≡ with_child t n None → Melds before u (columns cells') root (Some n) r → Keyed before cells cells' r (size + 1) n (Some key)
  inserted t u et eu melds =
      let e : u ≡ fresh = eu ∙ ap (λ x. with_child x n None) et in
      subst (λ m. Keyed before cells cells' r (m + 1) n (Some key)) S.counted (fresh_keyed (subst (λ x. Melds before x (columns cells') root (Some n) r) e melds))
