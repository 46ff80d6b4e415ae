-- A ticket that loses its key: its tree is cut out, and its children are melded with the rest.
use Rattle.std.proofs.Common.{◌≡◌, ℕ, ◌+◌, ◌-◌, ◌<◌, ◌≤◌, Bool, ◌≢◌, List, length, get_or, set, Some, None, Option, sym, refl, ap, ◌∙◌, subst, arith}
use Rattle.std.proofs.lemmas.List.{get_or-set_other, length-set}
use Rattle.pairing_heap.specs.declared.node.Node.{Node}
use Rattle.pairing_heap.specs.Links.{Columns, columns, key_of, child_of, with_key, without_tree}
use Rattle.pairing_heap.specs.Forests.{Forest, nil, node, one, times, nodes, Leads, Rooted, Ordered}
use Rattle.pairing_heap.specs.Melds.{Made, Melds, MeldsPairs}
use Rattle.pairing_heap.specs.Sound.{bit, Sound, Keyed}
use Rattle.pairing_heap.proofs.Columns.{key_length, cells_even}
use Rattle.pairing_heap.proofs.Counting.{nodes_le, bit_le}
use Rattle.pairing_heap.proofs.Changes.{made_keyed}
use Rattle.event_queue.proofs.Keyed.{held_cell}
use Rattle.pairing_heap.specs.Links.{node_key}
use Rattle.pairing_heap.proofs.Splitting.{Split, split_tree}
use Rattle.event_queue.proofs.Options.{some_none, same_some}
use Rattle.pairing_heap.proofs.Trees.{one_eq, one_other, apart, leads_frame, rooted_frame, ordered_frame}

-- the tree under a root
pub tree_root : {K : Type 0} (t : Columns K) (link : Option ℕ) (F : Forest) (i : ℕ) → Rooted t link F → link ≡ Some i → (k : Forest) × (F ≡ node i k nil) × (i < length t.key) × Leads t i (child_of t i) k
tree_root t link nil i h e = absurd (some_none link i e h)
tree_root t link (node a k (node x y z)) i h e = absurd h
tree_root t link (node a k nil) i h e =
    let d : a ≡ i = same_some link a i h.0 e in
    (k, ap (λ x. node x k nil) d, omega (arith, h.1), subst (λ x. Leads t x (child_of t x) k) d h.2)

-- a tree in which some ticket stands has a root
pub some_root : {K : Type 0} (t : Columns K) (link : Option ℕ) (F : Forest) (n : ℕ) → Rooted t link F → 0 < times n F → (i : ℕ) × (link ≡ Some i)
some_root t link nil n h c = absurd (omega arith)
some_root t link (node a k nil) n h c = (a, h.0)
some_root t link (node a k (node x y z)) n h c = absurd h

-- a key changes no link
key_leads : {K : Type 0} (t : Columns K) (n : ℕ) (v : Option K) (p : ℕ) (link : Option ℕ) (F : Forest) → Leads t p link F → Leads (with_key t n v) p link F
key_leads t n v p link F h = leads_frame t (with_key t n v) (length-set t.key n v) p link F (λ j c. record { child = refl; next = refl; back = refl }) h

-- The children of n, after n lost its key, are melded.
module _ {K : Type 0} (before : K → K → Bool) (t v : Columns K) (n : ℕ) (x : Option ℕ) (k : Forest) (h : Leads t n (child_of t n) k) (once : (j : ℕ) → one j n + times j k ≤ 1) (o : Ordered before t.key k) where
  pub children_made : MeldsPairs before (with_key t n None) v (child_of t n) (length t.key) x → Made before (with_key t n None) v x (λ j. times j k) (nodes k)
  children_made pairs =
      pairs n k (key_leads t n None n (child_of t n) k h) (λ j. omega (arith, once j))
      (ordered_frame before t.key (set t.key n None) k (λ j c. get_or-set_other t.key n j None None (apart j n (omega (arith, once j)))) o)
      (nodes_le t n (child_of t n) k h (λ j. omega (arith, once j)))

-- The root goes.
module _ {K : Type 0} (before : K → K → Bool) (cells cells' : List (Node K)) (root r : Option ℕ) (size n : ℕ) (e : root ≡ Some n) (S : Sound before cells root size) where
  module _ (k : Forest) (f : S.tree ≡ node n k nil) (b : n < length (columns cells).key) (h : Leads (columns cells) n (child_of (columns cells) n) k) where
    root_once : (j : ℕ) → one j n + (times j k + 0) ≡ bit (key_of (columns cells) j)
    root_once j = ap (times j) (sym f) ∙ S.once j

    root_le : (j : ℕ) → one j n + times j k ≤ 1
    root_le j = omega (arith, root_once j, bit_le (key_of (columns cells) j))

    root_count : size - 1 ≡ nodes k
    root_count = omega (arith, S.counted, ap nodes f)

    root_keyed : MeldsPairs before (with_key (columns cells) n None) (columns cells') (child_of (columns cells) n) (length cells) r → Keyed before cells cells' r (size - 1) n None
    root_keyed pairs =
        subst (λ m. Keyed before cells cells' r m n None) (sym root_count)
        (made_keyed before cells cells' (with_key (columns cells) n None) r (λ j. times j k) (nodes k) n None (omega (arith, key_length cells)) refl
        (children_made before (columns cells) (columns cells') n r k h root_le (subst (λ F. Ordered before (columns cells).key F) f S.ordered).1 (subst (λ m. MeldsPairs before (with_key (columns cells) n None) (columns cells') (child_of (columns cells) n) m r) (sym (key_length cells)) pairs))
        (λ j d. omega (arith, root_le j, one_eq j n d))
        (λ j d. omega (arith, root_once j, one_other j n d)))

  pub root_removed : MeldsPairs before (with_key (columns cells) n None) (columns cells') (child_of (columns cells) n) (length cells) r → Keyed before cells cells' r (size - 1) n None
  root_removed = let top = tree_root (columns cells) root S.tree n S.rooted e in root_keyed top.0 top.1 top.2 top.3

-- The children of n are melded, and then what they made with the rest.
module _ {K : Type 0} (before : K → K → Bool) (t u v : Columns K) (top n : ℕ) (k : Forest) (x : Option ℕ) (sp : Split before t u top n k) (b : top < length t.key) (le : (j : ℕ) → one j top + (times j k + 0) ≤ 1) (pairs : MeldsPairs before (with_key u n None) v (child_of u n) (length u.key) x) where
  below_made : Made before (with_key u n None) v x (λ j. times j sp.below) (nodes sp.below)
  below_made = children_made before u v n x sp.below sp.children (λ j. omega (arith, le j, sp.count j)) (rw sp.keys sp.below_ordered) pairs

  pub keys_below : v.key ≡ set t.key n None
  keys_below = below_made.keys ∙ ap (λ y. set y n None) sp.keys

  rest_rooted : (root : Option ℕ) → root ≡ Some top → Rooted v root (node top sp.others nil)
  rest_rooted root e =
      rooted_frame u v (ap length below_made.keys ∙ length-set u.key n None) root (node top sp.others nil)
      (λ j c. let q = below_made.frame j (omega (arith, le j, sp.count j)) in record { child = q.child; next = q.next; back = q.back })
      (e, omega (arith, ap length sp.keys), sp.siblings)

  rest_ordered : Ordered before v.key (node top sp.others nil)
  rest_ordered = ordered_frame before t.key v.key (node top sp.others nil) (λ j c. ap (λ ys. get_or ys j None) keys_below ∙ get_or-set_other t.key n j None None (apart j n (omega (arith, le j, sp.count j)))) sp.others_ordered

  -- how often a ticket stands in the whole
  abbrev whole : ℕ → ℕ
  whole j = (one j top + (times j sp.others + 0)) + times j sp.below

  abbrev all : ℕ
  all = (1 + (nodes sp.others + 0)) + nodes sp.below

  pub whole_made : (w : Columns K) (root r : Option ℕ) → root ≡ Some top → Melds before v w root x r → Made before v w r whole all
  whole_made w root r e melds =
      let m = melds (node top sp.others nil) below_made.tree (rest_rooted root e) below_made.rooted (λ j. omega (arith, le j, sp.count j, below_made.count j)) rest_ordered (subst (λ y. Ordered before y below_made.tree) (sym below_made.keys) below_made.ordered) in
      record {
        tree = m.tree;
        rooted = m.rooted;
        count = λ j. m.count j ∙ omega (arith, below_made.count j);
        size = m.size ∙ omega (arith, below_made.size);
        ordered = m.ordered;
        keys = m.keys;
        frame = λ j z. m.frame j (omega (arith, below_made.count j));
      }

  pub whole_here : (j : ℕ) → j ≡ n → whole j ≡ 0
  whole_here j e = omega (arith, le j, sp.count j, one_eq j n e)

  pub whole_other : (j : ℕ) (bits : ℕ) → j ≢ n → one j top + (times j k + 0) ≡ bits → whole j ≡ bits
  whole_other j bits e f = omega (arith, sp.count j, one_other j n e)

  pub whole_size : (size : ℕ) → 1 + (nodes k + 0) ≡ size → size - 1 ≡ all
  whole_size size e = omega (arith, sp.size)

-- A ticket other than the root goes.
module _ {K : Type 0} (before : K → K → Bool) (cells c1 c2 cells' : List (Node K)) (root x r : Option ℕ) (size n : ℕ) (key : K) (ne : root ≡ Some n → ⊥) (cut : columns c1 ≡ without_tree (columns cells) n) (pairs : MeldsPairs before (with_key (columns c1) n None) (columns c2) (child_of (columns c1) n) (length c1) x) (melds : Melds before (columns c2) (columns cells') root x r) (S : Sound before cells root size) (held : key_of (columns cells) n ≡ Some key) where
  module _ (top : ℕ) (er : root ≡ Some top) (k : Forest) (f : S.tree ≡ node top k nil) (b : top < length (columns cells).key) (h : Leads (columns cells) top (child_of (columns cells) top) k) where
    once : (j : ℕ) → one j top + (times j k + 0) ≡ bit (key_of (columns cells) j)
    once j = ap (times j) (sym f) ∙ S.once j

    le : (j : ℕ) → one j top + (times j k + 0) ≤ 1
    le j = omega (arith, once j, bit_le (key_of (columns cells) j))

    n≢top : n ≢ top
    n≢top e = ne (er ∙ ap Some (sym e))

    split : Split before (columns cells) (columns c1) top n k
    split = split_tree before (columns cells) (cells_even cells) top n k b n≢top h le (subst (λ F. Ordered before (columns cells).key F) f S.ordered) (omega (arith, once n, ap bit held, one_other n top n≢top)) (columns c1) cut

    pairs' : MeldsPairs before (with_key (columns c1) n None) (columns c2) (child_of (columns c1) n) (length (columns c1).key) x
    pairs' = subst (λ m. MeldsPairs before (with_key (columns c1) n None) (columns c2) (child_of (columns c1) n) m x) (sym (key_length c1)) pairs

    inner_keyed : Keyed before cells cells' r (size - 1) n None
    inner_keyed =
        subst (λ m. Keyed before cells cells' r m n None) (sym (whole_size before (columns cells) (columns c1) (columns c2) top n k x split b le pairs' size (ap nodes (sym f) ∙ S.counted)))
        (made_keyed before cells cells' (columns c2) r _ _ n None (held_cell node_key cells n key held) (keys_below before (columns cells) (columns c1) (columns c2) top n k x split b le pairs')
        (whole_made before (columns cells) (columns c1) (columns c2) top n k x split b le pairs' (columns cells') root r er melds)
        (λ j e. whole_here before (columns cells) (columns c1) (columns c2) top n k x split b le pairs' j e)
        (λ j e. whole_other before (columns cells) (columns c1) (columns c2) top n k x split b le pairs' j _ e (once j)))

  pub inner_removed : Keyed before cells cells' r (size - 1) n None
  inner_removed =
      let some = some_root (columns cells) root S.tree n S.rooted (omega (arith, S.once n, ap bit held)) in
      let top = tree_root (columns cells) root S.tree some.0 S.rooted some.1 in
      inner_keyed some.0 some.1 top.0 top.1 top.2 top.3
