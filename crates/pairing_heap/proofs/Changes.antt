-- A change of one ticket's key.
use Rattle.std.proofs.Common.{◌≡◌, ℕ, ◌<◌, Bool, ◌≢◌, List, length, get_or, set, None, Option, sym, ap, ◌∙◌, subst, ⊎_elim, arith}
use Rattle.std.proofs.lemmas.Bool.{cases_eq}
use Rattle.pairing_heap.specs.declared.node.Node.{Node}
use Rattle.pairing_heap.specs.Links.{Columns, columns, key_of}
use Rattle.pairing_heap.specs.Forests.{Ordered}
use Rattle.pairing_heap.specs.Melds.{Made}
use Rattle.pairing_heap.specs.Sound.{bit, Keyed}
use Rattle.pairing_heap.proofs.Columns.{key_length}
use Rattle.pairing_heap.proofs.Counting.{bit_here, bit_other}

-- a tree of the tickets that hold a key, after the key of n became v
pub made_keyed : {K : Type 0} (before : K → K → Bool) (cells cells' : List (Node K)) (t : Columns K) (root : Option ℕ) (f : ℕ → ℕ) (m n : ℕ) (v : Option K) → n < length cells → t.key ≡ set (columns cells).key n v → Made before t (columns cells') root f m → ((j : ℕ) → j ≡ n → f j ≡ bit v) → ((j : ℕ) → j ≢ n → f j ≡ bit (key_of (columns cells) j)) → Keyed before cells cells' root m n v
made_keyed before cells cells' t root f m n v h e M here other =
    let ks : (columns cells').key ≡ set (columns cells).key n v = M.keys ∙ e in
    let b : n < length (columns cells).key = omega (arith, key_length cells) in
    record {
      sound = record {
        tree = M.tree;
        rooted = M.rooted;
        once = λ j. M.count j ∙ ⊎_elim (λ d. here j d ∙ sym (bit_here (columns cells).key n j v b d)) (λ d. other j d ∙ sym (bit_other (columns cells).key n j v d)) (cases_eq j n) ∙ ap (λ x. bit (get_or x j None)) (sym ks);
        ordered = subst (λ x. Ordered before x M.tree) (sym M.keys) M.ordered;
        counted = M.size;
      };
      keys = ks;
    }
