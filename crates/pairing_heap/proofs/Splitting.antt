-- The tree of a ticket, taken out from below the root: what is left, and what stood below the ticket.
use Rattle.std.proofs.Common.{◌≡◌, ℕ, ◌+◌, ◌<◌, ◌≤◌, Bool, ◌≢◌, ◌⊎◌, length, get_or, Some, None, sym, refl, ap, ◌∙◌, subst, inl, ⊎_elim, arith}
use Rattle.pairing_heap.specs.Links.{Columns, child_of, next_of, back_of, taken_from, without_tree}
use Rattle.pairing_heap.specs.Forests.{Forest, nil, node, one, times, nodes, Leads, Ordered}
use Rattle.pairing_heap.specs.Melds.{Same}
use Rattle.pairing_heap.proofs.Columns.{Even}
use Rattle.pairing_heap.proofs.Cutting.{past, without, child_past, child_kept, next_kept, back_kept, cut_leads, none_sooner_without, ordered_without, Found, find}
use Rattle.event_queue.proofs.Options.{same_some}
use Rattle.pairing_heap.proofs.Trees.{one_same, first_apart, first_back, leads_frame}

-- the children of the root, without the tree of n, and the children of n
pub record Split {K : Type 0} (before : K → K → Bool) (t u : Columns K) (root n : ℕ) (k : Forest) : Type 0 where
  pub others : Forest
  pub below : Forest
  pub siblings : Leads u root (child_of u root) others
  pub children : Leads u n (child_of u n) below
  pub count : (j : ℕ) → times j k ≡ times j others + (one j n + times j below)
  pub size : nodes k ≡ nodes others + (1 + nodes below)
  pub others_ordered : Ordered before t.key (node root others nil)
  pub below_ordered : Ordered before t.key below
  pub keys : u.key ≡ t.key

-- The tree of n is cut out from below the root.
module _ {K : Type 0} (before : K → K → Bool) (t : Columns K) (even : Even t) (root n : ℕ) (k : Forest) (br : root < length t.key) (ne : n ≢ root) (h : Leads t root (child_of t root) k) (le : (j : ℕ) → one j root + (times j k + 0) ≤ 1) (o : Ordered before t.key (node root k nil)) where
  lek : (j : ℕ) → times j k ≤ 1
  lek j = omega (arith, le j)

  module _ (f : Found before t n root (child_of t root) k) where
    bp : f.prior < length t.key
    bp = ⊎_elim (λ e. omega (arith, e.0)) (λ e. e.1) f.place

    there : (child_of t f.prior ≡ Some n) ⊎ (next_of t f.prior ≡ Some n)
    there = ⊎_elim (λ e. inl (ap (child_of t) e.0 ∙ e.1)) (λ e. e.2) f.place

    after : (i : ℕ) → next_of t n ≡ Some i → back_of t i ≡ Some n
    after i e = first_back t n (next_of t n) f.beside i f.siblings e

    off : (j : ℕ) → 0 < times j f.below → j ≢ f.prior
    off j c e =
        ⊎_elim
        (λ g. omega (arith, ap (λ y. times y k) (e ∙ g.0), le root, one_same root, f.count j))
        (λ g. omega (arith, g.0, ap (λ y. times y (without n k)) e, f.count j, lek j))
        f.place

    n≢p : n ≢ f.prior
    n≢p e = ⊎_elim (λ g. ne (e ∙ g.0)) (λ g. omega (arith, g.0, ap (λ y. times y (without n k)) e, f.count n, one_same n, lek n)) f.place

    kept : (j : ℕ) → 0 < times j f.below → Same t (taken_from t n (Some f.prior)) j
    kept j c = record {
      child = child_kept t even n f.prior bp f.is there after j (off j c);
      next = next_kept t even n f.prior bp f.is there after j (off j c);
      back = back_kept t even n f.prior bp f.is there after j (first_apart t n (next_of t n) f.beside j (omega (arith, f.inside j, f.count j, lek j)) f.siblings);
    }

    rest_leads : Leads (taken_from t n (Some f.prior)) root (past n (next_of t n) (child_of t root)) (without n k)
    rest_leads = cut_leads t even n f.prior bp f.is there after root (child_of t root) k h (λ e. ne (sym e)) (omega (arith, le root, one_same root)) lek

    root_child : child_of (taken_from t n (Some f.prior)) root ≡ past n (next_of t n) (child_of t root)
    root_child = child_past t even n f.prior bp f.is there after root (λ e. same_some (back_of t n) root f.prior (first_back t root (child_of t root) k n h e) f.is)

    split_found : Split before t (taken_from t n (Some f.prior)) root n k
    split_found = record {
      others = without n k;
      below = f.below;
      siblings = subst (λ l. Leads (taken_from t n (Some f.prior)) root l (without n k)) (sym root_child) rest_leads;
      children = subst (λ l. Leads (taken_from t n (Some f.prior)) n l f.below) (sym (child_kept t even n f.prior bp f.is there after n n≢p)) (leads_frame t (taken_from t n (Some f.prior)) refl n (child_of t n) f.below kept f.children);
      count = f.count;
      size = f.size;
      others_ordered = (none_sooner_without before t.key n (get_or t.key root None) k o.0, ordered_without before t.key n k o.1, tt);
      below_ordered = f.ordered o.1;
      keys = refl;
    }

  pub split_tree : 0 < times n k → (u : Columns K) → u ≡ without_tree t n → Split before t u root n k
  split_tree c u e =
      let f = find before t n root (child_of t root) k h lek c in
      subst (λ v. Split before t v root n k) (sym (e ∙ ap (taken_from t n) f.is)) (split_found f)
