-- The columns of the cells, through a read and a write.
use Rattle.std.proofs.Common.{◌≡◌, ℕ, ◌≤◌, true, false, List, length, get_or, set, Some, None, Option, sym, refl, ap, ◌∙◌, arith}
use Rattle.event_queue.proofs.Columns.{map_kept, map_past}
use Rattle.std.proofs.lemmas.List.{map-set, length-map, get_or_past}
use Rattle.pairing_heap.specs.Links.{Columns, columns, child_of, next_of, back_of, with_key, with_child, with_next, with_back, linked, leads_to, bypassed, taken_from, without_tree}
use Rattle.pairing_heap.specs.declared.node.Node.{Node}

columns_from : {K : Type 0} {k k' : List (Option K)} {c c' n n' b b' : List (Option ℕ)} → k ≡ k' → c ≡ c' → n ≡ n' → b ≡ b' → ◌≡◌ {A = Columns K} (record { key = k; child = c; next = n; back = b }) (record { key = k'; child = c'; next = n'; back = b' })
columns_from e f g h = rw (e, f, g, h)

-- the columns are equally long
pub record Even {K : Type 0} (t : Columns K) : Type 0 where
  pub child : length t.child ≡ length t.key
  pub next : length t.next ≡ length t.key
  pub back : length t.back ≡ length t.key

module _ {K : Type 0} (cells : List (Node K)) where
  pub key_length : length (columns cells).key ≡ length cells
  key_length = length-map cells (λ c. c.key)

  pub cells_even : Even (columns cells)
  cells_even = record { child = simp length-map; next = simp length-map; back = simp length-map }

  module _ (i : ℕ) (d : Node K) where
    pub key_set : (k : Option K) → columns (set cells i (record { key = k; child = (get_or cells i d).child; next = (get_or cells i d).next; back = (get_or cells i d).back })) ≡ with_key (columns cells) i k
    key_set k = columns_from (map-set (λ c. c.key) cells i _) (map_kept (λ c. c.child) cells i d _ refl) (map_kept (λ c. c.next) cells i d _ refl) (map_kept (λ c. c.back) cells i d _ refl)

    pub child_set : (v : Option ℕ) → columns (set cells i (record { key = (get_or cells i d).key; child = v; next = (get_or cells i d).next; back = (get_or cells i d).back })) ≡ with_child (columns cells) i v
    child_set v = columns_from (map_kept (λ c. c.key) cells i d _ refl) (map-set (λ c. c.child) cells i _) (map_kept (λ c. c.next) cells i d _ refl) (map_kept (λ c. c.back) cells i d _ refl)

    pub next_set : (v : Option ℕ) → columns (set cells i (record { key = (get_or cells i d).key; child = (get_or cells i d).child; next = v; back = (get_or cells i d).back })) ≡ with_next (columns cells) i v
    next_set v = columns_from (map_kept (λ c. c.key) cells i d _ refl) (map_kept (λ c. c.child) cells i d _ refl) (map-set (λ c. c.next) cells i _) (map_kept (λ c. c.back) cells i d _ refl)

    pub back_set : (v : ℕ) → columns (set cells i (record { key = (get_or cells i d).key; child = (get_or cells i d).child; next = (get_or cells i d).next; back = Some v })) ≡ with_back (columns cells) (Some i) v
    back_set v = columns_from (map_kept (λ c. c.key) cells i d _ refl) (map_kept (λ c. c.child) cells i d _ refl) (map_kept (λ c. c.next) cells i d _ refl) (map-set (λ c. c.back) cells i _)

  -- past the cells there is nothing, and a write does nothing
  module _ (i : ℕ) (h : length cells ≤ i) where
    pub child_past : child_of (columns cells) i ≡ None
    child_past = get_or_past (columns cells).child i None (omega (arith, key_length, cells_even.child))

    pub next_past : next_of (columns cells) i ≡ None
    next_past = get_or_past (columns cells).next i None (omega (arith, key_length, cells_even.next))

    pub key_unset : (k : Option K) → columns cells ≡ with_key (columns cells) i k
    key_unset k = columns_from (map_past (λ c. c.key) cells i k h) refl refl refl

    pub child_unset : (v : Option ℕ) → columns cells ≡ with_child (columns cells) i v
    child_unset v = columns_from refl (map_past (λ c. c.child) cells i v h) refl refl

    pub next_unset : (v : Option ℕ) → columns cells ≡ with_next (columns cells) i v
    next_unset v = columns_from refl refl (map_past (λ c. c.next) cells i v h) refl

    pub back_unset : (v : ℕ) → columns cells ≡ with_back (columns cells) (Some i) v
    back_unset v = columns_from refl refl refl (map_past (λ c. c.back) cells i (Some v) h)

-- several writes, as the code makes them

pub link_columns : {K : Type 0} (t t1 t2 t3 t4 : Columns K) (p c : ℕ) (first : Option ℕ) → first ≡ child_of t p → t1 ≡ with_next t c first → t2 ≡ with_back t1 first c → t3 ≡ with_child t2 p (Some c) → t4 ≡ with_back t3 (Some c) p → t4 ≡ linked t p c
link_columns t t1 t2 t3 t4 p c first e e1 e2 e3 e4 =
    e4 ∙ ap (λ u. with_back u (Some c) p) (e3 ∙ ap (λ u. with_child u p (Some c)) (e2 ∙ ap (λ u. with_back u first c) e1)) ∙ ap (λ link. with_back (with_child (with_back (with_next t c link) link c) p (Some c)) (Some c) p) e

module _ {K : Type 0} (t u : Columns K) (p n : ℕ) (next : Option ℕ) where
  pub bypass_child : leads_to (child_of t p) n ≡ true → u ≡ with_child t p next → u ≡ bypassed t p n next
  bypass_child e f = f ∙ columns_from refl (rw e) (rw e) refl

  pub bypass_next : leads_to (child_of t p) n ≡ false → u ≡ with_next t p next → u ≡ bypassed t p n next
  bypass_next e f = f ∙ columns_from refl (rw e) (rw e) refl

pub cut_columns : {K : Type 0} (t u v : Columns K) (p n : ℕ) (next : Option ℕ) → back_of t n ≡ Some p → next ≡ next_of t n → u ≡ bypassed t p n next → v ≡ with_back u next p → v ≡ without_tree t n
cut_columns t u v p n next e f eu ev =
    ev ∙ ap (λ w. with_back w next p) eu ∙ ap (λ link. with_back (bypassed t p n link) link p) f ∙ ap (taken_from t n) (sym e)

pub cut_nothing : {K : Type 0} (t : Columns K) (n : ℕ) → back_of t n ≡ None → t ≡ without_tree t n
cut_nothing t n e = ap (taken_from t n) (sym e)
