-- The cells of a pairing heap, read by columns, and what a change of links makes of them.
use Rattle.std.specs.Prelude.{ℕ, Bool, cond, List, map, Some, None, Option, ◌==◌, slice_index_or, slice_set}
use Rattle.std.specs.Option.{option_eq}
use Rattle.pairing_heap.specs.declared.node.Node.{Node}

-- the key in a cell, or none
abbrev pub node_key : {K : Type 0} → Node K → Option K
node_key c = c.key

-- the same cell with no key: its links are as they were
abbrev pub node_cleared : {K : Type 0} → Node K → Node K
node_cleared c = record { key = None; child = c.child; next = c.next; back = c.back }

-- By ticket number, the key that it holds, its first child, its next sibling, and what stands before it.
pub record Columns (K : Type 0) : Type 0 where
  pub key : List (Option K)
  pub child : List (Option ℕ)
  pub next : List (Option ℕ)
  pub back : List (Option ℕ)

abbrev pub columns : {K : Type 0} → List (Node K) → Columns K
columns cells = record { key = map node_key cells; child = map (λ c. c.child) cells; next = map (λ c. c.next) cells; back = map (λ c. c.back) cells }

abbrev pub key_of : {K : Type 0} → Columns K → ℕ → Option K
key_of t i = slice_index_or t.key i None

abbrev pub child_of : {K : Type 0} → Columns K → ℕ → Option ℕ
child_of t i = slice_index_or t.child i None

abbrev pub next_of : {K : Type 0} → Columns K → ℕ → Option ℕ
next_of t i = slice_index_or t.next i None

abbrev pub back_of : {K : Type 0} → Columns K → ℕ → Option ℕ
back_of t i = slice_index_or t.back i None

-- a list written at the number that a link leads to
abbrev pub set_at : {X : Type 0} → List X → Option ℕ → X → List X
set_at xs None v = xs
set_at xs (Some i) v = slice_set xs i v

-- the ticket i holds k
abbrev pub with_key : {K : Type 0} → Columns K → ℕ → Option K → Columns K
with_key t i k = record { key = slice_set t.key i k; child = t.child; next = t.next; back = t.back }

-- the first child of the ticket i is that of the link
abbrev pub with_child : {K : Type 0} → Columns K → ℕ → Option ℕ → Columns K
with_child t i link = record { key = t.key; child = slice_set t.child i link; next = t.next; back = t.back }

-- the next sibling of the ticket i is that of the link
abbrev pub with_next : {K : Type 0} → Columns K → ℕ → Option ℕ → Columns K
with_next t i link = record { key = t.key; child = t.child; next = slice_set t.next i link; back = t.back }

-- before the ticket of the link, if there is one, stands i
abbrev pub with_back : {K : Type 0} → Columns K → Option ℕ → ℕ → Columns K
with_back t link i = record { key = t.key; child = t.child; next = t.next; back = set_at t.back link (Some i) }

-- the ticket c is the first child of the ticket p
abbrev pub linked : {K : Type 0} → Columns K → ℕ → ℕ → Columns K
linked t p c = record { key = t.key; child = slice_set t.child p (Some c); next = slice_set t.next c (child_of t p); back = slice_set (set_at t.back (child_of t p) (Some c)) c (Some p) }

abbrev pub leads_to : Option ℕ → ℕ → Bool
leads_to link n = option_eq ◌==◌ link (Some n)

-- what led from the ticket p to the ticket n leads to the ticket of the link
abbrev pub bypassed : {K : Type 0} → Columns K → ℕ → ℕ → Option ℕ → Columns K
bypassed t p n link = record {
  key = t.key;
  child = cond (leads_to (child_of t p) n) (slice_set t.child p link) t.child;
  next = cond (leads_to (child_of t p) n) t.next (slice_set t.next p link);
  back = t.back;
}

-- the tree of the ticket n is taken out of its row, where the link leads to what stands before n
abbrev pub taken_from : {K : Type 0} → Columns K → ℕ → Option ℕ → Columns K
taken_from t n None = t
taken_from t n (Some p) = with_back (bypassed t p n (next_of t n)) (next_of t n) p

-- the tree of the ticket n is taken out of its row: what stands before n is read off its back link
abbrev pub without_tree : {K : Type 0} → Columns K → ℕ → Columns K
without_tree t n = taken_from t n (back_of t n)
