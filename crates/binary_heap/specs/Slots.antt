-- The cells of a binary heap, read by columns.
use Rattle.std.specs.Prelude.{◌≡◌, ℕ, ◌<◌, ◌≤◌, List, map, length, Some, None, Option, slice_index, slice_index_or, slice_set}
use Rattle.binary_heap.specs.declared.cell.Cell.{Cell}
use Rattle.binary_heap.specs.declared.slots.Entry.{Entry}

-- the key in a cell, or none
abbrev pub cell_key : {K : Type 0} → Cell K → Option K
cell_key c = c.key

-- the same cell with no key: its other fields are as they were
abbrev pub cell_cleared : {K : Type 0} → Cell K → Cell K
cell_cleared c = record { key = None; slot = c.slot; ticket = c.ticket; slot_key = c.slot_key }

-- By ticket number, the key that it holds and the slot in which it stands; by slot, the ticket there and its key.
pub record Columns (K : Type 0) : Type 0 where
  pub key : List (Option K)
  pub slot : List ℕ
  pub ticket : List ℕ
  pub slot_key : List (Option K)

abbrev pub columns : {K : Type 0} → List (Cell K) → Columns K
columns cells = record { key = map cell_key cells; slot = map (λ c. c.slot) cells; ticket = map (λ c. c.ticket) cells; slot_key = map (λ c. Some c.slot_key) cells }

abbrev pub key_of : {K : Type 0} → Columns K → ℕ → Option K
key_of t i = slice_index_or t.key i None

abbrev pub slot_of : {K : Type 0} → Columns K → ℕ → ℕ
slot_of t i = slice_index t.slot i

abbrev pub ticket_at : {K : Type 0} → Columns K → ℕ → ℕ
ticket_at t s = slice_index t.ticket s

-- the key in a slot; none only past the cells
unfoldable pub key_at : {K : Type 0} → Columns K → ℕ → Option K
key_at t s = slice_index_or t.slot_key s None

-- what is read of the slot s: the ticket there, and the key there
abbrev pub Reads : {K : Type 0} → Columns K → ℕ → Entry K → Type 0
Reads t s e = (e.ticket ≡ ticket_at t s) × (key_at t s ≡ Some e.key)

-- the tickets in the first n slots have cells
abbrev pub Within : {K : Type 0} → Columns K → ℕ → Type 0
Within t n = (s : ℕ) → s < n → ticket_at t s < length t.key

-- the ticket i holds k
abbrev pub with_key : {K : Type 0} → Columns K → ℕ → Option K → Columns K
with_key t i k = record { key = slice_set t.key i k; slot = t.slot; ticket = t.ticket; slot_key = t.slot_key }

-- the slot s names the ticket i, and the key k
abbrev pub with_entry : {K : Type 0} → Columns K → ℕ → ℕ → Option K → Columns K
with_entry t s i k = record { key = t.key; slot = t.slot; ticket = slice_set t.ticket s i; slot_key = slice_set t.slot_key s k }

-- the ticket i names the slot s
abbrev pub with_slot : {K : Type 0} → Columns K → ℕ → ℕ → Columns K
with_slot t i s = record { key = t.key; slot = slice_set t.slot i s; ticket = t.ticket; slot_key = t.slot_key }

-- the ticket i stands in the slot s, with the key k
abbrev pub seated : {K : Type 0} → Columns K → ℕ → ℕ → Option K → Columns K
seated t s i k = record { key = t.key; slot = slice_set t.slot i s; ticket = slice_set t.ticket s i; slot_key = slice_set t.slot_key s k }

-- the ticket in the slot s holds a key, which stands in the slot too, and knows its slot
pub record Seat {K : Type 0} (t : Columns K) (s : ℕ) : Type 0 where
  pub cell : ticket_at t s < length t.key
  pub slot : slot_of t (ticket_at t s) ≡ s
  pub key : K
  pub holds : key_of t (ticket_at t s) ≡ Some key
  pub slot_key : key_at t s ≡ Some key

-- The first n slots are taken by the tickets that hold a key, each in the slot that it knows.
pub record Linked {K : Type 0} (t : Columns K) (n : ℕ) : Type 0 where
  pub room : n ≤ length t.key
  pub seats : (s : ℕ) → s < n → Seat t s
  pub within : (i : ℕ) (k : K) → key_of t i ≡ Some k → slot_of t i < n
  pub there : (i : ℕ) (k : K) → key_of t i ≡ Some k → ticket_at t (slot_of t i) ≡ i
