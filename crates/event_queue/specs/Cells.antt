-- Cells that a queue is lent: the cell i holds the key of the ticket i, or none, which `key` reads.
use Rattle.std.specs.Prelude.{◌≡◌, ℕ, ◌≤◌, min, Bool, false, List, map, length, take, Some, None, Option, slice_index_or}
use Rattle.std.proofs.Common.{sym, subst, arith, length-take}
use Rattle.std.proofs.lemmas.List.{length-map}
use Rattle.std.proofs.Math.ListN.{get_or-eq_default}

module _ {C K : Type 0} (key : C → Option K) where
  -- the key of the ticket i
  abbrev pub key_in : List C → ℕ → Option K
  key_in cells i = slice_index_or (map key cells) i None

  -- past the cells no key is held
  pub key_past : (cells : List C) (i : ℕ) → length cells ≤ i → key_in cells i ≡ None
  key_past cells i h = get_or-eq_default (map key cells) None (subst (λ m. m ≤ i) (sym (length-map cells key)) h)

  -- past the first 64 cells neither
  pub past_64 : (cells : List C) (i : ℕ) → min (length cells) 64 ≤ i → key_in (take 64 cells) i ≡ None
  past_64 cells i h = key_past (take 64 cells) i (simp length-take (omega arith))

  -- a ticket with its key, which has none before it, or none where no ticket holds a key
  abbrev pub Earliest : (K → K → Bool) → List C → Option (ℕ × K) → Type 0
  Earliest before cells (Some first) = (key_in cells first.0 ≡ Some first.1) × ((i : ℕ) (k : K) → key_in cells i ≡ Some k → before k first.1 ≡ false)
  Earliest before cells None = (i : ℕ) → key_in cells i ≡ None
