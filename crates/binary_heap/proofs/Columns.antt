-- The columns of the cells, through a read and a write.
use Rattle.std.proofs.Common.{◌≡◌, ℕ, ◌<◌, List, length, get_or, set, Some, None, Option, refl}
use Rattle.event_queue.proofs.Columns.{map_kept}
use Rattle.std.proofs.lemmas.List.{map-set, length-map, get_or-map}
use Rattle.binary_heap.specs.Slots.{Columns, columns, slot_of, ticket_at, key_at, with_key, with_entry, with_slot}
use Rattle.binary_heap.specs.declared.cell.Cell.{Cell}

pub columns_from : {K : Type 0} {k k' : List (Option K)} {s s' i i' : List ℕ} {r r' : List (Option K)} → k ≡ k' → s ≡ s' → i ≡ i' → r ≡ r' → ◌≡◌ {A = Columns K} (record { key = k; slot = s; ticket = i; slot_key = r }) (record { key = k'; slot = s'; ticket = i'; slot_key = r' })
columns_from e f g h = rw (e, f, g, h)

module _ {K : Type 0} (cells : List (Cell K)) where
  pub key_length : length (columns cells).key ≡ length cells
  key_length = length-map cells (λ c. c.key)

  pub slot_length : length (columns cells).slot ≡ length cells
  slot_length = length-map cells (λ c. c.slot)

  pub ticket_length : length (columns cells).ticket ≡ length cells
  ticket_length = length-map cells (λ c. c.ticket)

  pub slot_key_length : length (columns cells).slot_key ≡ length cells
  slot_key_length = length-map cells (λ c. Some c.slot_key)

  module _ (i : ℕ) (d : Cell K) where
    pub key_set : (k : Option K) → columns (set cells i (record { key = k; slot = (get_or cells i d).slot; ticket = (get_or cells i d).ticket; slot_key = (get_or cells i d).slot_key })) ≡ with_key (columns cells) i k
    key_set k = columns_from (map-set (λ c. c.key) cells i _) (map_kept (λ c. c.slot) cells i d _ refl) (map_kept (λ c. c.ticket) cells i d _ refl) (map_kept (λ c. Some c.slot_key) cells i d _ refl)

    pub slot_set : (s : ℕ) → columns (set cells i (record { key = (get_or cells i d).key; slot = s; ticket = (get_or cells i d).ticket; slot_key = (get_or cells i d).slot_key })) ≡ with_slot (columns cells) i s
    slot_set s = columns_from (map_kept (λ c. c.key) cells i d _ refl) (map-set (λ c. c.slot) cells i _) (map_kept (λ c. c.ticket) cells i d _ refl) (map_kept (λ c. Some c.slot_key) cells i d _ refl)

    pub entry_set : (t : ℕ) (k : K) → columns (set cells i (record { key = (get_or cells i d).key; slot = (get_or cells i d).slot; ticket = t; slot_key = k })) ≡ with_entry (columns cells) i t (Some k)
    entry_set t k = columns_from (map_kept (λ c. c.key) cells i d _ refl) (map_kept (λ c. c.slot) cells i d _ refl) (map-set (λ c. c.ticket) cells i _) (map-set (λ c. Some c.slot_key) cells i _)

    module _ (h : i < length cells) where
      pub ticket_read : ticket_at (columns cells) i ≡ (get_or cells i d).ticket
      ticket_read = get_or-map (λ c. c.ticket) cells i d 0 h

      pub slot_read : slot_of (columns cells) i ≡ (get_or cells i d).slot
      slot_read = get_or-map (λ c. c.slot) cells i d 0 h

      pub slot_key_read : key_at (columns cells) i ≡ Some (get_or cells i d).slot_key
      unfolding key_at
      slot_key_read = get_or-map (λ c. Some c.slot_key) cells i d None h
