-- The keys in the cells of a queue, through a read, and through a change of one of them.
use Rattle.std.proofs.Common.{◌≡◌, ℕ, zero, suc, ◌<◌, min, ◌≢◌, List, [], ◌∷◌, map, length, get_or, set, take, Some, None, Ok, Err, Option, Result, refl, sym, ap, ◌∙◌, ⊎_elim, arith}
use Rattle.std.specs.Result.{result_ok}
use Rattle.std.proofs.lemmas.Bool.{cases_lt}
use Rattle.std.proofs.lemmas.List.{get_or-map, get_or-set_same, get_or-set_other, get_or-take, length-map, length-set}
use Rattle.event_queue.specs.Cells.{key_in, key_past}
use Rattle.event_queue.specs.Queues.{HeldBelow}
use Rattle.event_queue.specs.declared.refusal.Refusal.{Refusal}
use Rattle.event_queue.specs.declared.refusal.Refusal.TheVariants.{NoSuchTicket}
use Rattle.event_queue.proofs.Fronts.{length_64}
use Rattle.event_queue.proofs.Laws.{past_refused}

module _ {C K : Type 0} (key : C → Option K) where
  -- a ticket that holds a key is one of the cells
  pub held_cell : (cells : List C) (i : ℕ) (k : K) → key_in key cells i ≡ Some k → i < length cells
  held_cell cells i k e = ⊎_elim (λ h. h) (λ h. let p = key_past key cells i h in cc) (cases_lt i (length cells))

  -- the key of the ticket i became v
  module _ (cells cells' : List C) (i : ℕ) (v : Option K) (e : map key cells' ≡ set (map key cells) i v) where
    pub keyed_length : length cells' ≡ length cells
    keyed_length = sym (length-map cells' key) ∙ ap length e ∙ length-set (map key cells) i v ∙ length-map cells key

    pub keyed_there : i < length cells → key_in key cells' i ≡ v
    keyed_there h = ap (λ ks. get_or ks i None) e ∙ get_or-set_same (map key cells) i v None (omega (arith, length-map cells key))

    pub keyed_others : (j : ℕ) → j ≢ i → key_in key cells' j ≡ key_in key cells j
    keyed_others j h = ap (λ ks. get_or ks j None) e ∙ get_or-set_other (map key cells) i j v None h

  -- the same of the first 64 cells
  module _ (xs : List C) where
    in_64 : (n : ℕ) → n < min (length xs) 64 → n < length (take 64 xs)
    in_64 n h = omega (arith, length_64 xs)

    pub held_64 : (n : ℕ) (k : K) → key_in key (take 64 xs) n ≡ Some k → n < min (length xs) 64
    held_64 n k e = omega (arith, length_64 xs, held_cell (take 64 xs) n k e)

    pub key_64 : (n : ℕ) (answer : Option K) (cell : C) → answer ≡ key cell → cell ≡ get_or xs n cell → n < min (length xs) 64 → answer ≡ key_in key (take 64 xs) n
    key_64 n answer cell a e h = a ∙ ap key e ∙ sym (get_or-map key (take 64 xs) n cell None (in_64 n h) ∙ ap key (get_or-take 64 xs n cell (omega arith)))

    module _ (zs : List C) (n : ℕ) (v : Option K) (e : map key (take 64 zs) ≡ set (map key (take 64 xs)) n v) where
      pub capacity_64 : min (length zs) 64 ≡ min (length xs) 64
      capacity_64 = omega (arith, keyed_length (take 64 xs) (take 64 zs) n v e, length_64 xs, length_64 zs)

      pub there_64 : n < min (length xs) 64 → key_in key (take 64 zs) n ≡ v
      there_64 h = keyed_there (take 64 xs) (take 64 zs) n v e (in_64 n h)

    -- asked for a ticket that holds a key, `held` answers that key
    pub held_answers : (n : ℕ) (k : K) (r : Result (Option K) Refusal) → HeldBelow (min (length xs) 64) (key_in key (take 64 xs)) n r → key_in key (take 64 xs) n ≡ Some k → result_ok r ≡ Some (Some k)
    held_answers n k (Ok answer) h e = ap Some (h.1 ∙ e)
    held_answers n k (Err refusal) h e = absurd (omega (arith, past_refused NoSuchTicket refusal _ n h, held_64 n k e))

-- of cells that are cleared, none holds a key
module _ {C K : Type 0} (key : C → Option K) (cleared : C → C) (empties : (cell : C) → key (cleared cell) ≡ None) where
  pub cleared_none : (cells : List C) (i : ℕ) → key_in key (map cleared cells) i ≡ None
  cleared_none [] i = refl
  cleared_none (cell ∷ more) zero = empties cell
  cleared_none (cell ∷ more) (suc i) = cleared_none more i
