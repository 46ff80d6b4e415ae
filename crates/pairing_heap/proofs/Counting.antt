-- How many tickets a forest has: as many as hold a key.
use Rattle.std.proofs.Common.{◌≡◌, ℕ, zero, suc, ◌+◌, ◌<◌, ◌≤◌, Bool, cond, List, length, get_or, set, is_some, Some, None, Option, sym, refl, ap, ◌∙◌, ⊎_elim, arith}
use Rattle.std.proofs.lemmas.Bool.{cases_eq}
use Rattle.std.proofs.lemmas.List.{get_or-set_same, get_or-set_other}
use Rattle.event_queue.specs.Queues.{count_below}
use Rattle.pairing_heap.specs.declared.node.Node.{Node}
use Rattle.pairing_heap.specs.Links.{Columns, columns, key_of}
use Rattle.pairing_heap.specs.Forests.{Forest, nil, node, one, times, nodes, Leads, Rooted}
use Rattle.pairing_heap.specs.Sound.{bit, Sound}
use Rattle.pairing_heap.proofs.Columns.{key_length}
use Rattle.pairing_heap.proofs.Trees.{one_eq, one_other}

-- the sum of f at the numbers below n
abbrev pub sum_below : (ℕ → ℕ) → ℕ → ℕ
sum_below f zero = 0
sum_below f (suc n) = f n + sum_below f n

sum_same : (f g : ℕ → ℕ) → ((j : ℕ) → f j ≡ g j) → (n : ℕ) → sum_below f n ≡ sum_below g n
sum_same f g e zero = refl
sum_same f g e (suc n) = omega (arith, e n, sum_same f g e n)

sum_add : (f g : ℕ → ℕ) (n : ℕ) → sum_below (λ j. f j + g j) n ≡ sum_below f n + sum_below g n
sum_add f g zero = refl
sum_add f g (suc n) = omega (arith, sum_add f g n)

sum_le : (f : ℕ → ℕ) → ((j : ℕ) → f j ≤ 1) → (n : ℕ) → sum_below f n ≤ n
sum_le f h zero = omega arith
sum_le f h (suc n) = omega (arith, h n, sum_le f h n)

sum_none : (n : ℕ) → sum_below (λ j. 0) n ≡ 0
sum_none zero = refl
sum_none (suc n) = omega (arith, sum_none n)

sum_past : (i n : ℕ) → n ≤ i → sum_below (λ j. one j i) n ≡ 0
sum_past i zero h = refl
sum_past i (suc n) h = omega (arith, one_other n i (λ e. omega arith), sum_past i n (omega arith))

sum_one : (i n : ℕ) → i < n → sum_below (λ j. one j i) n ≡ 1
sum_one i zero h = absurd (omega arith)
sum_one i (suc n) h = ⊎_elim (λ e. omega (arith, one_eq n i e, sum_past i n (omega arith))) (λ e. omega (arith, one_other n i e, sum_one i n (omega arith))) (cases_eq n i)

sum_count : (f : ℕ → Bool) (n : ℕ) → sum_below (λ j. cond (f j) 1 0) n ≡ count_below f n
sum_count f zero = refl
sum_count f (suc n) = omega (arith, sum_count f n)

-- each ticket of a forest is counted where it stands
nodes_sum : {K : Type 0} (t : Columns K) (p : ℕ) (link : Option ℕ) (F : Forest) → Leads t p link F → sum_below (λ j. times j F) (length t.key) ≡ nodes F
nodes_sum t p link nil h = sum_none (length t.key)
nodes_sum t p link (node a k r) h =
    let n = length t.key in
    omega (arith, sum_add (λ j. one j a) (λ j. times j k + times j r) n, sum_add (λ j. times j k) (λ j. times j r) n, sum_one a n h.1, nodes_sum t a _ k h.3, nodes_sum t a _ r h.4)

tree_sum : {K : Type 0} (t : Columns K) (link : Option ℕ) (F : Forest) → Rooted t link F → sum_below (λ j. times j F) (length t.key) ≡ nodes F
tree_sum t link nil h = sum_none (length t.key)
tree_sum t link (node a k (node x y z)) h = absurd h
tree_sum t link (node a k nil) h =
    let n = length t.key in
    omega (arith, sum_add (λ j. one j a) (λ j. times j k + 0) n, sum_add (λ j. times j k) (λ j. 0) n, sum_one a n h.1, nodes_sum t a _ k h.2, sum_none n)

-- a forest with no ticket twice has no more tickets than there are cells
pub nodes_le : {K : Type 0} (t : Columns K) (p : ℕ) (link : Option ℕ) (F : Forest) → Leads t p link F → ((j : ℕ) → times j F ≤ 1) → nodes F ≤ length t.key
nodes_le t p link F h once = omega (arith, nodes_sum t p link F h, sum_le (λ j. times j F) once (length t.key))

-- which tickets hold a key, after one of them got one or lost it

pub bit_le : {K : Type 0} (o : Option K) → bit o ≤ 1
bit_le (Some k) = omega arith
bit_le None = omega arith

pub bit_here : {K : Type 0} (keys : List (Option K)) (n j : ℕ) (v : Option K) → n < length keys → j ≡ n → bit (get_or (set keys n v) j None) ≡ bit v
bit_here keys n j v h e = ap (λ x. bit (get_or (set keys n v) x None)) e ∙ ap bit (get_or-set_same keys n v None h)

pub bit_other : {K : Type 0} (keys : List (Option K)) (n j : ℕ) (v : Option K) → (j ≡ n → ⊥) → bit (get_or (set keys n v) j None) ≡ bit (get_or keys j None)
bit_other keys n j v e = ap bit (get_or-set_other keys n j v None e)

module _ {K : Type 0} (before : K → K → Bool) (cells : List (Node K)) (root : Option ℕ) (size : ℕ) (S : Sound before cells root size) where
  sound_sum : size ≡ sum_below (λ i. bit (key_of (columns cells) i)) (length cells)
  sound_sum = sym S.counted ∙ sym (tree_sum (columns cells) root S.tree S.rooted) ∙ sum_same _ _ S.once (length (columns cells).key) ∙ ap (sum_below (λ i. bit (key_of (columns cells) i))) (key_length cells)

  -- the size of a sound heap counts the tickets that hold a key
  pub sound_count : size ≡ count_below (λ i. is_some (key_of (columns cells) i)) (length cells)
  sound_count = sound_sum ∙ sum_count (λ i. is_some (key_of (columns cells) i)) (length cells)

  pub sound_le : size ≤ length cells
  sound_le = omega (arith, sound_sum, sum_le (λ i. bit (key_of (columns cells) i)) (λ i. bit_le (key_of (columns cells) i)) (length cells))
