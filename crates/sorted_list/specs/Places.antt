-- Places in a list, counted from 0 at the rear, and the certificate numbers beside them.
use Rattle.std.specs.Prelude.{◌≡◌, ◌≢◌, ℕ, ◌+◌, ◌-◌, ◌<◌, List, length, Option, ◌==◌, unwrap_or, slice_index_or, position, true}
use Rattle.std.specs.List.{range_with_len}
use Rattle.fairway.specs.Behind.{behind}
use Rattle.fairway.specs.Times.{Time}
use Rattle.fairway.specs.declared.course.Course.{Course}

-- the place of the vessel n: of the first that has this number, or none
abbrev pub place_in : ℕ → List Course → Option ℕ
place_in n xs = position (λ x. x.number == n) xs

-- the vessels before the place i have other numbers than n
abbrev pub NoneBefore : List Course → ℕ → ℕ → Type 0
NoneBefore xs i n = (k : ℕ) (d : Course) → k < i → (slice_index_or xs k d).number ≢ n

-- the place where c is put: that of the first, from the rear, that it is behind, or in front of all
abbrev pub entry_place : Time → Course → List Course → ℕ
entry_place t c xs = unwrap_or (position (behind t c) xs) (length xs)

-- c is in front of the i-th's neighbour behind, and behind its neighbour in front, as far as it has them
abbrev pub Between : Time → List Course → ℕ → Course → Type 0
Between t xs i c =
    ((k : ℕ) (d : Course) → k + 1 ≡ i → behind t (slice_index_or xs k d) c ≡ true) ×
    ((d : Course) → i + 1 < length xs → behind t c (slice_index_or xs (i + 1) d) ≡ true)

-- certificate numbers: from the one before a place on, below an end
abbrev pub named_from : ℕ → ℕ → List ℕ
named_from place end = range_with_len (place - 1) (end - (place - 1))
