-- The list after each change, and the certificate numbers that the change answers, in every state: also while
-- something is due.
use Rattle.std.specs.Prelude.{◌≡◌, ℕ, ◌+◌, ◌⊎◌, List, length, slice_set, swap, min, max, Some, Ok, Err, Result}
use Rattle.fairway.specs.Times.{Time}
use Rattle.fairway.specs.Orders.{put}
use Rattle.fairway.specs.Rosters.{without}
use Rattle.fairway.specs.declared.course.Course.{Course}
use Rattle.kinetic.specs.declared.numbers.Numbers.{Numbers}
use Rattle.kinetic.specs.declared.refusal.Refusal.{Refusal}
use Rattle.sorted_list.specs.Places.{place_in, entry_place, named_from, Between}
use Rattle.sorted_list.specs.Questions.{courses_of}
use Rattle.sorted_list.specs.declared.list.SortedList.{SortedList}

-- an entry puts c before the first, from the rear, that it is behind
pub record PutIn (t : Time) (xs ys : List Course) (c : Course) (named : List ℕ) : Type 0 where
  pub courses : ys ≡ put t c xs
  pub names : named ≡ named_from (entry_place t c xs) (length xs)

-- a leave takes the vessel n out of its place i, and the others stay in their order
pub record TakenOut (xs ys : List Course) (n i : ℕ) (named : List ℕ) : Type 0 where
  pub place : place_in n xs ≡ Some i
  pub courses : ys ≡ without n xs
  pub names : named ≡ named_from i (length ys)

-- A steering of the vessel at the place i: between its neighbours it keeps the place, and no other moves.
pub record KeptPlace (t : Time) (xs ys : List Course) (c : Course) (i : ℕ) (named : List ℕ) : Type 0 where
  pub between : Between t xs i c
  pub courses : ys ≡ slice_set xs i c
  pub names : named ≡ named_from i (i + 1)

-- Otherwise it is taken out, and put in like an entrant, at the place j of the list without it.
pub record ChangedPlace (t : Time) (xs ys : List Course) (c : Course) (i j : ℕ) (named : List ℕ) : Type 0 where
  pub not_between : Between t xs i c → ⊥
  pub courses : ys ≡ put t c (without c.number xs)
  pub names : named ≡ named_from (min i j) (max i j + 1)

-- a mend exchanges the vessels at the places i and i + 1
pub record SwappedAt (xs ys : List Course) (i : ℕ) (named : List ℕ) : Type 0 where
  pub courses : ys ≡ swap xs i (i + 1)
  pub names : named ≡ named_from i (i + 2)

-- ---- of the four calls; a refused call leaves the list as it was

abbrev pub EntryPuts : Time → SortedList → SortedList → Course → Result Numbers Refusal → Type 0
EntryPuts t s s' c (Ok named) = PutIn t (courses_of s) (courses_of s') c named
EntryPuts t s s' c (Err e) = s' ≡ s

abbrev pub LeaveTakes : SortedList → SortedList → ℕ → Result Numbers Refusal → Type 0
LeaveTakes s s' n (Ok named) = (i : ℕ) × TakenOut (courses_of s) (courses_of s') n i named
LeaveTakes s s' n (Err e) = s' ≡ s

abbrev pub SteerMoves : Time → SortedList → SortedList → Course → Result Numbers Refusal → Type 0
SteerMoves t s s' c (Ok named) =
    let xs = courses_of s in
    let ys = courses_of s' in
    let j = entry_place t c (without c.number xs) in
    (i : ℕ) × (place_in c.number xs ≡ Some i) × (KeptPlace t xs ys c i named ⊎ ChangedPlace t xs ys c i j named)
SteerMoves t s s' c (Err e) = s' ≡ s

abbrev pub MendSwaps : SortedList → SortedList → ℕ → Result Numbers Refusal → Type 0
MendSwaps s s' i (Ok named) = SwappedAt (courses_of s) (courses_of s') i named
MendSwaps s s' i (Err e) = s' ≡ s
