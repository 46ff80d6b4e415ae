-- The load of a tournament: over all matches, the vessels drawn beneath that are faster than the winner.
use Rattle.std.specs.Prelude.{◌≡◌, ℕ, zero, suc, ◌+◌, ◌*◌, ◌<◌, ◌≤◌, cond, List, [], ◌∷◌, ◌++◌, Some, None, Option, length, nat_lt, sum_by}
use Rattle.std.specs.List.{range_with_len}
use Rattle.fairway.specs.Orders.{faster_than}
use Rattle.fairway.specs.declared.course.Course.{Course}
use Rattle.tournament.specs.Places.{taken}
use Rattle.tournament.specs.Matches.{aboard, node_at}
use Rattle.tournament.specs.Playing.{UpFrom}

-- the vessels in the places beneath node k, so many rounds down; of a place the vessel that has it
abbrev pub beneath : ℕ → List (Option Course) → ℕ → List Course
beneath zero nodes k = taken (node_at nodes k ∷ [])
beneath (suc rounds) nodes k =
    cond (nat_lt k 63)
    (beneath rounds nodes (2 * k + 1) ++ beneath rounds nodes (2 * k + 2))
    (taken (node_at nodes k ∷ []))

-- beneath the final are all vessels
abbrev pub AllBeneath : Type 0
AllBeneath = (nodes : List (Option Course)) → length nodes ≡ 127 → beneath 6 nodes 0 ≡ aboard nodes

-- how many of these vessels are faster than a winner; none where there is no winner
abbrev pub faster_than_winner : Option Course → List Course → ℕ
faster_than_winner None vs = 0
faster_than_winner (Some w) vs = faster_than w vs

-- how many vessels beneath node k are faster than a winner
unfoldable pub faster_beneath : List (Option Course) → ℕ → Course → ℕ
faster_beneath nodes k w = faster_than w (beneath 6 nodes k)

-- the load of the match i: how many vessels beneath it are faster than its winner
abbrev pub match_load : List (Option Course) → ℕ → ℕ
match_load nodes i = faster_than_winner (node_at nodes i) (beneath 6 nodes i)

-- the load of all matches
unfoldable pub load : List (Option Course) → ℕ
load nodes = sum_by (match_load nodes) (range_with_len 0 63)

-- The loads of matches before and after a mend of the match i: beneath it fewer vessels are faster than its winner, and
-- beneath no match more; a match that is not played has the load that it had.
pub record LoadsFall (i : ℕ) (nodes nodes' : List (Option Course)) : Type 0 where
  pub mended : match_load nodes' i < match_load nodes i
  pub none_rises : (j : ℕ) → match_load nodes' j ≤ match_load nodes j
  pub others : (j : ℕ) → (UpFrom i j → ⊥) → match_load nodes' j ≡ match_load nodes j
