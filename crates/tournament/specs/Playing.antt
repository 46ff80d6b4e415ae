-- Which matches a change plays, and what it leaves.
use Rattle.std.specs.Prelude.{◌≡◌, ℕ, ◌+◌, ◌*◌, ◌/◌, ◌<◌, ◌⊎◌, List, [], ◌∷◌, drop, Option, slice_set}
use Rattle.std.specs.Bool.{Decides}
use Rattle.fairway.specs.Times.{Time}
use Rattle.fairway.specs.declared.course.Course.{Course}
use Rattle.kinetic.specs.Numbers.{among}
use Rattle.tournament.specs.Matches.{node_at, second_wins, winner}

-- node k is one of the two of the match i
abbrev pub OneOf : ℕ → ℕ → Type 0
OneOf k i = (k ≡ 2 * i + 1) ⊎ (k ≡ 2 * i + 2)

-- the match j is the match i or one above it
pub data UpFrom (i : ℕ) : ℕ → Type 0 where
  itself : UpFrom i i
  above : {j k : ℕ} → UpFrom i j → OneOf j k → UpFrom i k

-- the match i holds the winner, at t, of its two
abbrev pub WonAt : Time → List (Option Course) → ℕ → Type 0
WonAt t nodes i =
    let first = node_at nodes (2 * i + 1) in
    let second = node_at nodes (2 * i + 2) in
    node_at nodes i ≡ winner (second_wins t first second) first second

-- The match i and those above it have been played at t, and no other: each of them holds the winner of the two that it
-- has now, and every other node, match or place, is as it was.
pub record PlayedAgain (t : Time) (i : ℕ) (nodes nodes' : List (Option Course)) : Type 0 where
  pub played : (j : ℕ) → UpFrom i j → WonAt t nodes' j
  pub others : (j : ℕ) → (UpFrom i j → ⊥) → node_at nodes' j ≡ node_at nodes j

-- the numbers run from the match i up to the final, a match a round
pub data RunsUp : ℕ → List ℕ → Type 0 where
  final : RunsUp 0 (0 ∷ [])
  up : {i j : ℕ} {numbers : List ℕ} → OneOf i j → RunsUp j numbers → RunsUp i (i ∷ numbers)

-- the numbers are those of the match i and of the matches above it, each once, from below up
pub record Names (i : ℕ) (numbers : List ℕ) : Type 0 where
  pub those : (j : ℕ) → Decides (among j numbers) (UpFrom i j)
  pub runs : RunsUp i numbers

-- the match of a place
abbrev pub match_of : ℕ → ℕ
match_of place = 31 + place / 2

-- An entrant, or none, has come to a place, and every other place is as it was; then the match of the place and those
-- above it have been played at t, and no other; the numbers are those of these matches.
pub record PlayedIn (t : Time) (place : ℕ) (entrant : Option Course)
    (nodes nodes' : List (Option Course)) (numbers : List ℕ) : Type 0 where
  pub within : place < 64
  pub places : drop 63 nodes' ≡ slice_set (drop 63 nodes) place entrant
  pub again : PlayedAgain t (match_of place) (slice_set nodes (63 + place) entrant) nodes'
  pub names : Names (match_of place) numbers
