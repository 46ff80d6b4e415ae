-- The nodes of a tournament. Nodes 0 to 62 are the matches, and node 0 is the final; nodes 63 to 126 are the places.
-- The match i is between the nodes 2 i + 1 and 2 i + 2: below it either may be the winner of a match, or who has a place.
use Rattle.std.specs.Prelude.{◌≡◌, ℕ, ◌+◌, ◌*◌, ◌<◌, Bool, false, cond, ◌&&◌, List, drop, Some, None, Option, ◌==◌, slice_index_or}
use Rattle.std.specs.Ordering.{int_eq}
use Rattle.fairway.specs.Times.{Time}
use Rattle.fairway.specs.Behind.{behind}
use Rattle.fairway.specs.declared.course.Course.{Course}
use Rattle.tournament.specs.Places.{taken}

-- the courses in the places
abbrev pub aboard : List (Option Course) → List Course
aboard nodes = taken (drop 63 nodes)

-- the course at a node, or none
abbrev pub node_at : List (Option Course) → ℕ → Option Course
node_at nodes i = slice_index_or nodes i None

-- whether x and y are one course
unfoldable pub is_same : Course → Course → Bool
is_same x y = x.number == y.number && (int_eq x.speed y.speed && int_eq x.base y.base)

-- ---- a match between a first and a second, each of which may be missing

-- at t the second wins: it is there, and the first is behind it
abbrev pub second_wins : Time → Option Course → Option Course → Bool
second_wins t None second = false
second_wins t (Some x) None = false
second_wins t (Some x) (Some y) = behind t x y

-- the winner, given whether the second won; one alone wins
abbrev pub winner : Bool → Option Course → Option Course → Option Course
winner second_won None second = second
winner second_won (Some x) None = Some x
winner second_won (Some x) (Some y) = Some (cond second_won y x)

-- whether the winner is the second
abbrev pub is_second : Option Course → Option Course → Bool
is_second None second = false
is_second (Some w) None = false
is_second (Some w) (Some y) = is_same w y

-- the loser as rear and the winner as front; none in a match of one or of none
abbrev pub certificate_of : Bool → Option Course → Option Course → Option (Course × Course)
certificate_of second_won None second = None
certificate_of second_won (Some x) None = None
certificate_of second_won (Some x) (Some y) = Some (cond second_won x y, cond second_won y x)

-- ---- the match of a number

-- whether the second of the match i won
abbrev pub won_by_second : List (Option Course) → ℕ → Bool
won_by_second nodes i = is_second (node_at nodes i) (node_at nodes (2 * i + 2))

-- the certificate of the match i
abbrev pub certificate_at : List (Option Course) → ℕ → Option (Course × Course)
certificate_at nodes i = certificate_of (won_by_second nodes i) (node_at nodes (2 * i + 1)) (node_at nodes (2 * i + 2))

-- the node of the match i has the winner of its two
abbrev pub Drawn : List (Option Course) → ℕ → Type 0
Drawn nodes i = node_at nodes i ≡ winner (won_by_second nodes i) (node_at nodes (2 * i + 1)) (node_at nodes (2 * i + 2))

-- the node of each match has the winner of its two
abbrev pub AllDrawn : List (Option Course) → Type 0
AllDrawn nodes = (i : ℕ) → i < 63 → Drawn nodes i
