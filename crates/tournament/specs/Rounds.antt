-- The matches above a node, played one a round from below up to the final.
use Rattle.std.specs.Prelude.{◌≡◌, ℕ, ◌+◌, ◌*◌, ◌<◌, ◌≤◌, Bool, true, false, ◌≢◌, ◌⊎◌, List, ◌++◌, length, drop, Option}
use Rattle.fairway.specs.Times.{Time}
use Rattle.fairway.specs.declared.course.Course.{Course}
use Rattle.kinetic.specs.Numbers.{among}
use Rattle.tournament.specs.Matches.{node_at, second_wins, winner, is_second, certificate_at, Drawn}
use Rattle.tournament.specs.Standing.{StandsAt, NoneDueAt}
use Rattle.tournament.specs.Playing.{OneOf, UpFrom, RunsUp, Names, PlayedIn}

-- A match, of which `named` says whether its number is answered. It had the winner w, the first a and the second b, and
-- has w', a' and b' now: played at t where it is named, and as it was where it is not.
pub record Played (t : Time) (named : Bool) (w a b w' a' b' : Option Course) : Type 0 where
  pub drawn : w' ≡ winner (is_second w' b') a' b'
  pub same_winner : named ≡ false → w' ≡ w
  pub same_first : named ≡ false → a' ≡ a
  pub same_second : named ≡ false → b' ≡ b
  pub played : named ≡ true → w' ≡ winner (second_wins t a' b') a' b'

-- the match i, before and after
abbrev pub PlayedAt : Time → List ℕ → List (Option Course) → List (Option Course) → ℕ → Type 0
PlayedAt t numbers nodes nodes' i =
    Played t (among i numbers)
    (node_at nodes i) (node_at nodes (2 * i + 1)) (node_at nodes (2 * i + 2))
    (node_at nodes' i) (node_at nodes' (2 * i + 1)) (node_at nodes' (2 * i + 2))

-- every match but the one above node k is drawn
abbrev pub DrawnBut : ℕ → List (Option Course) → Type 0
DrawnBut k nodes = (i : ℕ) → i < 63 → (k ≢ 2 * i + 1) → (k ≢ 2 * i + 2) → Drawn nodes i

-- the matches above a node have been played at t
pub record PlayedAbove (t : Time) (from : ℕ) (nodes nodes' : List (Option Course)) (numbers : List ℕ) : Type 0 where
  pub matches : (i : ℕ) → i < 63 → PlayedAt t numbers nodes nodes' i
  pub places : drop 63 nodes' ≡ drop 63 nodes
  pub above : (i : ℕ) → OneOf from i → among i numbers ≡ true

-- the numbers are those of the matches above a node
abbrev pub NamedAbove : ℕ → List ℕ → Type 0
NamedAbove from numbers = (i : ℕ) → OneOf from i → Names i numbers

-- Matches have been played from a node up to node k, and the match above node k is the next.
pub record PlayedBelow (t : Time) (k from : ℕ) (nodes nodes' : List (Option Course)) (numbers : List ℕ) : Type 0 where
  pub low : k < 127
  pub few : 2 * length numbers + k ≤ 126
  pub matches : (i : ℕ) → i < 63 → (k ≢ 2 * i + 1) → (k ≢ 2 * i + 2) → PlayedAt t numbers nodes nodes' i
  pub places : drop 63 nodes' ≡ drop 63 nodes
  pub above : (k ≡ from) ⊎ ((i : ℕ) → OneOf from i → among i numbers ≡ true)

-- The numbers of the matches from a node up to node k are there, and those of the matches above node k are to come.
pub record NamedBelow (k from : ℕ) (numbers : List ℕ) : Type 0 where
  pub up : (i : ℕ) → OneOf from i → (k ≡ from) ⊎ UpFrom i k
  pub only : (i j : ℕ) → OneOf from i → among j numbers ≡ true → UpFrom i j
  pub all : (i j : ℕ) → OneOf from i → UpFrom i j → (among j numbers ≡ true) ⊎ ((m : ℕ) × OneOf k m × UpFrom m j)
  pub runs : (i j : ℕ) (rest : List ℕ) → OneOf from i → OneOf k j → RunsUp j rest → RunsUp i (numbers ++ rest)
  pub done : (i : ℕ) → OneOf from i → k ≡ 0 → RunsUp i numbers

-- An entrant, or none, has come to a place, and the matches above it have been played at t. Certificates whose numbers
-- are not answered are as they were, and a tournament that rested at t rests.
pub record Put (t : Time) (place : ℕ) (entrant : Option Course)
    (nodes nodes' : List (Option Course)) (numbers : List ℕ) : Type 0 where
  pub played : PlayedIn t place entrant nodes nodes' numbers
  pub certificates : (i : ℕ) → among i numbers ≡ false → certificate_at nodes' i ≡ certificate_at nodes i
  pub rests : StandsAt t nodes × NoneDueAt t nodes → StandsAt t nodes' × NoneDueAt t nodes'
