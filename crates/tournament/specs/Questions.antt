-- The tournament's own meaning, the place of a vessel in it, and which matches its changes play.
use Rattle.std.specs.Prelude.{◌≡◌, ℕ, ◌+◌, List, drop, Some, None, Ok, Err, Option, Result}
use Rattle.fairway.specs.Times.{Time}
use Rattle.fairway.specs.declared.course.Course.{Course}
use Rattle.kinetic.specs.Structures.{Meaning, vessel_refusal}
use Rattle.kinetic.specs.declared.numbers.Numbers.{Numbers}
use Rattle.kinetic.specs.declared.refusal.Refusal.{Refusal}
use Rattle.tournament.specs.Matches.{node_at}
use Rattle.tournament.specs.Places.{PlaceOf}
use Rattle.tournament.specs.Standing.{StandsAt}
use Rattle.tournament.specs.Loads.{LoadsFall}
use Rattle.tournament.specs.Means.{tournament_meaning}
use Rattle.tournament.specs.Playing.{PlayedAgain, PlayedIn, Names}
use Rattle.tournament.specs.declared.tournament.Tournament.{Tournament}

abbrev pub nodes_of : Tournament → List (Option Course)
nodes_of s = s.nodes

abbrev pub means : Meaning Tournament
means = tournament_meaning nodes_of

-- the answer is the place of the vessel n, or why it has none
abbrev pub Placed : Tournament → ℕ → Result ℕ Refusal → Type 0
Placed s n (Ok i) = (vessel_refusal means s n ≡ None) × PlaceOf (drop 63 (nodes_of s)) n (Some i)
Placed s n (Err e) = vessel_refusal means s n ≡ Some e

-- the place holds the course of the vessel n
abbrev pub HasPlace : Tournament → ℕ → ℕ → Type 0
HasPlace s n place = (c : Course) × (node_at (nodes_of s) (63 + place) ≡ Some c) × (c.number ≡ n)

-- ---- which matches a change plays; a refused call changes nothing

-- an entry comes to a place that was free, and plays the match of that place and those above it
abbrev pub EntryPlays : Time → Tournament → Tournament → Course → Result Numbers Refusal → Type 0
EntryPlays t s s' c (Ok numbers) =
    (place : ℕ) × (node_at (nodes_of s) (63 + place) ≡ None) ×
    PlayedIn t place (Some c) (nodes_of s) (nodes_of s') numbers
EntryPlays t s s' c (Err e) = s' ≡ s

-- The vessel n leaves its place to an entrant, or to none; the match of that place and those above it are played. A
-- vessel that is steered enters with its new course, and to none it leaves.
abbrev pub VesselPlays : Time → Tournament → Tournament → ℕ → Option Course → Result Numbers Refusal → Type 0
VesselPlays t s s' n entrant (Ok numbers) =
    (place : ℕ) × HasPlace s n place × PlayedIn t place entrant (nodes_of s) (nodes_of s') numbers
VesselPlays t s s' n entrant (Err e) = s' ≡ s

-- a mend plays the match i and those above it
abbrev pub MendPlays : Time → Tournament → Tournament → ℕ → Result Numbers Refusal → Type 0
MendPlays t s s' i (Ok numbers) = PlayedAgain t i (nodes_of s) (nodes_of s') × Names i numbers
MendPlays t s s' i (Err e) = s' ≡ s

-- a mend of a tournament that stood at t lowers the load of the match i, and raises that of none
abbrev pub MendLowers : Time → Tournament → Tournament → ℕ → Result Numbers Refusal → Type 0
MendLowers t s s' i (Ok numbers) = StandsAt t (nodes_of s) → LoadsFall i (nodes_of s) (nodes_of s')
MendLowers t s s' i (Err e) = s' ≡ s
