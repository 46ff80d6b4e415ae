-- What the sorted list answers beside what every structure does.
use Rattle.std.specs.Prelude.{◌≡◌, ℕ, ◌+◌, List, Some, None, Ok, Err, vec_items, Option, Result}
use Rattle.fairway.specs.Times.{Time, Proper}
use Rattle.fairway.specs.Orders.{Apart, Same, Sorted, order}
use Rattle.fairway.specs.declared.course.Course.{Course}
use Rattle.kinetic.specs.Structures.{Meaning, Rests, vessel_refusal}
use Rattle.kinetic.specs.declared.refusal.Refusal.{Refusal}
use Rattle.sorted_list.specs.Means.{list_meaning}
use Rattle.sorted_list.specs.Places.{place_in}
use Rattle.sorted_list.specs.Rosters.{next_after, next_before}
use Rattle.sorted_list.specs.Ranks.{in_front, NextAhead, NextBehind}
use Rattle.sorted_list.specs.declared.list.SortedList.{SortedList}

abbrev pub courses_of : SortedList → List Course
courses_of s = vec_items s.courses

abbrev pub means : Meaning SortedList
means = list_meaning courses_of

-- the place of the vessel n, or why it has none
abbrev pub PlaceAnswer : SortedList → ℕ → Result ℕ Refusal → Type 0
PlaceAnswer s n (Ok i) = (vessel_refusal means s n ≡ None) × (place_in n (courses_of s) ≡ Some i)
PlaceAnswer s n (Err e) = vessel_refusal means s n ≡ Some e

-- while it rests, the courses are in order, and are the order of every roster of these vessels
pub record CoursesAnswer (s : SortedList) (courses : List Course) : Type 0 where
  pub value : courses ≡ courses_of s
  pub apart : Apart courses
  pub sorted : (t : Time) → Rests means t s → Sorted t courses
  pub is_order : (t : Time) → Proper t → Rests means t s → (roster : List Course) → Apart roster →
      Same courses roster → courses ≡ order t roster

-- one more than the number in front
abbrev pub Ranked : Time → SortedList → ℕ → Result ℕ Refusal → Type 0
Ranked t s n (Ok rank) =
    (vessel_refusal means s n ≡ None) ×
    ((c : Course) → means.roster s n ≡ Some c → rank ≡ in_front t c (courses_of s) + 1)
Ranked t s n (Err e) = vessel_refusal means s n ≡ Some e

-- The answer is the neighbour of the vessel n in the list; it is its neighbour among all vessels, which `Next` says,
-- at every time at which the list rests.
pub record Beside (s : SortedList) (n : ℕ) (neighbour : Option Course)
    (Next : Time → (ℕ → Option Course) → Course → Option Course → Type 0) (answer : Option Course) : Type 0 where
  pub aboard : vessel_refusal means s n ≡ None
  pub value : answer ≡ neighbour
  pub next : (c : Course) → means.roster s n ≡ Some c → (t : Time) → Rests means t s → Next t (means.roster s) c answer

-- the vessel that stands next in front in the list
abbrev pub NeighbourAhead : SortedList → ℕ → Option Course → Type 0
NeighbourAhead s n = Beside s n (next_after n (courses_of s)) NextAhead

abbrev pub Ahead : SortedList → ℕ → Result (Option Course) Refusal → Type 0
Ahead s n (Ok answer) = NeighbourAhead s n answer
Ahead s n (Err e) = vessel_refusal means s n ≡ Some e

-- the vessel that stands next behind in the list
abbrev pub NeighbourAstern : SortedList → ℕ → Option Course → Type 0
NeighbourAstern s n = Beside s n (next_before n (courses_of s)) NextBehind

abbrev pub Astern : SortedList → ℕ → Result (Option Course) Refusal → Type 0
Astern s n (Ok answer) = NeighbourAstern s n answer
Astern s n (Err e) = vessel_refusal means s n ≡ Some e
