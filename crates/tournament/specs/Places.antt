-- The places of a tournament, each of which holds one course or none.
use Rattle.std.specs.Prelude.{◌≡◌, ℕ, ◌<◌, List, [], ◌∷◌, length, Some, None, Option, ◌≢◌, slice_index_or}
use Rattle.std.specs.List.{AllByRecursion, AllByRecursion-prop, filter_map}
use mathlib.Core.HLevel.{×_prop, Unit-prop}
use Rattle.std.proofs.Props.{props}
use Rattle.fairway.specs.Courses.{InRange}
use Rattle.fairway.specs.Orders.{Apart}
use Rattle.fairway.specs.Rosters.{course_of}
use Rattle.fairway.specs.declared.course.Course.{Course}

-- the courses in the places that are taken
abbrev pub taken : List (Option Course) → List Course
taken places = filter_map (λ place. place) places

-- a course that a vessel aboard may have
pub record Fits (c : Course) : Type 0 where
  pub fits : c.number < 65536
  pub in_range : InRange c

-- courses that a roster may have: no number twice, and each within its limits
pub record Sound (courses : List Course) : Type 0 where
  pub apart : Apart courses
  pub fit : AllByRecursion Fits courses

-- ---- of which there is one proof at most
Fits-prop : (c : Course) → IsProp (Fits c)
Fits-prop c = Prim.hlevel props

Apart-prop : (courses : List Course) → IsProp (Apart courses)
Apart-prop [] = Unit-prop
Apart-prop (x ∷ xs) = ×_prop (AllByRecursion-prop (λ y. x.number ≢ y.number) (λ y. Prim.hlevel props) xs) (Apart-prop xs)

fit_prop : (courses : List Course) → IsProp (AllByRecursion Fits courses)
fit_prop courses = AllByRecursion-prop Fits Fits-prop courses

pub Sound-prop : (courses : List Course) → IsProp (Sound courses)
Sound-prop courses = Prim.hlevel (Apart-prop, fit_prop)

-- ---- places
-- the place of the vessel n, or none where it has none
abbrev pub PlaceOf : List (Option Course) → ℕ → Option ℕ → Type 0
PlaceOf places n None = course_of (taken places) n ≡ None
PlaceOf places n (Some i) =
    (i < length places) × ((c : Course) × (slice_index_or places i None ≡ Some c) × (course_of (taken places) n ≡ Some c))

-- a free place, or none where all are taken
abbrev pub FreePlace : List (Option Course) → Option ℕ → Type 0
FreePlace places None = length (taken places) ≡ length places
FreePlace places (Some i) = (i < length places) × (slice_index_or places i None ≡ None)
