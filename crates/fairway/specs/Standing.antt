-- A list that stands: what lets certificates of neighbours alone keep it right.
use Rattle.std.specs.Prelude.{◌≡◌, true, ◌⊎◌, List, pos, ◌-ℤ◌, ◌*ℤ◌, ◌≤ℤ◌}
use Rattle.fairway.specs.Times.{Time, Proper, ◌≤ᵗ◌}
use Rattle.fairway.specs.Courses.{faster, Due}
use Rattle.fairway.specs.Behind.{behind}
use Rattle.fairway.specs.Pairwise.{Pairwise}
pub use Rattle.fairway.specs.Pairwise.{Neighbours}
use Rattle.fairway.specs.Orders.{Sorted, Exchange}
use Rattle.fairway.specs.declared.course.Course.{Course}

-- the pair is in order, or due
abbrev pub InOrderOrDue : Time → Course → Course → Type 0
InOrderOrDue t r f = (behind t r f ≡ true) ⊎ Due t r f

-- every two, neighbours or not, are in order or due
abbrev pub Stands : Time → List Course → Type 0
Stands t = Pairwise (InOrderOrDue t)

-- the pair does not draw level before u
abbrev pub NotLevelBefore : Time → Course → Course → Type 0
NotLevelBefore u r f =
    faster r f ≡ true → ((r.speed -ℤ f.speed) *ℤ pos u.num) ≤ℤ ((f.base -ℤ r.base) *ℤ pos u.den)

-- where no neighbours are due, the list is in order
abbrev pub StandsSorted : Type 0
StandsSorted = (t : Time) (xs : List Course) → Stands t xs → Neighbours (λ r f. Due t r f → ⊥) xs → Sorted t xs

-- it stands on until neighbours draw level
abbrev pub StandsLater : Type 0
StandsLater =
    (t u : Time) → Proper t → Proper u → t ≤ᵗ u → (xs : List Course) →
    Stands t xs → Neighbours (NotLevelBefore u) xs → Stands u xs

-- the exchange of neighbours that are due keeps it standing
abbrev pub StandsMended : Type 0
StandsMended =
    (t : Time) (r f : Course) (xs ys : List Course) → Stands t xs → Due t r f → Exchange r f xs ys → Stands t ys
