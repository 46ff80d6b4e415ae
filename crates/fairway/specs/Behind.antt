-- Who is behind whom, and the laws by which everything else uses it. Only the proof that the test is the statement,
-- from which the laws follow, the proof of the function that computes the test, and worked examples, which compute it,
-- look into the definition.
use Rattle.std.specs.Prelude.{◌≡◌, ◌<◌, Bool, true, false, cond, ◌≢◌, ◌⊎◌, pos, ◌-ℤ◌, ◌*ℤ◌, ◌≤ℤ◌, ◌<ℤ◌, int_lt, nat_lt}
use Rattle.std.specs.Bool.{Decides}
use Rattle.fairway.specs.Times.{Time, Proper, ◌≤ᵗ◌}
use Rattle.fairway.specs.Courses.{place, Level, Slower, faster}
use Rattle.fairway.specs.declared.course.Course.{Course}

-- less position; or level and slower; or level, equally fast and the smaller number
unfoldable pub behind : Time → Course → Course → Bool
behind t u w =
    cond (int_lt (place t u) (place t w)) true
    (cond (int_lt (place t w) (place t u)) false
    (cond (int_lt u.speed w.speed) true
    (cond (int_lt w.speed u.speed) false
    (nat_lt u.number w.number))))

-- whether u is behind w, as a statement
abbrev pub Behind : Time → Course → Course → Type 0
Behind t u w =
    (place t u <ℤ place t w) ⊎
    (Level t u w × (Slower u w ⊎ ((u.speed ≡ w.speed) × (u.number < w.number))))

-- the test is the statement
abbrev pub IsTest : Type 0
IsTest = (t : Time) (u w : Course) → Decides (behind t u w) (Behind t u w)

-- ---- the laws

-- no course is behind itself
abbrev pub Irreflexive : Time → Type 0
Irreflexive t = (u : Course) → behind t u u ≢ true

-- what is behind one that is behind a third is behind the third
abbrev pub Transitive : Time → Type 0
Transitive t = (u v w : Course) → behind t u v ≡ true → behind t v w ≡ true → behind t u w ≡ true

-- of two courses one is behind, unless they are the same
abbrev pub Total : Time → Type 0
Total t = (u w : Course) → (u ≡ w) ⊎ ((behind t u w ≡ true) ⊎ (behind t w u ≡ true))

-- a strict total order
pub record StrictOrder (t : Time) : Type 0 where
  pub irreflexive : Irreflexive t
  pub transitive : Transitive t
  pub total : Total t

-- of two vessels, which have different numbers, one is behind; that is all of `total` that rosters need
abbrev pub VesselsDiffer : Type 0
VesselsDiffer =
    (t : Time) → Proper t → (u w : Course) → u.number ≢ w.number →
    (behind t u w ≡ true) ⊎ (behind t w u ≡ true)

-- whoever has the lesser position is behind
abbrev pub LesserBehind : Type 0
LesserBehind = (t : Time) (u w : Course) → place t u <ℤ place t w → behind t u w ≡ true

-- t is before the time (front base - rear base) / (rear speed - front speed)
abbrev pub BeforeLevel : Time → Course → Course → Type 0
BeforeLevel t rear front = ((rear.speed -ℤ front.speed) *ℤ pos t.num) <ℤ ((front.base -ℤ rear.base) *ℤ pos t.den)

-- t is not before that time
abbrev pub FromLevel : Time → Course → Course → Type 0
FromLevel t rear front = ((front.base -ℤ rear.base) *ℤ pos t.den) ≤ℤ ((rear.speed -ℤ front.speed) *ℤ pos t.num)

-- a faster rear is behind just until the two draw level, and in front from then on
abbrev pub Passes : Type 0
Passes =
    (t : Time) (rear front : Course) → faster rear front ≡ true →
    (behind t rear front ≡ true → BeforeLevel t rear front) × (BeforeLevel t rear front → behind t rear front ≡ true) ×
    (behind t front rear ≡ true → FromLevel t rear front) × (FromLevel t rear front → behind t front rear ≡ true)

-- the pair, once in order, stays so
abbrev pub StaysBehind : Course → Course → Type 0
StaysBehind rear front =
    (t u : Time) → Proper t → Proper u → t ≤ᵗ u → behind t rear front ≡ true → behind u rear front ≡ true

-- a rear that is not faster stays behind
abbrev pub Stays : Type 0
Stays = (rear front : Course) → faster rear front ≡ false → StaysBehind rear front

-- of two that are level, the one behind is not the faster
abbrev pub LevelSlower : Type 0
LevelSlower =
    (t : Time) (rear front : Course) → behind t rear front ≡ true → Level t rear front → faster rear front ≡ false

-- all of them: what a caller may use of `behind`
pub record Laws : Type 0 where
  pub ordered : (t : Time) → Proper t → StrictOrder t
  pub differ : VesselsDiffer
  pub lesser : LesserBehind
  pub level_slower : LevelSlower
  pub passes : Passes
  pub stays : Stays
