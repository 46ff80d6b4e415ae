-- A pair of courses, rear first, at a time.
use Rattle.std.specs.Prelude.{◌≡◌, Bool, true, false}
use Rattle.fairway.specs.Times.{Time}
use Rattle.std.specs.Bool.{Decides}
use Rattle.fairway.specs.Behind.{behind, Behind, Laws}
use Rattle.fairway.specs.Standing.{NotLevelBefore}
use Rattle.fairway.specs.declared.course.Course.{Course}

-- the answer is whether the rear is behind the front, as the test and as the statement; the laws say what
-- that is good for
pub record InOrderAnswer (t : Time) (rear front : Course) (answer : Bool) : Type 0 where
  pub value : answer ≡ behind t rear front
  pub meaning : Decides answer (Behind t rear front)
  pub laws : Laws

-- the answer is whether the two have drawn level before t
abbrev pub PastLevelAnswer : Time → Course → Course → Bool → Type 0
PastLevelAnswer t rear front answer =
    (answer ≡ false → NotLevelBefore t rear front) ×
    (answer ≡ true → NotLevelBefore t rear front → ⊥)
