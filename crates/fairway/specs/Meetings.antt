-- When two vessels draw level.
use Rattle.std.specs.Prelude.{◌≡◌, ℕ, ◌-◌, ◌/◌, ◌%◌, ◌≤◌, true, false, cond, ◌&&◌, ◌⊎◌, ◌-ℤ◌, Some, None, Option, int_le, unsigned_abs}
use Rattle.fairway.specs.Times.{Time, ratio, Proper, ◌≤ᵗ◌, ◌<ᵗ◌, ◌=ᵗ◌}
use Rattle.fairway.specs.Fractions.{gcd, Coprime}
use Rattle.fairway.specs.Stamps.{den, time_of, BelowOne}
use Rattle.fairway.specs.Courses.{InRange, faster, Due}
use Rattle.fairway.specs.Behind.{behind, StaysBehind}
use Rattle.fairway.specs.declared.course.Course.{Course}
use Rattle.fairway.specs.declared.stamp.Stamp.{Stamp}

-- n / d as whole seconds and a fraction in lowest terms
unfoldable pub lowest_stamp : ℕ → ℕ → Stamp
lowest_stamp n d =
    record {
      seconds = n / d;
      numerator = (n % d) / gcd (n % d) d;
      denominator_less_one = d / gcd (n % d) d - 1;
    }

-- how far the front is ahead at second 0
abbrev pub gap : Course → Course → ℕ
gap rear front = unsigned_abs (front.base -ℤ rear.base)

-- what the rear gains each second
abbrev pub gain : Course → Course → ℕ
gain rear front = unsigned_abs (rear.speed -ℤ front.speed)

-- the level instant of a pair whose rear is faster and whose meeting is not before second 0
unfoldable pub level : Course → Course → Option Stamp
level rear front =
    cond (faster rear front && int_le rear.base front.base)
    (Some (lowest_stamp (gap rear front) (gain rear front)))
    None

-- the pair is in order just until s, and the other way round from s on
pub record TurnsAt (rear front : Course) (s : Stamp) : Type 0 where
  pub in_order : (t : Time) → Proper t → behind t rear front ≡ true → t <ᵗ time_of s
  pub until : (t : Time) → Proper t → t <ᵗ time_of s → behind t rear front ≡ true
  pub turned : (t : Time) → Proper t → behind t front rear ≡ true → time_of s ≤ᵗ t
  pub from_then : (t : Time) → Proper t → time_of s ≤ᵗ t → behind t front rear ≡ true

-- what a level instant is
pub record LevelInstant (rear front : Course) (s : Stamp) : Type 0 where
  pub is_faster : faster rear front ≡ true
  pub below_one : BelowOne s
  pub lowest_terms : Coprime s.numerator (den s)
  pub quotient : time_of s =ᵗ ratio (gap rear front) (gain rear front)
  pub due : Due (time_of s) rear front
  pub turns : TurnsAt rear front s
  -- for courses in range
  pub bounds : InRange rear → InRange front → (s.seconds ≤ 67308864000) × (den s ≤ 2000)

-- where there is none, the rear is not faster, and so the pair stays in order; or it is, and was in front at all times
abbrev pub NeverLevel : Course → Course → Type 0
NeverLevel rear front =
    ((faster rear front ≡ false) × StaysBehind rear front) ⊎
    ((faster rear front ≡ true) × ((t : Time) → Proper t → behind t front rear ≡ true))

-- what the level instant of a pair is, or that there is none
abbrev pub Meets : Course → Course → Option Stamp → Type 0
Meets rear front (Some s) = LevelInstant rear front s
Meets rear front None = NeverLevel rear front

-- what is answered for a pair
pub record LevelAnswer (rear front : Course) (answer : Option Stamp) : Type 0 where
  pub value : answer ≡ level rear front
  pub meets : Meets rear front answer
