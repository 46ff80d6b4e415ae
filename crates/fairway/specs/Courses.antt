-- Courses on one line: positions, speeds, limits.
use Rattle.std.specs.Prelude.{◌≡◌, ◌<◌, Bool, ℤ, pos, negsuc, ◌+ℤ◌, ◌*ℤ◌, ◌≤ℤ◌, ◌<ℤ◌, int_lt}
use Rattle.fairway.specs.Times.{Time}
use Rattle.fairway.specs.declared.course.Course.{Course}

-- the limits of a course: a number, at most 1,000 cm/s either way, and a base at most 33,654,432,000 in size
pub record InRange (c : Course) : Type 0 where
  pub numbered : 0 < c.number
  pub speed_low : negsuc 999 ≤ℤ c.speed
  pub speed_high : c.speed ≤ℤ pos 1000
  pub base_low : negsuc 33654431999 ≤ℤ c.base
  pub base_high : c.base ≤ℤ pos 33654432000

-- the position at t, in parts of a centimetre, as many to one as the time's denominator
abbrev pub place : Time → Course → ℤ
place t u = u.base *ℤ pos t.den +ℤ u.speed *ℤ pos t.num

-- at the same position
abbrev pub Level : Time → Course → Course → Type 0
Level t u w = place t u ≡ place t w

-- u is the slower, as a statement
abbrev pub Slower : Course → Course → Type 0
Slower u w = u.speed <ℤ w.speed

-- u is the faster, as a test
abbrev pub faster : Course → Course → Bool
faster u w = int_lt w.speed u.speed

-- level, and the rear is faster
abbrev pub Due : Time → Course → Course → Type 0
Due t rear front = Level t rear front × Slower front rear
