-- The tests that refusals rest on.
use Rattle.std.specs.Prelude.{◌≡◌, ◌≢◌, Bool, false, ◌&&◌, ◌||◌, [], ◌∷◌, pos, negsuc, Some, None, Ok, Err, Option, Result, int_le, int_lt, nat_eq}
use Rattle.event_queue.specs.Refusals.{◌when◌, topmost}
use Rattle.fairway.specs.Times.{Time}
use Rattle.fairway.specs.Courses.{InRange, place, faster}
use Rattle.fairway.specs.declared.course.Course.{Course}
use Rattle.kinetic.specs.declared.refusal.Refusal.{Refusal}
use Rattle.kinetic.specs.declared.refusal.Refusal.TheVariants.{NumberZero, OutOfRange}

-- the speed is above 1,000 or the base above 33,654,432,000 in size
unfoldable pub out_of_range : Course → Bool
out_of_range c =
    int_lt c.speed (negsuc 999) || (int_lt (pos 1000) c.speed ||
    (int_lt c.base (negsuc 33654431999) || int_lt (pos 33654432000) c.base))

-- level, and the rear is faster
unfoldable pub pair_due : Time → Course → Course → Bool
pair_due t r f = faster r f && (int_le (place t r) (place t f) && int_le (place t f) (place t r))

-- the certificate is there, and is due
abbrev pub due : Time → Option (Course × Course) → Bool
due t (Some p) = pair_due t p.0 p.1
due t None = false

-- a number and a range that an entry may have, or the refusal of it
abbrev pub Checked : Course → Result (Unit {0}) Refusal → Type 0
Checked c (Ok x) = (c.number ≢ 0) × (out_of_range c ≡ false) × InRange c
Checked c (Err e) = topmost (NumberZero when nat_eq c.number 0 ∷ OutOfRange when out_of_range c ∷ []) ≡ Some e
