-- Ranks and neighbours in a roster at a time, whatever list holds it.
use Rattle.std.specs.Prelude.{◌≡◌, ◌≢◌, ℕ, true, List, Some, None, count_by, Option}
use Rattle.fairway.specs.Times.{Time}
use Rattle.fairway.specs.Behind.{behind}
use Rattle.fairway.specs.declared.course.Course.{Course}

-- how many of xs are in front of c
abbrev pub in_front : Time → Course → List Course → ℕ
in_front t c xs = count_by (behind t c) xs

-- f is in front of r, and no vessel is between the two
pub record Next (t : Time) (roster : ℕ → Option Course) (r f : Course) : Type 0 where
  pub in_order : behind t r f ≡ true
  pub none_between : (n : ℕ) (c : Course) → roster n ≡ Some c → behind t r c ≡ true → behind t c f ≢ true

-- the vessel next in front of c, or none where c is in front of all others
abbrev pub NextAhead : Time → (ℕ → Option Course) → Course → Option Course → Type 0
NextAhead t roster c (Some f) = (roster f.number ≡ Some f) × Next t roster c f
NextAhead t roster c None = (n : ℕ) (d : Course) → roster n ≡ Some d → behind t c d ≢ true

-- the vessel next behind c, or none where c is behind all others
abbrev pub NextBehind : Time → (ℕ → Option Course) → Course → Option Course → Type 0
NextBehind t roster c (Some r) = (roster r.number ≡ Some r) × Next t roster r c
NextBehind t roster c None = (n : ℕ) (d : Course) → roster n ≡ Some d → behind t d c ≢ true
