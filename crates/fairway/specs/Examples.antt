-- Worked examples, by computation.
use Rattle.std.specs.Prelude.{◌≡◌, ℕ, true, false, List, [], ◌∷◌, map, length, ℤ, pos, negsuc, Some, None}
use Rattle.fairway.specs.Times.{Time, ratio, whole_and, ◌=ᵗ◌}
use Rattle.fairway.specs.Courses.{place, faster, Due}
use Rattle.fairway.specs.Behind.{behind}
use Rattle.fairway.specs.Instants.{instant_refusal}
use Rattle.fairway.specs.Meetings.{level}
use Rattle.fairway.specs.Orders.{order, load, turned, pair, Mends}
use Rattle.fairway.specs.declared.course.Course.{Course}
use Rattle.fairway.specs.declared.refusal.Refusal.TheVariants.{NoSuchInstant}
use Rattle.fairway.specs.declared.stamp.Stamp.{Stamp}

-- number / position at second 0 / speed
abbrev pub vessel : ℕ → ℤ → ℤ → Course
vessel n p v = record { number = n; speed = v; base = p }

-- whole seconds and n / d
abbrev pub stamp : ℕ → ℕ → ℕ → Stamp
stamp s n less_one = record { seconds = s; numerator = n; denominator_less_one = less_one }

abbrev pub numbers : List Course → List ℕ
numbers xs = map (λ c. c.number) xs

abbrev pub seven_three : List Course
seven_three = vessel 7 (pos 0) (pos 3) ∷ vessel 3 (pos 10) (pos 1) ∷ []

abbrev pub one_two_five : List Course
one_two_five = vessel 1 (pos 0) (pos 3) ∷ vessel 2 (pos 6) (pos 2) ∷ vessel 5 (pos 12) (pos 1) ∷ []

abbrev pub halves : List Course
halves = vessel 1 (pos 0) (pos 5) ∷ vessel 2 (pos 7) (pos 3) ∷ []

pub record Examples : Type 0 where
  -- which numbers make an instant
  pub last_second : instant_refusal 16777216 0 1 ≡ None
  pub last_in_sevenths : instant_refusal 16777216 0 7 ≡ None
  pub past_last_second : instant_refusal 16777216 1 2 ≡ Some NoSuchInstant
  pub not_below_one : instant_refusal 3 2 2 ≡ Some NoSuchInstant
  pub no_denominator : instant_refusal 3 0 0 ≡ Some NoSuchInstant
  pub too_fine : instant_refusal 3 0 1001 ≡ Some NoSuchInstant
  -- 3 2/4 is 3 1/2
  pub two_quarters : whole_and 3 2 4 =ᵗ whole_and 3 1 2
  -- 7 and 3 draw level at 5, and are turned then and not before
  pub level_at_five : level (vessel 7 (pos 0) (pos 3)) (vessel 3 (pos 10) (pos 1)) ≡ Some (stamp 5 0 0)
  pub turned_at_five : turned (ratio 0 1) (ratio 5 1) seven_three ≡ pair (vessel 7 (pos 0) (pos 3)) (vessel 3 (pos 10) (pos 1)) ∷ []
  pub not_before : turned (ratio 0 1) (ratio 9 2) seven_three ≡ []
  pub by_a_mend : Mends (ratio 0 1) (ratio 5 1) (order (ratio 0 1) seven_three) (pair (vessel 7 (pos 0) (pos 3)) (vessel 3 (pos 10) (pos 1)) ∷ []) (order (ratio 5 1) seven_three)
  -- 1 and 2 draw level at 3 1/2
  pub level_at_half : level (vessel 1 (pos 0) (pos 5)) (vessel 2 (pos 7) (pos 3)) ≡ Some (stamp 3 1 1)
  pub just_before_half : length (turned (ratio 0 1) (ratio 3499 1000) halves) ≡ 0
  pub just_at_half : length (turned (ratio 0 1) (ratio 7 2) halves) ≡ 1
  -- level with equal speeds: the smaller number is behind, and the pair is never due
  pub by_number : numbers (order (ratio 0 1) (vessel 9 (pos 100) (pos 2) ∷ vessel 4 (pos 100) (pos 2) ∷ [])) ≡ 4 ∷ 9 ∷ []
  pub never_level : level (vessel 9 (pos 100) (pos 2)) (vessel 4 (pos 100) (pos 2)) ≡ None
  pub never_due : (t : Time) → Due t (vessel 9 (pos 100) (pos 2)) (vessel 4 (pos 100) (pos 2)) → ⊥
  -- three that pass one another by second 6: the load falls from 3 to 0
  pub all_turned : numbers (order (ratio 6 1) one_two_five) ≡ 5 ∷ 2 ∷ 1 ∷ []
  pub three_pairs : length (turned (ratio 0 1) (ratio 6 1) one_two_five) ≡ 3
  pub load_before : load (order (ratio 0 1) one_two_five) ≡ 3
  pub load_after : load (order (ratio 6 1) one_two_five) ≡ 0
  -- a position of -7 1/2 cm, in halves
  pub fifteen_halves : place (ratio 5 2) (vessel 1 (negsuc 9) (pos 1)) ≡ negsuc 14
  -- three that are level at 0: the neighbours are in order or due, and no more so once the due pair is exchanged
  pub neighbours_in_order : behind (ratio 0 1) (vessel 9 (pos 0) (pos 1)) (vessel 7 (pos 0) (pos 2)) ≡ true
  pub neighbours_due : Due (ratio 0 1) (vessel 7 (pos 0) (pos 2)) (vessel 5 (pos 0) (pos 1))
  pub then_not_in_order : behind (ratio 0 1) (vessel 9 (pos 0) (pos 1)) (vessel 5 (pos 0) (pos 1)) ≡ false
  pub then_not_due : faster (vessel 9 (pos 0) (pos 1)) (vessel 5 (pos 0) (pos 1)) ≡ false
