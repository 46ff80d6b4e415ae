-- A tournament that stands.
use Rattle.std.specs.Prelude.{◌≡◌, ℕ, List, Some, Option}
use Rattle.fairway.specs.Times.{Time}
use Rattle.fairway.specs.Courses.{Due}
use Rattle.fairway.specs.Standing.{InOrderOrDue}
use Rattle.fairway.specs.declared.course.Course.{Course}
use Rattle.tournament.specs.Matches.{certificate_at}

-- P of each certificate
abbrev pub Each : List (Option Course) → (Course → Course → Type 0) → Type 0
Each nodes P = (i : ℕ) (rear front : Course) → certificate_at nodes i ≡ Some (rear, front) → P rear front

-- each certificate is in order or due
abbrev pub StandsAt : Time → List (Option Course) → Type 0
StandsAt t nodes = Each nodes (InOrderOrDue t)

-- no certificate is due
abbrev pub NoneDueAt : Time → List (Option Course) → Type 0
NoneDueAt t nodes = Each nodes (λ rear front. Due t rear front → ⊥)
