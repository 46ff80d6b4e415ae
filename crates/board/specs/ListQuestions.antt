-- What a board over the sorted list answers beside what every board does.
use Rattle.std.specs.Prelude.{◌≡◌, ℕ, ◌+◌, not, List, [], ◌∷◌, is_some, ◌-ℤ◌, Some, None, Ok, Err, Option, Result, nat_eq}
use Rattle.event_queue.specs.Queues as queues
use Rattle.event_queue.specs.Refusals.{◌when◌, topmost}
use Rattle.fairway.specs.Courses.{place}
use Rattle.fairway.specs.Instants.{value}
use Rattle.fairway.specs.Rosters.{course_of}
use Rattle.fairway.specs.Stamps.{time_of}
use Rattle.fairway.specs.Times.{Time}
use Rattle.fairway.specs.declared.course.Course.{Course}
use Rattle.sorted_list.specs.Questions.{means, courses_of}
use Rattle.sorted_list.specs.Ranks.{in_front, NextAhead, NextBehind}
use Rattle.sorted_list.specs.Rosters.{next_after, next_before}
use Rattle.sorted_list.specs.declared.list.SortedList.{SortedList}
use Rattle.board.specs.Books.{Log, book}
use Rattle.board.specs.Claims.{IsOrderOf, AsListed}
use Rattle.board.specs.History.{Past}
use Rattle.board.specs.Tickets.{Ticket}
use Rattle.board.specs.declared.board.Board.{Board}
use Rattle.board.specs.declared.list.Length.{Length}
use Rattle.board.specs.declared.list.Neighbour.{Neighbour}
use Rattle.board.specs.declared.list.Side.{Side}
use Rattle.board.specs.declared.list.Side.TheVariants.{Ahead, Behind}
use Rattle.board.specs.declared.refusal.Refusal.{Refusal}
use Rattle.board.specs.declared.refusal.Refusal.TheVariants.{NumberZero, UnknownVessel}

-- the refusals of a question on one vessel
abbrev pub question_refusal : (ℕ → Option Course) → ℕ → Option Refusal
question_refusal roster number =
    topmost (
    NumberZero when nat_eq number 0 ∷
    UnknownVessel when not (is_some (roster number)) ∷ [])

-- the position of a course, in parts of a centimetre, as many to one as the time's denominator
abbrev pub position_of : Time → Course → Length
position_of t c = record { parts = place t c; denominator = t.den }

-- the front vessel's position less the rear's, likewise
abbrev pub gap_of : Time → Course → Course → Length
gap_of t rear front = record { parts = place t front -ℤ place t rear; denominator = t.den }

-- the vessel next on a side of c, as its neighbour
abbrev pub neighbour : Side → Time → Course → Option Course → Option Neighbour
neighbour side t c None = None
neighbour Ahead t c (Some d) = Some (record { number = d.number; gap = gap_of t c d })
neighbour Behind t c (Some d) = Some (record { number = d.number; gap = gap_of t d c })

-- the one that stands next on a side of the vessel v in a list
abbrev pub next_on : Side → ℕ → List Course → Option Course
next_on Ahead v xs = next_after v xs
next_on Behind v xs = next_before v xs

-- ---- what is answered of a vessel's course, at a time, among the vessels of a roster

-- one more than the number of vessels in front
abbrev pub RankIs : Time → List Course → Course → ℕ → Type 0
RankIs t roster c rank = rank ≡ in_front t c roster + 1

-- the position
abbrev pub PositionIs : Time → List Course → Course → Length → Type 0
PositionIs t roster c length = length ≡ position_of t c

-- of a roster it is the one next on that side at t; none where there is none
abbrev pub NextOn : Side → Time → (ℕ → Option Course) → Course → Option Course → Type 0
NextOn Ahead t roster c next = NextAhead t roster c next
NextOn Behind t roster c next = NextBehind t roster c next

-- the vessel next on a side, with the gap; or none
pub record NeighbourIs (side : Side) (t : Time) (roster : List Course) (c : Course) (answer : Option Neighbour) : Type 0 where
  pub next : Option Course
  pub is_next : NextOn side t (course_of roster) c next
  pub answer_is : answer ≡ neighbour side t c next

-- ---- questions on the vessel v of a roster

-- the question is accepted, and P holds of the vessel's course and the answer
pub record Answered {A : Type 0} (roster : List Course) (v : ℕ) (P : Course → A → Type 0) (answer : A) : Type 0 where
  pub accepted : question_refusal (course_of roster) v ≡ None
  pub course : Course
  pub aboard : course_of roster v ≡ Some course
  pub answer_is : P course answer

-- what a question on a vessel answers: P of its course and the answer, or why the question is refused
abbrev pub OfVessel : {A : Type 0} → List Course → ℕ → (Course → A → Type 0) → Result A Refusal → Type 0
OfVessel roster v P (Ok answer) = Answered roster v P answer
OfVessel roster v P (Err e) = question_refusal (course_of roster) v ≡ Some e

module _ {Q : Type 0} (n : queues.Meaning Q Ticket) (b : Board SortedList Q) where
  -- the clock as a time
  abbrev pub now : Time
  now = value b.clock

  -- the courses from rear to front; of a board with a past they are the only list of the
  -- book's vessels from rear to front at its clock, and the whole claim holds
  pub record OrderAnswer (answer : List Course) : Type 0 where
    pub value : answer ≡ courses_of b.structure
    pub booked : (log : Log) → Past means n b log → IsOrderOf (time_of (book log).clock) (book log).roster answer
    pub listed : (log : Log) → Past means n b log → AsListed n b log

  -- P is answered of the vessel v of the list; of a board with a past, R of that vessel of the book at its clock
  pub record Asked {A : Type 0} (v : ℕ) (P : Course → A → Type 0) (R : Time → List Course → Course → A → Type 0) (answer : Result A Refusal) : Type 0 where
    pub value : OfVessel (courses_of b.structure) v P answer
    pub booked : (log : Log) → Past means n b log → OfVessel (book log).roster v (R (time_of (book log).clock) (book log).roster) answer

  -- the course itself
  abbrev pub VesselAnswer : ℕ → Result Course Refusal → Type 0
  VesselAnswer v = OfVessel (courses_of b.structure) v (λ c course. course ≡ c)

  -- one more than the number of vessels in front at the clock, in the list and in the book
  abbrev pub RankAnswer : ℕ → Result ℕ Refusal → Type 0
  RankAnswer v = Asked v (RankIs now (courses_of b.structure)) RankIs

  -- the position at the clock
  abbrev pub PositionAnswer : ℕ → Result Length Refusal → Type 0
  PositionAnswer v = Asked v (PositionIs now (courses_of b.structure)) PositionIs

  -- the vessel that stands next in the list, with the gap at the clock; it is the one next in the book
  abbrev pub NeighbourAnswer : Side → ℕ → Result (Option Neighbour) Refusal → Type 0
  NeighbourAnswer side v = Asked v (λ c answer. answer ≡ neighbour side now c (next_on side v (courses_of b.structure))) (NeighbourIs side)
