-- Worked meetings: calls and questions with what is answered, and that the book answers the same.
use Rattle.std.specs.Prelude.{◌≡◌, ℕ, List, [], ◌∷◌, map, reverse, Some, None, Option}
use Rattle.std.specs.List.{AllByRecursion}
use Rattle.fairway.specs.Meetings.{level}
use Rattle.fairway.specs.Orders.{order}
use Rattle.fairway.specs.Rosters.{course_of}
use Rattle.fairway.specs.Stamps.{time_of}
use Rattle.fairway.specs.declared.course.Course.{Course}
use Rattle.fairway.specs.declared.stamp.Stamp.{Stamp}
use Rattle.sorted_list.specs.Rosters.{next_after}
use Rattle.board.specs.Books.{Book, Event, Log, book, sum_since}
use Rattle.board.specs.ListQuestions.{position_of, neighbour}
use Rattle.board.specs.Reckoning.{outcome_by_book}
use Rattle.board.specs.declared.list.Length.{Length}
use Rattle.board.specs.declared.list.Neighbour.{Neighbour}
use Rattle.board.specs.declared.list.Side.TheVariants.{Ahead}
use Rattle.meetings.specs.declared.told.Told.{Told}

-- A line of a meeting: a call or a question, with its answer.
pub data Step : Type 0 where
  -- a call with the number of rows that it is lent, and what comes of it
  told : Told → Step
  -- the numbers of the vessels, the foremost first
  from_front : List ℕ → Step
  -- for each vessel but the foremost, from the rear on: when it draws level with the next in front, if ever
  tickets : List (Option Stamp) → Step
  -- the sum of the answers of the advances
  total : ℕ → Step
  -- the position of a vessel, where it is aboard
  position : ℕ → Option Length → Step
  -- the vessel next in front of a vessel, with the gap, where there is one
  ahead : ℕ → Option Neighbour → Step

-- calls and questions, the first first
abbrev pub Meeting : Type 0
Meeting = List Step

-- the calls of a meeting
abbrev pub calls_of : Meeting → List Told
calls_of [] = []
calls_of (told line ∷ rest) = line ∷ calls_of rest
calls_of (from_front answer ∷ rest) = calls_of rest
calls_of (tickets answer ∷ rest) = calls_of rest
calls_of (total answer ∷ rest) = calls_of rest
calls_of (position number answer ∷ rest) = calls_of rest
calls_of (ahead number answer ∷ rest) = calls_of rest

-- ---- what the book answers

-- the courses of the book at its clock, from rear to front
abbrev pub ordered : Book → List Course
ordered k = order (time_of k.clock) k.roster

-- the vessels at its clock, the foremost first
abbrev pub numbers_from_front : Book → List ℕ
numbers_from_front k = map (λ c. c.number) (reverse (ordered k))

-- of courses from rear to front: when each draws level with the one that comes next
abbrev pub levels : List Course → List (Option Stamp)
levels [] = []
levels (x ∷ []) = []
levels (x ∷ y ∷ ys) = level x y ∷ levels (y ∷ ys)

-- where a vessel with this course is
abbrev pub position_in : Book → Option Course → Option Length
position_in k None = None
position_in k (Some c) = Some (position_of (time_of k.clock) c)

-- which vessel comes next after one with this course, and how far ahead it is
abbrev pub ahead_in : Book → Option Course → Option Neighbour
ahead_in k None = None
ahead_in k (Some c) = neighbour Ahead (time_of k.clock) c (next_after c.number (ordered k))

-- the same call, with what comes of it by the book, on a board with a queue of capacity 64
abbrev pub told_by_book : Book → Told → Told
told_by_book k line = record { call = line.call; lent = line.lent; outcome = outcome_by_book 64 line.lent k line.call }

-- it as an event; which rows a call wrote does not matter to the book
abbrev pub event : Told → Event
event line = record { call = line.call; lent = line.lent; outcome = line.outcome; rows = [] }

-- the meeting with the book's answers in place of its own, after a log
abbrev pub by_book : Log → Meeting → Meeting
by_book log [] = []
by_book log (told line ∷ rest) =
    told (told_by_book (book log) line) ∷ by_book (event (told_by_book (book log) line) ∷ log) rest
by_book log (from_front answer ∷ rest) = from_front (numbers_from_front (book log)) ∷ by_book log rest
by_book log (tickets answer ∷ rest) = tickets (levels (ordered (book log))) ∷ by_book log rest
by_book log (total answer ∷ rest) = total (sum_since log) ∷ by_book log rest
by_book log (position number answer ∷ rest) =
    position number (position_in (book log) (course_of (book log).roster number)) ∷ by_book log rest
by_book log (ahead number answer ∷ rest) =
    ahead number (ahead_in (book log) (course_of (book log).roster number)) ∷ by_book log rest

-- each answer of the meeting, from an empty waterway at second 0, is the book's
abbrev pub Holds : Meeting → Type 0
Holds meeting = by_book [] meeting ≡ meeting

-- each meeting of the table holds
abbrev pub AllHold : List Meeting → Type 0
AllHold meetings = AllByRecursion Holds meetings
