-- What a board answers: its own state, and of a board with a past what the book says.
use Rattle.std.specs.Prelude.{◌≡◌, ℕ, ◌≤◌, length, Option}
use Rattle.event_queue.specs.Queues as queues
use Rattle.fairway.specs.Instants.{stamp_of}
use Rattle.fairway.specs.Rosters.{course_of}
use Rattle.fairway.specs.Stamps.{time_of}
use Rattle.fairway.specs.declared.instant.Instant.{Instant}
use Rattle.kinetic.specs.Structures as structures
use Rattle.kinetic.specs.Structures.{Front, vessels}
use Rattle.board.specs.Books.{Log, book, sum_since}
use Rattle.board.specs.History.{Past}
use Rattle.board.specs.Tickets.{Ticket}
use Rattle.board.specs.declared.board.Board.{Board}

module _ {S Q : Type 0} (m : structures.Meaning S) (n : queues.Meaning Q Ticket) where
  -- the clock is the book's
  pub record ClockAnswer (b : Board S Q) (answer : Instant) : Type 0 where
    pub value : answer ≡ b.clock
    pub booked : (log : Log) → Past m n b log → stamp_of answer ≡ (book log).clock

  -- as many vessels as the book has, and at most 64
  pub record AboardAnswer (b : Board S Q) (answer : ℕ) : Type 0 where
    pub value : answer ≡ vessels (m.roster b.structure)
    pub booked : (log : Log) → Past m n b log → answer ≡ length (book log).roster
    pub few : answer ≤ 64

  -- the total is the sum of the answers since the latest opening
  pub record TotalAnswer (b : Board S Q) (answer : ℕ) : Type 0 where
    pub value : answer ≡ b.total
    pub booked : (log : Log) → Past m n b log → answer ≡ sum_since log
    pub bounded : (log : Log) → Past m n b log → answer ≤ 33822867456

  -- the foremost is in front of all others of the book, at its clock
  pub record ForemostAnswer (b : Board S Q) (answer : Option ℕ) : Type 0 where
    pub value : answer ≡ m.foremost b.structure
    pub booked : (log : Log) → Past m n b log → Front (time_of (book log).clock) (course_of (book log).roster) answer
