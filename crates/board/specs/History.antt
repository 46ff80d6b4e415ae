-- A board's past, and what holds of every board that has one.
use Rattle.std.specs.Prelude.{◌≡◌, ℕ, ◌≤◌, true, [], ◌∷◌, Some, Option}
use Rattle.event_queue.specs.Queues as queues
use Rattle.fairway.specs.Courses.{Level, faster}
use Rattle.fairway.specs.Fractions.{Coprime}
use Rattle.fairway.specs.Instants.{stamp_of}
use Rattle.fairway.specs.Orders.{Apart}
use Rattle.fairway.specs.Rosters.{course_of}
use Rattle.fairway.specs.Stamps.{time_of, den, BelowOne}
use Rattle.fairway.specs.declared.course.Course.{Course}
use Rattle.kinetic.specs.Structures as structures
use Rattle.kinetic.specs.Structures.{Front}
use Rattle.board.specs.Books.{Event, Log, book, sum_since}
use Rattle.board.specs.Boards.{Right}
use Rattle.board.specs.Outcomes.{Opened, Happened}
use Rattle.board.specs.Tickets.{Ticket, instant_of}
use Rattle.board.specs.declared.board.Board.{Board}

-- the ticket is of the instant, in lowest terms, at which the two draw level
pub record DrawsLevel (held : Option Ticket) (rear front : Course) : Type 0 where
  pub ticket : Ticket
  pub is_held : held ≡ Some ticket
  pub level_then : Level (time_of (instant_of ticket)) rear front
  pub below_one : BelowOne (instant_of ticket)
  pub lowest_terms : Coprime (instant_of ticket).numerator (den (instant_of ticket))

module _ {S Q : Type 0} (m : structures.Meaning S) (n : queues.Meaning Q Ticket) where
  -- The past of a board: it was made or opened over a sound queue; or it has a past, and then an event
  -- happened to the board which that past left.
  pub data Past : Board S Q → Log → Type 0 where
    opened : {q : Q} {b : Board S Q} → n.sound q → Opened m n q b → Past b []
    then : {b b' : Board S Q} {log : Log} {e : Event} → Past b log → Happened m n b e b' → Past b' (e ∷ log)

  -- Book and tickets.
  pub record AsBooked (b : Board S Q) (log : Log) : Type 0 where
    -- clock and roster are the book's, in which no number stands twice
    pub clock : stamp_of b.clock ≡ (book log).clock
    pub roster : (v : ℕ) → m.roster b.structure v ≡ course_of (book log).roster v
    pub apart : Apart (book log).roster
    -- a certificate whose rear is the faster has, under its number, the instant at which the two draw level
    pub ticket_there : (i : ℕ) (r f : Course) → m.certificate b.structure i ≡ Some (r, f) → faster r f ≡ true → DrawsLevel (n.held b.queue i) r f
    -- and no other number has a ticket
    pub no_other : (i : ℕ) (k : Ticket) → n.held b.queue i ≡ Some k → (r : Course) × (f : Course) × (m.certificate b.structure i ≡ Some (r, f)) × (faster r f ≡ true)
    -- the total is the sum of the answers since the latest opening, and never passes its bound
    pub total : b.total ≡ sum_since log
    pub total_bounded : b.total ≤ 33822867456
    -- the foremost is in front of all others of the book
    pub foremost : Front (time_of (book log).clock) (course_of (book log).roster) (m.foremost b.structure)
    -- and the board is right
    pub right : Right m n b

  -- The events of a log, of which the newest stands first, happened one after the other from the board b on.
  pub data AllHappened (b : Board S Q) : Log → Board S Q → Type 0 where
    nothing : AllHappened b [] b
    next : {b' b'' : Board S Q} {log : Log} {e : Event} → AllHappened b log b' → Happened m n b' e b'' → AllHappened b (e ∷ log) b''

  -- P of the board and its log at the start of these events, and after each of them
  abbrev pub Throughout : {b b' : Board S Q} {log : Log} → (Board S Q → Log → Type 0) → AllHappened b log b' → Type 0
  Throughout {b} P nothing = P b []
  Throughout P (next {b'' = b''} {log = log} {e = e} before happened) = Throughout P before × P b'' (e ∷ log)

  -- What each call promises: the event happened; and if the board had a past, it has that past and this
  -- event, and is as booked.
  pub record Adds (b : Board S Q) (e : Event) (b' : Board S Q) : Type 0 where
    pub happened : Happened m n b e b'
    pub past : (log : Log) → Past b log → Past b' (e ∷ log)
    pub booked : (log : Log) → Past b log → AsBooked b' (e ∷ log)
