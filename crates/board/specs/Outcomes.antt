-- What each call does to a board.
use Rattle.std.specs.Prelude.{◌≡◌, ℕ, ◌+◌, ◌-◌, ◌^◌, ◌≤◌, false, min, List, [], length, take, Some, None, Ok, Err, Option, Result, ◌≢◌}
use Rattle.std.specs.List.{AllByRecursion}
use Rattle.std.specs.List.Sorted.{IsSortedBy}
use Rattle.event_queue.specs.Queues as queues
use Rattle.fairway.specs.Instants.{stamp_of}
use Rattle.fairway.specs.Rosters.{changed_by}
use Rattle.fairway.specs.Stamps.{earlier}
use Rattle.fairway.specs.declared.course.Course.{Course}
use Rattle.fairway.specs.declared.stamp.Stamp.{Stamp}
use Rattle.kinetic.specs.Structures as structures
use Rattle.board.specs.Books.{start_stamp, course_at, at_speed, goal, Event, mends_of}
use Rattle.board.specs.Tickets.{Ticket, QueueKept}
use Rattle.board.specs.Boards.{Right, refusal}
use Rattle.board.specs.Passings.{RowRight, Passings}
use Rattle.board.specs.declared.board.Board.{Board}
use Rattle.board.specs.declared.call.Call.{Call}
use Rattle.board.specs.declared.call.Call.TheVariants.{Open, Enter, Leave, Steer, Advance}
use Rattle.board.specs.declared.call.Outcome.{Outcome}
use Rattle.board.specs.declared.call.Outcome.TheVariants.{Accepted, Refused}
use Rattle.board.specs.declared.call.Row.{Row}
use Rattle.board.specs.declared.refusal.Refusal.{Refusal}

-- rows in order of their instants
abbrev pub InTime : List Row → Type 0
InTime rows = IsSortedBy (λ a b. earlier a.at b.at) rows

module _ {S Q : Type 0} (m : structures.Meaning S) (n : queues.Meaning Q Ticket) where
  -- an opening leaves a cleared structure, without a vessel, the clock and the total at 0, and over a sound queue a right
  -- board
  pub record Opened (q : Q) (b' : Board S Q) : Type 0 where
    pub cleared : structures.Cleared m b'.structure
    pub roster : (v : ℕ) → m.roster b'.structure v ≡ None
    pub clock : stamp_of b'.clock ≡ start_stamp
    pub total : b'.total ≡ 0
    -- as many ticket numbers as the queue has
    pub capacity : b'.capacity ≡ n.capacity b'.queue
    pub queue : QueueKept n q b'.queue
    pub right : n.sound q → Right m n b'

  -- one vessel's course is another, new, or none; the others, the clock and the total are as they were,
  -- and a right board is left right
  pub record Changed (b b' : Board S Q) (v : ℕ) (course : Option Course) : Type 0 where
    pub there : m.roster b'.structure v ≡ course
    pub others : (k : ℕ) → (k ≢ v) → m.roster b'.structure k ≡ m.roster b.structure k
    pub clock : b'.clock ≡ b.clock
    pub capacity : b'.capacity ≡ b.capacity
    pub total : b'.total ≡ b.total
    pub queue : QueueKept n b.queue b'.queue
    pub right : Right m n b → Right m n b'

  -- the mends of an advance of a right board to an instant, and their rows
  pub record Passed (b b' : Board S Q) (to : Stamp) (mends : ℕ) (rows : List Row) : Type 0 where
    pub right : Right m n b'
    pub total : b'.total ≡ b.total + mends
    pub counted : length rows ≡ mends
    pub few : m.load b'.structure + mends ≤ m.load b.structure
    pub each : AllByRecursion (RowRight (m.roster b.structure) (stamp_of b.clock) to) rows
    pub in_time : InTime rows
    pub last : Stamp
    pub passings : Passings m (stamp_of b.clock) to b.structure last rows b'.structure

  -- an advance sets the clock, the courses are as they were, and the mends are added to the total, up to the greatest
  -- number of 64 bits
  pub record Moved (b b' : Board S Q) (to : Stamp) (mends : ℕ) (rows : List Row) : Type 0 where
    pub onward : earlier to (stamp_of b.clock) ≡ false
    pub roster : (v : ℕ) → m.roster b'.structure v ≡ m.roster b.structure v
    pub clock : stamp_of b'.clock ≡ to
    pub capacity : b'.capacity ≡ b.capacity
    pub added : b'.total ≡ min (b.total + mends) (2 ^ 64 - 1)
    pub queue : QueueKept n b.queue b'.queue
    pub passed : Right m n b → Passed b b' to mends rows

  -- an accepted call: only an advance mends and writes rows
  abbrev pub Does : Board S Q → Call → ℕ → List Row → Board S Q → Type 0
  Does b Open mends rows b' = (mends ≡ 0) × Opened b.queue b'
  Does b (Enter number position speed) mends rows b' = (mends ≡ 0) × Changed b b' number (Some (course_at number position speed b.clock.seconds))
  Does b (Leave number) mends rows b' = (mends ≡ 0) × Changed b b' number None
  Does b (Steer number speed) mends rows b' = (mends ≡ 0) × Changed b b' number (changed_by (at_speed speed b.clock.seconds) (m.roster b.structure number))
  Does b (Advance s n d) mends rows b' = Moved b b' (goal s n d) mends rows

  -- a call comes out as the table of refusals says: a refused one leaves everything as it was
  abbrev pub Comes : Board S Q → Call → ℕ → Outcome → List Row → Board S Q → Type 0
  Comes b call lent (Accepted mends) rows b' = (refusal m n b call lent ≡ None) × Does b call mends rows b'
  Comes b call lent (Refused e) rows b' = (refusal m n b call lent ≡ Some e) × (b' ≡ b)

  -- the event happened to the board b, and left b'
  abbrev pub Happened : Board S Q → Event → Board S Q → Type 0
  Happened b e b' = Comes b e.call e.lent e.outcome e.rows b'

-- the outcome of a call that does not mend, by its answer
abbrev pub done : Result Unit Refusal → Outcome
done (Ok u) = Accepted 0
done (Err e) = Refused e

-- the outcome of an advance, by its answer
abbrev pub advanced : Result ℕ Refusal → Outcome
advanced (Ok mends) = Accepted mends
advanced (Err e) = Refused e

-- the event of a call that is given no rows
abbrev pub plain_event : Call → Outcome → Event
plain_event call outcome = record { call = call; lent = 0; outcome = outcome; rows = [] }

-- the event of a call that was lent rows and left them so
abbrev pub rows_event : Call → Outcome → List Row → Event
rows_event call outcome rows = record { call = call; lent = length rows; outcome = outcome; rows = take (mends_of outcome) rows }
