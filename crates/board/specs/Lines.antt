-- A list of calls that was performed, as a log.
use Rattle.std.specs.Prelude.{◌≡◌, ℕ, ◌+◌, List, [], ◌∷◌, map, reverse, length, take, drop}
use Rattle.event_queue.specs.Queues as queues
use Rattle.kinetic.specs.Structures as structures
use Rattle.board.specs.Books.{Event, Log, mends_of}
use Rattle.board.specs.History.{Past, AllHappened, Throughout, AsBooked}
use Rattle.board.specs.Outcomes.{Opened}
use Rattle.board.specs.Passings.{Written}
use Rattle.board.specs.Tickets.{Ticket}
use Rattle.board.specs.declared.board.Board.{Board}
use Rattle.board.specs.declared.call.Call.{Call}
use Rattle.board.specs.declared.call.Line.{Line}
use Rattle.board.specs.declared.call.Row.{Row}

-- the calls of a list
abbrev pub calls_of : List Line → List Call
calls_of lines = map (λ l. l.call) lines

-- how many rows the lines wrote
abbrev pub rows_used : List Line → ℕ
rows_used [] = 0
rows_used (l ∷ lines) = mends_of l.outcome + rows_used lines

-- the lines as events, the first first: each was lent the rows that were left, and wrote the first of them
abbrev pub events : List Line → List Row → List Event
events [] rows = []
events (l ∷ lines) rows =
    record { call = l.call; lent = length rows; outcome = l.outcome; rows = take (mends_of l.outcome) rows }
    ∷ events lines (drop (mends_of l.outcome) rows)

abbrev pub log_of : List Line → List Row → Log
log_of lines rows = reverse (events lines rows)

-- The board was opened, and then each call of the list was performed and its outcome written in its line;
-- the rows stand one after the other. Over a sound queue the lines are the board's past, and the board
-- that was opened was as booked, and so was each that a call of this run left.
pub record Performed {S Q : Type 0} (m : structures.Meaning S) (n : queues.Meaning Q Ticket) (b b' : Board S Q) (lines lines' : List Line) (rows rows' : List Row) (used : ℕ) : Type 0 where
  pub calls : calls_of lines' ≡ calls_of lines
  pub used_is : used ≡ rows_used lines'
  pub written : Written used rows rows'
  pub opened : Board S Q
  pub was_opened : Opened m n b.queue opened
  pub happened : AllHappened m n opened (log_of lines' rows') b'
  pub past : n.sound b.queue → Past m n b' (log_of lines' rows')
  pub booked : n.sound b.queue → Throughout m n (AsBooked m n) happened
  -- over a sound queue every board that events lead to from the opened one is as booked
  pub every : n.sound b.queue → (log : Log) (b1 : Board S Q) → AllHappened m n opened log b1 → AsBooked m n b1 log
