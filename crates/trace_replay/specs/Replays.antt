-- What a replay does to a board, its rows and its page.
use Rattle.std.specs.Prelude.{◌≡◌, ℕ, ◌+◌, ◌<◌, ◌≤◌, List, [], ◌∷◌, ◌++◌, length, drop, Some, Ok, Err, Result}
use Rattle.event_queue.specs.Queues as queues
use Rattle.fairway.specs.Instants.{stamp_of}
use Rattle.sorted_list.specs.Questions.{means, courses_of}
use Rattle.sorted_list.specs.declared.list.SortedList.{SortedList}
use Rattle.lines.specs.Lines.{order_line, from_front}
use Rattle.trace.specs.Walks.{Step, walk_at}
use Rattle.trace.specs.declared.fault.Fault.{Fault as TraceFault}
use Rattle.trace.specs.declared.records.Record.{Record}
use Rattle.trace.specs.declared.records.Record.TheVariants.{Order, End}
use Rattle.board.specs.Books.{Log}
use Rattle.board.specs.Claims.{AsListed}
use Rattle.board.specs.History.{Past, AllHappened, Throughout}
use Rattle.board.specs.Outcomes.{Opened, Happened, rows_event}
use Rattle.board.specs.Passings.{Written}
use Rattle.board.specs.Tickets.{Ticket}
use Rattle.board.specs.declared.board.Board.{Board}
use Rattle.board.specs.declared.call.Call.{Call}
use Rattle.board.specs.declared.call.Outcome.TheVariants.{Accepted, Refused}
use Rattle.board.specs.declared.call.Row.{Row}
use Rattle.board.specs.declared.refusal.Refusal.{Refusal}
use Rattle.trace_replay.specs.Calls.{call_of}
use Rattle.trace_replay.specs.ByBook.{stopped}
use Rattle.trace_replay.specs.declared.fault.Cause.TheVariants as cause
use Rattle.trace_replay.specs.declared.fault.Fault.{Fault}

-- the order line of a board: its clock, and the numbers of its vessels from the front
abbrev pub line_of : {Q : Type 0} → Board SortedList Q → List ℕ
line_of b = order_line (stamp_of b.clock) (from_front (courses_of b.structure))

-- Where a replay is: the board; the events since it was opened, the newest first; the rows; what is written.
pub record Midway (Q : Type 0) : Type 0 where
  pub board : Board SortedList Q
  pub log : Log
  pub rows : List Row
  pub output : List ℕ

module _ {Q : Type 0} (n : queues.Meaning Q Ticket) (size : ℕ) where
  -- From s on, with a page of this size, the steps lead to s' and this answer.
  pub data Leads : Midway Q → List Step → Midway Q → Result ℕ Fault → Type 0 where
    -- no step is left
    over : {s : Midway Q} → Leads s [] s (Ok (length s.output))
    -- the end record
    end : {s s' : Midway Q} {place : ℕ} {steps : List Step} {answer : Result ℕ Fault} → Leads s steps s' answer → Leads s (Ok (place, End) ∷ steps) s' answer
    -- the board takes the call of a record; only an advance writes rows, from the first on
    call : {s s' : Midway Q} {b : Board SortedList Q} {rows : List Row} {place : ℕ} {record' : Record} {steps : List Step} {answer : Result ℕ Fault} (c : Call) (mends : ℕ) → call_of record' ≡ Some c
        → Happened means n s.board (rows_event c (Accepted mends) rows) b → Written mends s.rows rows
        → Leads (record { board = b; log = rows_event c (Accepted mends) rows ∷ s.log; rows = rows; output = s.output }) steps s' answer
        → Leads s (Ok (place, record') ∷ steps) s' answer
    -- the line of an order record fits the page
    line : {s s' : Midway Q} {place : ℕ} {steps : List Step} {answer : Result ℕ Fault} → length s.output + length (line_of s.board) ≤ size
        → Leads (record { board = s.board; log = s.log; rows = s.rows; output = s.output ++ line_of s.board }) steps s' answer
        → Leads s (Ok (place, Order) ∷ steps) s' answer
    -- the board refuses the call of a record
    refused : {s : Midway Q} {place : ℕ} {record' : Record} {steps : List Step} (c : Call) (e : Refusal) → call_of record' ≡ Some c
        → Happened means n s.board (rows_event c (Refused e) s.rows) s.board
        → Leads s (Ok (place, record') ∷ steps) (record { board = s.board; log = rows_event c (Refused e) s.rows ∷ s.log; rows = s.rows; output = s.output }) (Err (stopped cause.Refused (length s.output) place))
    -- the line does not fit, and nothing of it is written
    full : {s : Midway Q} {place : ℕ} {steps : List Step} → size < length s.output + length (line_of s.board)
        → Leads s (Ok (place, Order) ∷ steps) s (Err (stopped cause.NoRoom (length s.output) place))
    -- the trace has a fault here
    fault : {s : Midway Q} {stop : _} {steps : List Step} → Leads s (Err stop ∷ steps) s (Err (stopped (cause.Trace stop.fault) (length s.output) stop.place))

  -- The replay of the bytes after a header.
  pub record Replayed (bytes : List ℕ) (b b' : Board SortedList Q) (rows rows' : List Row) (page page' : List ℕ) (answer : Result ℕ Fault) : Type 0 where
    -- the board was opened, and the steps led from there to the end
    pub opened : Board SortedList Q
    pub was_opened : Opened means n b.queue opened
    pub last : Midway Q
    pub leads : Leads (record { board = opened; log = []; rows = rows; output = [] }) (walk_at 5 bytes) last answer
    pub board : b' ≡ last.board
    pub rows_are : rows' ≡ last.rows
    pub page_is : page' ≡ last.output ++ drop (length last.output) page
    -- the events of its log happened to the opened board, one after the other
    pub happened : AllHappened means n opened last.log last.board
    -- over a sound queue the board has them as its past, and the whole claim held at the opening and after each
    pub past : n.sound b.queue → Past means n b' last.log
    pub listed : n.sound b.queue → Throughout means n (AsListed n) happened

  -- a fault of the header leaves everything as it was
  abbrev pub Replays : Result (List ℕ) TraceFault → Board SortedList Q → Board SortedList Q → List Row → List Row → List ℕ → List ℕ → Result ℕ Fault → Type 0
  Replays (Ok bytes) b b' rows rows' page page' answer = Replayed bytes b b' rows rows' page page' answer
  Replays (Err e) b b' rows rows' page page' answer = (b' ≡ b) × (rows' ≡ rows) × (page' ≡ page) × (answer ≡ Err (stopped (cause.Trace e) 0 0))
