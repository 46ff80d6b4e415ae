-- What one record does.
use Rattle.std.specs.Prelude.{◌≡◌, ℕ, ◌+◌, ◌<◌, ◌≤◌, List, ◌++◌, length, take, drop, Some, None, Ok, Err, Option, Result}
use Rattle.event_queue.specs.Queues as queues
use Rattle.sorted_list.specs.Questions.{means}
use Rattle.sorted_list.specs.declared.list.SortedList.{SortedList}
use Rattle.trace.specs.declared.records.Record.{Record}
use Rattle.trace.specs.declared.records.Record.TheVariants.{Order}
use Rattle.board.specs.Outcomes.{Happened, rows_event}
use Rattle.board.specs.Passings.{Written}
use Rattle.board.specs.Tickets.{Ticket}
use Rattle.board.specs.declared.board.Board.{Board}
use Rattle.board.specs.declared.call.Call.{Call}
use Rattle.board.specs.declared.call.Outcome.TheVariants.{Accepted, Refused}
use Rattle.board.specs.declared.call.Row.{Row}
use Rattle.board.specs.declared.refusal.Refusal.{Refusal}
use Rattle.trace.specs.Walks.{Step}
use Rattle.trace_replay.specs.ByBook.{stopped}
use Rattle.trace_replay.specs.Calls.{call_of}
use Rattle.trace_replay.specs.Replays.{line_of}
use Rattle.trace_replay.specs.declared.fault.Cause.{Cause}
use Rattle.trace_replay.specs.declared.fault.Cause.TheVariants as cause
use Rattle.trace_replay.specs.declared.fault.Fault.{Fault}

module _ {Q : Type 0} (n : queues.Meaning Q Ticket) (b b' : Board SortedList Q) where
  -- a call, accepted or refused
  abbrev pub CallDone : Call → List Row → List Row → ℕ → Result ℕ Cause → Type 0
  CallDone c rows rows' written (Ok w) = (w ≡ written) × (mends : ℕ) × Happened means n b (rows_event c (Accepted mends) rows') b' × Written mends rows rows'
  CallDone c rows rows' written (Err e) = (e ≡ cause.Refused) × (b' ≡ b) × (rows' ≡ rows) × (r : Refusal) × Happened means n b (rows_event c (Refused r) rows) b

-- the board's line behind the bytes that are written, or nothing of it
abbrev pub LineDone : List ℕ → List ℕ → List ℕ → ℕ → Result ℕ Cause → Type 0
LineDone line page page' written (Ok w) = (w ≡ written + length line) × (w ≤ length page) × (page' ≡ take written page ++ (line ++ drop w page))
LineDone line page page' written (Err e) = (e ≡ cause.NoRoom) × (length page < written + length line) × (page' ≡ page)

module _ {Q : Type 0} (n : queues.Meaning Q Ticket) (b b' : Board SortedList Q) (rows rows' : List Row) (page page' : List ℕ) (written : ℕ) where
  -- a record, with the call that it records: an order line, the end record, or a call
  abbrev pub RecordDone : Result ℕ Cause → Record → Option Call → Type 0
  RecordDone answer x (Some c) = CallDone n b b' c rows rows' written answer × (page' ≡ page)
  RecordDone answer Order None = LineDone (line_of b) page page' written answer × (b' ≡ b) × (rows' ≡ rows)
  RecordDone answer other None = (answer ≡ Ok written) × (b' ≡ b) × (rows' ≡ rows) × (page' ≡ page)

  -- a step of a walk: a record that is done or not, or a fault of the trace
  abbrev pub RecordOf : ℕ → Record → Result ℕ Fault → Type 0
  RecordOf place x (Ok w) = RecordDone (Ok w) x (call_of x)
  RecordOf place x (Err f) = (why : Cause) × (f ≡ stopped why written place) × RecordDone (Err why) x (call_of x)

  abbrev pub StepDone : Result ℕ Fault → Step → Type 0
  StepDone answer' (Ok step) = RecordOf step.0 step.1 answer'
  StepDone answer' (Err stop) = (answer' ≡ Err (stopped (cause.Trace stop.fault) written stop.place)) × (b' ≡ b) × (rows' ≡ rows) × (page' ≡ page)
