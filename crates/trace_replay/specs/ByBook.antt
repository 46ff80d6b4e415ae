-- What the plain book makes of a trace: the bytes that are written, and the answer.
use Rattle.std.specs.Prelude.{◌≡◌, ℕ, ◌+◌, drop, Bool, List, [], ◌∷◌, ◌++◌, length, Some, None, Ok, Err, Option, Result, nat_le, if◌then◌else◌}
use Rattle.fairway.specs.Orders.{order}
use Rattle.fairway.specs.Stamps.{time_of}
use Rattle.lines.specs.Lines.{order_line, from_front}
use Rattle.trace.specs.Walks.{Step, walk}
use Rattle.trace.specs.declared.records.Record.{Record}
use Rattle.trace.specs.declared.records.Record.TheVariants.{Order}
use Rattle.board.specs.Books.{Book, start, accepted}
use Rattle.board.specs.Reckoning.{refusal_by_book}
use Rattle.board.specs.declared.call.Call.{Call}
use Rattle.board.specs.declared.refusal.Refusal.{Refusal}
use Rattle.trace_replay.specs.Calls.{call_of}
use Rattle.trace_replay.specs.declared.fault.Cause.{Cause}
use Rattle.trace_replay.specs.declared.fault.Cause.TheVariants.{Trace, Refused, NoRoom}
use Rattle.trace_replay.specs.declared.fault.Fault.{Fault}

-- a replay that stops, with so many bytes written
abbrev pub stopped : Cause → ℕ → ℕ → Fault
stopped cause written place = record { cause = cause; written = written; place = place }

-- the order line of the book: its clock, and the numbers of its vessels from the front
abbrev pub line_by_book : Book → List ℕ
line_by_book k = order_line k.clock (from_front (order (time_of k.clock) k.roster))

-- what was written, and what is answered
pub record Told : Type 0 where
  pub output : List ℕ
  pub answer : Result ℕ Fault

abbrev pub told : List ℕ → Result ℕ Fault → Told
told output answer = record { output = output; answer = answer }

-- the next step is made, or the replay stops
abbrev pub Later : Type 0
Later = Book → List ℕ → Told

-- a call: refused, or written into the book
abbrev pub told_call : Later → Book → List ℕ → ℕ → Call → Option Refusal → Told
told_call later k output place call None = later (accepted k call) output
told_call later k output place call (Some refusal) = told output (Err (stopped Refused (length output) place))

-- an order line, where it fits a page of this size
abbrev pub told_line : Later → Book → List ℕ → ℕ → List ℕ → Bool → Told
told_line later k output place line fits = if fits then later k (output ++ line) else told output (Err (stopped NoRoom (length output) place))

-- of a board with a queue of this capacity, that is lent so many rows, and a page of this size
module _ (capacity lent size : ℕ) where
  abbrev pub told_record : Later → Book → List ℕ → ℕ → Record → Option Call → Told
  told_record later k output place entry (Some call) = told_call later k output place call (refusal_by_book capacity lent k call)
  told_record later k output place Order None = told_line later k output place (line_by_book k) (nat_le (length output + length (line_by_book k)) size)
  told_record later k output place other None = later k output

  -- what the steps of a walk come to, from a book and what is written already
  abbrev pub told_steps : List Step → Later
  told_steps [] k output = told output (Ok (length output))
  told_steps (Err stop ∷ steps) k output = told output (Err (stopped (Trace stop.fault) (length output) stop.place))
  told_steps (Ok step ∷ steps) k output = told_record (told_steps steps) k output step.0 step.1 (call_of step.1)

  -- what a trace comes to
  abbrev pub told_trace : List ℕ → Told
  told_trace trace = told_steps (walk trace) start []

-- a page and an answer are as they were told; what is behind the bytes that are written is as it was
pub record Tells (t : Told) (page page' : List ℕ) (answer : Result ℕ Fault) : Type 0 where
  pub answer_is : answer ≡ t.answer
  pub page_is : page' ≡ t.output ++ drop (length t.output) page
