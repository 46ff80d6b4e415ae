-- A walk through a trace, record by record, with the place of each: how many bytes of the trace stand before it.
use Rattle.std.specs.Prelude.{◌≡◌, ℕ, zero, suc, ◌+◌, Bool, true, false, List, [], ◌∷◌, length, IsTrue, Ok, Err, Result, if◌then◌else◌}
use Rattle.std.specs.List.{AllByRecursion}
use Rattle.trace.specs.declared.fault.Fault.{Fault}
use Rattle.trace.specs.declared.fault.Fault.TheVariants.{Short, Trailing}
use Rattle.trace.specs.declared.fault.Stop.{Stop}
use Rattle.trace.specs.declared.records.Record.{Record}
use Rattle.trace.specs.declared.records.Record.TheVariants.{End}
use Rattle.trace.specs.Layout.{bytes_of, trace_of, Taken, read_record, read_header, FieldsFit}

-- a step of a walk: a record and its place, or why the walk stops here
abbrev pub Step : Type 0
Step = Result (ℕ × Record) Stop

-- a walk that stops at once, at this place
abbrev pub stopped : Fault → ℕ → List Step
stopped fault place = Err (record { fault = fault; place = place }) ∷ []

abbrev pub is_end : Record → Bool
is_end End = true
is_end other = false

-- an end record at this place, with these bytes after it
abbrev pub ended : ℕ → List ℕ → List Step
ended place [] = Ok (place, End) ∷ []
ended place (b ∷ bytes) = stopped Trailing (place + 1)

-- What was read at this place, and then what later walks from a place through some bytes.
abbrev pub walk_on : (ℕ → List ℕ → List Step) → ℕ → Taken → List Step
walk_on later place (Err fault) = stopped fault place
walk_on later place (Ok taken) =
    if is_end taken.0 then ended place taken.1
    else Ok (place, taken.0) ∷ later (place + length (bytes_of taken.0)) taken.1

-- The walk from this place through these bytes, of at most so many records before its last step.
abbrev pub walk_of : ℕ → ℕ → List ℕ → List Step
walk_of zero place bytes = stopped Short place
walk_of (suc most) place bytes = walk_on (walk_of most) place (read_record bytes)

-- The walk from this place through these bytes. Each record has a byte, so there are no more records than bytes.
abbrev pub walk_at : ℕ → List ℕ → List Step
walk_at place bytes = walk_of (length bytes) place bytes

-- the walk behind a header, whose faults are at place 0
abbrev pub behind_header : Result (List ℕ) Fault → List Step
behind_header (Err fault) = stopped fault 0
behind_header (Ok bytes) = walk_at 5 bytes

-- a reader's steps behind a header, or the header's fault
abbrev pub begun : Result (List ℕ) Fault → Result (List Step) Stop
begun (Err fault) = Err (record { fault = fault; place = 0 })
begun (Ok bytes) = Ok (walk_at 5 bytes)

-- The walk through a trace. Its last step is the end record, with nothing after it, or why the trace stops.
abbrev pub walk : List ℕ → List Step
walk trace = behind_header (read_header trace)

-- ---- a whole trace

-- a record in front of others
abbrev pub in_front : Record → Result (List Record) Stop → Result (List Record) Stop
in_front r (Ok records) = Ok (r ∷ records)
in_front r (Err stop) = Err stop

-- the records of a walk, or why it stops
abbrev pub records_of : List Step → Result (List Record) Stop
records_of [] = Ok []
records_of (Ok step ∷ steps) = in_front step.1 (records_of steps)
records_of (Err stop ∷ steps) = Err stop

-- the records of a trace, or why it stops
abbrev pub decode : List ℕ → Result (List Record) Stop
decode trace = records_of (walk trace)

-- the last record is the end record, and no other is
abbrev pub is_whole : List Record → Bool
is_whole [] = false
is_whole (r ∷ []) = is_end r
is_whole (r ∷ s ∷ records) = if is_end r then false else is_whole (s ∷ records)

-- Records are read from the bytes just where those are a trace of them, and they are whole.
pub record DecodesAsWritten (trace : List ℕ) : Type 0 where
  pub written : (records : List Record) → decode trace ≡ Ok records → AllByRecursion FieldsFit records × IsTrue (is_whole records) × (trace ≡ trace_of records)
  pub again : (records : List Record) → AllByRecursion FieldsFit records → IsTrue (is_whole records) → trace ≡ trace_of records → decode trace ≡ Ok records
