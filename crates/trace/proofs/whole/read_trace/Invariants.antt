use Rattle.std.proofs.Common.{◌≡◌, length}
use Rattle.trace.specs.Walks.{records_of, decode}
use Rattle.trace.proofs.Collecting.{behind}
use Rattle.trace.proofs.whole.read_trace.Given as goal

-- the records so far, and behind them those of the steps that are left
abbrev pub invariant-loop-step : goal.invariant-loop-step
invariant-loop-step l = behind l.records.items (records_of l.reader) ≡ decode l.trace

abbrev pub decreases-loop-step : goal.decreases-loop-step
decreases-loop-step l = length l.reader
