-- The number of each cause for which a replay stops.
use Rattle.std.specs.Prelude.{ℕ}
use Rattle.trace.specs.Faults.{fault_number}
use Rattle.trace_replay.specs.declared.fault.Cause.{Cause}
use Rattle.trace_replay.specs.declared.fault.Cause.TheVariants.{Trace, Refused, NoRoom}

abbrev pub cause_number : Cause → ℕ
cause_number (Trace fault) = fault_number fault
cause_number Refused = 18
cause_number NoRoom = 19
