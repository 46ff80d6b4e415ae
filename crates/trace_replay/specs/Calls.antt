-- The calls that a trace records.
use Rattle.std.specs.Prelude.{Some, None, Option}
use Rattle.board.specs.declared.call.Call.{Call}
use Rattle.board.specs.declared.call.Call.TheVariants as call
use Rattle.trace.specs.declared.records.Record.{Record}
use Rattle.trace.specs.declared.records.Record.TheVariants.{Enter, Leave, Steer, Advance, Order, End}

-- the call that a record records; an order line and the end record none
abbrev pub call_of : Record → Option Call
call_of (Enter number position speed) = Some (call.Enter number position speed)
call_of (Leave number) = Some (call.Leave number)
call_of (Steer number speed) = Some (call.Steer number speed)
call_of (Advance seconds numerator denominator) = Some (call.Advance seconds numerator denominator)
call_of Order = None
call_of End = None
