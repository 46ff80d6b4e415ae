-- Records that were collected step by step are in front of those of the steps that are left.
use Rattle.std.proofs.Common.{List, ◌++◌, Result, Ok, Err}
use Rattle.trace.specs.declared.fault.Stop.{Stop}
use Rattle.trace.specs.declared.records.Record.{Record}

abbrev pub behind : List Record → Result (List Record) Stop → Result (List Record) Stop
behind front (Ok records) = Ok (front ++ records)
behind front (Err stop) = Err stop
