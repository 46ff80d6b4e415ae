-- What the call that reads a whole trace answers.
use Rattle.std.specs.Prelude.{◌≡◌, List, Ok, Err, Result}
use Rattle.std.specs.Global.{Vec}
use Rattle.trace.specs.declared.fault.Stop.{Stop}
use Rattle.trace.specs.declared.records.Record.{Record}
use Rattle.trace.specs.declared.whole.ReadError.{ReadError}
use Rattle.trace.specs.declared.whole.ReadError.TheVariants.{Memory, Stopped}

-- The answer is what was decoded, unless memory was wanting.
abbrev pub Gives : Result (Vec Record) ReadError → Result (List Record) Stop → Type 0
Gives (Ok records) decoded = decoded ≡ Ok records.items
Gives (Err (Stopped stop)) decoded = decoded ≡ Err stop
Gives (Err Memory) decoded = Unit {0}
