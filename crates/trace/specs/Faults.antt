-- The number of each fault of a trace.
use Rattle.std.specs.Prelude.{ℕ}
use Rattle.trace.specs.declared.fault.Fault.{Fault}
use Rattle.trace.specs.declared.fault.Fault.TheVariants.{Short, BadMark, BadVersion, UnknownKind, Trailing}

abbrev pub fault_number : Fault → ℕ
fault_number Short = 13
fault_number BadMark = 14
fault_number BadVersion = 15
fault_number UnknownKind = 16
fault_number Trailing = 17
