use Rattle.std.proofs.Common.{◌≡◌, ◌++◌, take}
use Rattle.std.specs.List.{flat_map}
use Rattle.trace.specs.Layout.{header, bytes_of}
use Rattle.trace.proofs.writing.write_trace.Given as goal

abbrev pub invariant-loop-record : goal.invariant-loop-record
invariant-loop-record l = l.trace.items ≡ header ++ flat_map bytes_of (take l.record-index l.records)
