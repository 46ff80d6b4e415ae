use Rattle.std.proofs.Common.{◌≡◌, take, string_bytes}
use Rattle.std.specs.List.{flat_map}
use Rattle.trace_text.specs.Text.{whole_line}
use Rattle.trace_text.proofs.text.write_text.Given as goal

abbrev pub invariant-loop-record : goal.invariant-loop-record
invariant-loop-record l = string_bytes l.text ≡ flat_map whole_line (take l.record-index l.records)
