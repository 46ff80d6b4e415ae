use Rattle.std.proofs.Common.{length}
use Rattle.trace_text.proofs.Texts.{ReadSoFar}
use Rattle.trace_text.proofs.text.read_text.Given as goal

-- the text is that of the records so far, and then what is left
abbrev pub invariant-loop-rest : goal.invariant-loop-rest
invariant-loop-rest l = ReadSoFar l.text l.records.items l.rest

abbrev pub decreases-loop-rest : goal.decreases-loop-rest
decreases-loop-rest l = length l.rest
