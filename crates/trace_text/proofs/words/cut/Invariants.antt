use Rattle.std.proofs.Common.{◌≡◌, take, drop}
use Rattle.trace_text.specs.Parsing.{cut}
use Rattle.trace_text.proofs.Cuts.{put_front}
use Rattle.trace_text.proofs.words.cut.Given as goal

-- the bytes so far, in front of what is cut from the others
abbrev pub invariant-loop-end : goal.invariant-loop-end
invariant-loop-end l = put_front (take l.end l.bytes) (cut l.at (drop l.end l.bytes)) ≡ cut l.at l.bytes
