use Rattle.std.proofs.Common.{take}
use Rattle.lines.specs.Lines.{vessel_texts, from_front}
use Rattle.lines.specs.Puts.{Put}
use Rattle.lines.proofs.vessels.put_vessels.Given as goal

abbrev pub invariant-loop-course : goal.invariant-loop-course
invariant-loop-course l = Put (vessel_texts (from_front (take l.course-index l.courses))) l.fn.page l.page l.fn.end l.start
