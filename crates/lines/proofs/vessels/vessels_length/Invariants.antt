use Rattle.std.proofs.Common.{◌≡◌, ◌*◌, ◌≤◌, length, take}
use Rattle.lines.specs.Lines.{vessel_texts, from_front}
use Rattle.lines.proofs.vessels.vessels_length.Given as goal

abbrev pub invariant-loop-course : goal.invariant-loop-course
invariant-loop-course l = (l.length ≡ length (vessel_texts (from_front (take l.course-index l.courses)))) × (l.length ≤ 21 * l.course-index)
