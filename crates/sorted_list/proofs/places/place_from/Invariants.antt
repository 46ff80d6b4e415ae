use Rattle.std.proofs.Common.{◌≡◌, ◌+◌}
use Rattle.sorted_list.specs.Places.{NoneBefore}
use Rattle.sorted_list.proofs.places.place_from.Given as goal

abbrev pub invariant-loop-course : goal.invariant-loop-course
invariant-loop-course l = (l.place ≡ l.start + l.course-index) × NoneBefore l.courses l.place l.number
