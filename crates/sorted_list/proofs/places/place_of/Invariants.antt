use Rattle.std.proofs.Common.{◌-◌, ◌≤◌, length}
use Rattle.sorted_list.specs.Places.{NoneBefore}
use Rattle.sorted_list.proofs.places.place_of.Given as goal

abbrev pub invariant-loop-place : goal.invariant-loop-place
invariant-loop-place l = (l.place ≤ length l.courses) × NoneBefore l.courses l.place l.number

abbrev pub decreases-loop-place : goal.decreases-loop-place
decreases-loop-place l = length l.courses - l.place
