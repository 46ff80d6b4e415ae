use Rattle.fairway.specs.Stamps.{time_of}
use Rattle.kinetic.proofs.Settling.{Midway}
use Rattle.kinetic.proofs.settle.settle.Given as goal

abbrev pub invariant-loop : goal.invariant-loop
invariant-loop g l = Midway g.S.Structure.means (time_of l.at) l.initial.structure l.structure l.counter
