use native.Mathlib.Nat.{eq-one_of_dvd-one}
use Rattle.fairway.proofs.instant.Instant.start.Goals as goal

pub invariant_of-result-clause-lowest : goal.invariant_of-result-clause-lowest
invariant_of-result-clause-lowest c k h i = eq-one_of_dvd-one i
