use Rattle.std.proofs.Common.{arith}
use Rattle.std.proofs.lemmas.Nat.Gcd.{IsGcd-from_zero, IsGcd-from_mod}
use Rattle.fairway.proofs.Fractions.{common_divisor}
use Rattle.fairway.proofs.euclid.greatest_common_divisor.Goals as goal

pub loop-rest-preserved : goal.loop-rest-preserved
loop-rest-preserved c g h = c.loop-rest.invariant g (IsGcd-from_mod c.loop-rest.divisor c.loop-rest.rest g h)

pub returns : goal.returns
returns c =
    let i = IsGcd-from_zero c.loop-rest.divisor c.loop-rest.rest (omega arith) in
    common_divisor c.args.a c.args.b c.loop-rest.divisor (c.loop-rest.invariant c.loop-rest.divisor i)
