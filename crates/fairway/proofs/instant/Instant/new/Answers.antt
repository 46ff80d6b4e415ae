use Rattle.std.proofs.Common.{◌≡◌, ℕ, ◌≤◌, false, arith, rules}
use Rattle.std.specs.Ordering.{is_gt, ordering_then, nat_cmp}
use Rattle.std.proofs.lemmas.Bool.Decides.{nat_tests}
use Rattle.fairway.proofs.Instants.{lowered, accepted}
use Rattle.fairway.proofs.instant.Instant.new.Goals as goal

up_to_last : (s n : ℕ) → is_gt (ordering_then (nat_cmp s 16777216) (nat_cmp n 0)) ≡ false → (s ≤ 16777216) × (s ≡ 16777216 → n ≡ 0)
up_to_last s n e = (grind (arith, nat_tests), λ i. grind (arith, nat_tests))

pub invariant_of-result : goal.invariant_of-result
invariant_of-result c =
    let l = lowered c.args.seconds c.args.numerator c.args.denominator c.greatest_common_divisor-common.result (omega arith) c.greatest_common_divisor-common.ensures in
    let d : c.args.denominator ≤ 1000 = search rules in
    let u = up_to_last c.args.seconds c.args.numerator (search rules) in
    record { below = l.below; lowest = l.coprime; fine = omega (arith, l.smaller); bounded = u.0; last = λ e. l.nothing (u.1 e) }

pub returns : goal.returns
returns c =
    let l = lowered c.args.seconds c.args.numerator c.args.denominator c.greatest_common_divisor-common.result (omega arith) c.greatest_common_divisor-common.ensures in
    let d : c.args.denominator ≤ 1000 = search rules in
    let u = up_to_last c.args.seconds c.args.numerator (search rules) in
    (accepted c.args.seconds c.args.numerator c.args.denominator (omega arith) d (omega arith) u.0 u.1, l.same)
