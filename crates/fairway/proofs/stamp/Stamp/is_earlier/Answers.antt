use Rattle.std.proofs.Common.{◌≡◌, ◌*◌, nat_lt, ◌+◌, refl, ◌∙◌, arith}
use Rattle.std.proofs.lemmas.Bool.Decides.{nat_tests}
use Rattle.fairway.specs.Stamps.{den}
use Rattle.fairway.specs.StampsLemmas.{compared, by_seconds, by_fraction}
use Rattle.fairway.proofs.stamp.Stamp.is_earlier.Goals as goal

pub returns-then-self-other : goal.returns-then-self-other
returns-then-self-other c = compared c.args.self.now c.args.other.now _ (by_seconds c.args.self.now c.args.other.now (λ e. grind (arith, nat_tests)))

pub returns : goal.returns
returns c =
    let a = c.args.self.now in
    let b = c.args.other.now in
    let e : nat_lt (c.from.result * (c.from-2.result + 1)) (c.from-3.result * (c.from-4.result + 1)) ≡ nat_lt (a.numerator * den b) (b.numerator * den a) =
    rw (c.from.ensures, c.from-2.ensures, c.from-3.ensures, c.from-4.ensures) refl in
    compared a b _ (e ∙ by_fraction a b (grind (arith, nat_tests)))
