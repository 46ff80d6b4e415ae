use Rattle.std.proofs.Common.{◌≡◌, true, false, rules, tests}
use Rattle.std.proofs.lemmas.Iterator.{first_from_Range}
use Rattle.fairway.specs.Stamps.{time_of}
use Rattle.kinetic.specs.Limits.{due}
use Rattle.kinetic.specs.Settling.{FirstDue}
use Rattle.kinetic.proofs.Settling.{first_of}
use Rattle.kinetic.proofs.settle.first_due.Goals as goal

pub returns : goal.returns
returns g c =
    let t = time_of c.args.at in
    let certificate = g.S.Structure.means.certificate c.args.structure.now in
    let laws = g.met.S.Structure in
    let told : FirstDue g.S.Structure.means t c.args.structure.now c.find.result =
    first_of g.S.Structure.means laws.certified t c.args.structure.now c.find.result
    (first_from_Range _ _ _ c.find.result (λ i. due t (certificate i) ≡ true) (λ i. due t (certificate i) ≡ false) c.find.ensures.ran
    (λ x q k. search (rules, tests)) (λ x q k. search (rules, tests))) in
    search rules
