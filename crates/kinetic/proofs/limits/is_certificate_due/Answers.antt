use Rattle.std.proofs.Common.{◌≡◌, rules}
use Rattle.fairway.specs.Stamps.{time_of}
use Rattle.kinetic.specs.Limits.{due}
use Rattle.kinetic.proofs.Tests.{told_due}
use Rattle.kinetic.proofs.limits.is_certificate_due.Goals as goal

pub returns : goal.returns
returns c =
    let told : c.is_some_and.result ≡ due (time_of c.args.at) c.args.certificate = told_due (time_of c.args.at) c.args.certificate c.is_some_and.result (search rules) in
    search rules
