use Rattle.std.proofs.Common.{◌+◌, ◌<◌, true, arith, rules}
use Rattle.fairway.specs.Stamps.{time_of}
use Rattle.kinetic.proofs.Refused.{mend_accepted}
use Rattle.kinetic.proofs.Tests.{tested}
use Rattle.sorted_list.specs.Rosters.{certificate_at}
use Rattle.sorted_list.specs.Questions.{means}
use Rattle.sorted_list.proofs.Calls.{DueAt, told_due, pair_faster, away_named, passed_is}
use Rattle.sorted_list.proofs.structure.SortedListStructure.mend.Goals as goal
use Rattle.sorted_list.proofs.structure.SortedListStructure.mend.Goals.{Else-not-is_certificate_due}

due_at : (c : Else-not-is_certificate_due) → DueAt (time_of c.args.at) c.args.self.now.courses.items c.args.certificate
due_at c = told_due (time_of c.args.at) c.args.self.now.courses.items c.args.certificate c.certificate.result c.if-not-is_certificate_due.ensures c.certificate.ensures

pub exchange-requires : goal.exchange-requires
exchange-requires c =
    let d = due_at (goal.at.exchange-requires c).Else-not-is_certificate_due in
    record { within = omega (arith, d.within); faster = pair_faster (time_of c.args.at) c.args.self.now.courses.items c.args.certificate d }

pub overflow_add-certificate : goal.overflow_add-certificate
overflow_add-certificate c =
    let d = due_at (goal.at.overflow_add-certificate c).Else-not-is_certificate_due in
    let few = c.args.self.now.few in
    let h : c.args.certificate + 2 < 18446744073709551616 = omega (arith, d.within) in
    search rules

pub numbers_from-requires : goal.numbers_from-requires
numbers_from-requires c =
    let d = due_at (goal.at.numbers_from-requires c).Else-not-is_certificate_due in
    let few = c.args.self.now.few in
    omega (arith, d.within)

pub returns-clause-mended : goal.returns-clause-mended
returns-clause-mended c =
    let t = time_of c.args.at in
    let i = c.args.certificate in
    let xs = c.args.self.now.courses.items in
    let ys = c.exchange.new.self.courses.items in
    let d = due_at (goal.at.returns-clause-mended c).Else-not-is_certificate_due in
    let p = passed_is t xs ys i c.args.self.now.sound d c.exchange.ensures in (
      mend_accepted means c.args.self.now t i (tested t c.certificate.result (certificate_at xs i) true c.if-not-is_certificate_due.ensures c.certificate.ensures),
      record {
        roster = p.roster;
        named = away_named xs ys c.numbers_from.result i d.within c.exchange.ensures c.numbers_from.ensures;
        stands = p.stands;
        by = p.by;
      },
    )
