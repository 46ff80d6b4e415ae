use Rattle.std.proofs.Common.{◌≡◌, ◌*◌, true, subst, arith, rules}
use Rattle.fairway.specs.Stamps.{time_of}
use Rattle.std.specs.Bool.{Decides}
use Rattle.fairway.specs.Courses.{faster}
use Rattle.fairway.specs.Meetings.{gap, gain}
use Rattle.fairway.proofs.Meetings.{due_where, not_due_ahead}
use Rattle.fairway.proofs.Pairs.{test_no}
use Rattle.fairway.proofs.pair.Pair.is_due.Goals as goal

pub returns-then-self : goal.returns-then-self
returns-then-self c =
    let F : faster c.args.self.rear c.args.self.front ≡ true = cc in
    not_due_ahead (time_of c.args.at) c.args.self.rear c.args.self.front (omega arith) F (search rules)

pub returns : goal.returns
returns c =
    let t = time_of c.args.at in
    let d : c.abs_diff.result ≡ gap c.args.self.rear c.args.self.front = search rules in
    let e : c.abs_diff-2.result ≡ gain c.args.self.rear c.args.self.front = search rules in
    let told : Decides c.is_made_up.result (t.num * gain c.args.self.rear c.args.self.front ≡ gap c.args.self.rear c.args.self.front * t.den) =
    subst (λ x. Decides c.is_made_up.result (t.num * gain c.args.self.rear c.args.self.front ≡ x * t.den)) d
    (subst (λ x. Decides c.is_made_up.result (t.num * x ≡ c.abs_diff.result * t.den)) e c.is_made_up.ensures) in
    due_where t c.args.self.rear c.args.self.front (cc) (search (rules, test_no)) c.is_made_up.result told
