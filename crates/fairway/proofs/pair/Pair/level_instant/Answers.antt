use Rattle.std.proofs.Common.{◌≡◌, rules}
use Rattle.fairway.specs.Meetings.{gap, gain}
use Rattle.fairway.proofs.Meetings.{met, not_faster, gone_before}
use Rattle.fairway.proofs.pair.Pair.level_instant.Goals as goal

pub returns-then-not-is_faster : goal.returns-then-not-is_faster
returns-then-not-is_faster c = not_faster c.args.self.rear c.args.self.front (cc)

pub returns-then-front-rear : goal.returns-then-front-rear
returns-then-front-rear c = gone_before c.args.self.rear c.args.self.front (cc) (search rules)

pub returns : goal.returns
returns c =
    let d : c.abs_diff-distance.result ≡ gap c.args.self.rear c.args.self.front = search rules in
    let e : c.abs_diff-speed.result ≡ gain c.args.self.rear c.args.self.front = search rules in
    met c.args.self.rear c.args.self.front c.quotient.result (cc) (search rules) (cc)
