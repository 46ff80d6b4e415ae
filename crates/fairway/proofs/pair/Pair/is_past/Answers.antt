use Rattle.std.proofs.Common.{◌≡◌, to_z, of_z, rules}
use mir.Syntax.{w128}
use Rattle.fairway.specs.Stamps.{time_of}
use Rattle.fairway.specs.Courses.{place}
use Rattle.fairway.proofs.Pairs.{past_told}
use Rattle.fairway.proofs.pair.Pair.is_past.Goals as goal

pub returns-then-is_faster : goal.returns-then-is_faster
returns-then-is_faster c =
    let t = time_of c.args.at in
    let P : to_z w128 (of_z w128 c.position_at.result) ≡ place t c.args.self.front = search rules in
    let Q : to_z w128 (of_z w128 c.position_at-then-is_faster.result) ≡ place t c.args.self.rear = search rules in
    rw (P, Q) (past_told t c.args.self.rear c.args.self.front (cc))
