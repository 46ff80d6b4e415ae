use Rattle.std.proofs.Common.{◌≡◌, ◌+◌, ◌<◌, ◌≤◌, length, sym, ap, ◌∙◌, arith}
use Rattle.board.specs.Books.{mends_of}
use Rattle.board.proofs.Claims.{as_listed}
use Rattle.board.proofs.Pasts.{as_booked}
use Rattle.board.proofs.Performing.{way_none, way_next, performed}
use Rattle.board.proofs.board.Board.perform_all.Goals as goal
use Rattle.board.proofs.board.Board.perform_all.Goals.{in-Accepted, in_default}

pub loop-line-init : goal.loop-line-init
loop-line-init g c = way_none g.S.Structure.means g.Q.Queue.means c.open.new.self c.args.lines.now c.args.rows.now

pub loop-line-preserved : goal.loop-line-preserved
loop-line-preserved g c =
    let lt : c.loop-line.line-index < length c.loop-line.line-items = omega arith in
    let e : c.match-outcome.used ≡ c.loop-line.used + mends_of c.perform-outcome.result =
    elim c.match-outcome.branch [
      | in-Accepted w ↦ w.used-is ∙ ap (λ o. c.loop-line.used + mends_of o) (sym w.in-Accepted.is)
      | in_default w ↦ (let z : mends_of c.perform-outcome.result ≡ 0 = ap mends_of w.in_default.is in let k = w.used-is in omega (arith, z, k))
    ] in
    way_next g.S.Structure.means g.Q.Queue.means _ _ _ c.loop-line.self _ c.loop-line.line-items c.loop-line.rows _ c.loop-line.used _ c.loop-line.line-index _ _ lt c.loop-line.invariant c.perform-outcome.ensures.adds c.perform-outcome.ensures.written e

pub returns-clause-performed : goal.returns-clause-performed
returns-clause-performed g c =
    let laws = g.met.S.Structure in
    let o = c.open.ensures.adds.happened.1 in
    let le : length c.loop-line.line-items ≤ c.loop-line.line-index = omega arith in
    performed g.S.Structure.means g.Q.Queue.means laws.ordered laws.leads c.args.self.now c.open.new.self c.loop-line.self c.args.lines.now c.loop-line.line-items c.args.rows.now c.loop-line.rows c.loop-line.used c.loop-line.line-index le o.1 c.loop-line.invariant

pub returns-clause-booked_always : goal.returns-clause-booked_always
returns-clause-booked_always g c =
    let laws = g.met.S.Structure in
    λ b log p. as_booked g.S.Structure.means g.Q.Queue.means laws.ordered laws.leads b log p

pub returns-clause-listed_always : goal.returns-clause-listed_always
returns-clause-listed_always g c = λ b log p. as_listed g.Q.Queue.means b log p
