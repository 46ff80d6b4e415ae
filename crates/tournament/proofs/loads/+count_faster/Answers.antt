use Rattle.std.proofs.Common.{◌≡◌, ◌∙◌, arith, rules}
use Rattle.tournament.specs.Matches.{node_at}
use Rattle.tournament.proofs.Beneath.{one_faster, faster_match, faster_place, faster_few}
use Rattle.tournament.proofs.loads.+count_faster.Goals as goal

pub returns-then-node-lt-MATCHES-clause-count : goal.returns-then-node-lt-MATCHES-clause-count
returns-then-node-lt-MATCHES-clause-count t c =
    omega (arith, faster_match c.args.nodes.now c.args.node c.args.winner c.if-node-lt-MATCHES.true, c.count_faster.ensures.count, c.count_faster-then-node-lt-MATCHES.ensures.count)

pub returns-then-node-lt-MATCHES-clause-few : goal.returns-then-node-lt-MATCHES-clause-few
returns-then-node-lt-MATCHES-clause-few t c =
    let m = faster_match c.args.nodes.now c.args.node c.args.winner c.if-node-lt-MATCHES.true in
    let f = faster_few c.args.nodes.now c.args.node c.args.winner in
    omega (arith, m, f, c.count_faster.ensures.count, c.count_faster-then-node-lt-MATCHES.ensures.count)

pub returns-clause-count : goal.returns-clause-count
returns-clause-count t c =
    let e : c.from.result ≡ one_faster (node_at c.args.nodes.now c.args.node) c.args.winner = search rules in
    e ∙ faster_place c.args.nodes.now c.args.node c.args.winner c.if-node-lt-MATCHES.false
