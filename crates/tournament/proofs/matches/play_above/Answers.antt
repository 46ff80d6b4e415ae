use Rattle.std.proofs.Common.{◌≡◌, ℕ, ◌+◌, ◌-◌, ◌*◌, ◌/◌, ◌≤◌, Option, length, ap, ◌∙◌, arith}
use Rattle.fairway.specs.Stamps.{time_of}
use Rattle.fairway.specs.Times.{Time}
use Rattle.fairway.specs.declared.course.Course.{Course}
use Rattle.tournament.specs.Matches.{node_at, second_wins, winner}
use Rattle.tournament.specs.NodesLemmas.{above}
use Rattle.tournament.proofs.Paths.{turns}
use Rattle.tournament.proofs.Climbing.{named_more, named_all}
use Rattle.tournament.proofs.matches.play_above.Goals as goal

won : (t : Time) (w a b x y : Option Course) → w ≡ winner (second_wins t a b) a b → a ≡ x → b ≡ y → w ≡ winner (second_wins t x y) x y
won t w a b x y e p q = e ∙ ap (λ z. winner (second_wins t z b) z b) p ∙ ap (λ z. winner (second_wins t x z) x z) q

pub loop-node-preserved : goal.loop-node-preserved
loop-node-preserved c =
    let t = time_of c.args.at in
    let ns = c.loop-node.nodes in
    let k = c.loop-node.node in
    let j : ℕ = (k - 1) / 2 in
    let few : 2 * length c.loop-node.numbers + k ≤ 126 = c.loop-node.invariant.0.few in
    let a = c.of-two.result.first in
    let b = c.of-two.result.second in
    let e : c.winner.result ≡ winner (second_wins t a b) a b = c.winner.ensures ∙ ap (λ s. winner s a b) c.second_wins.ensures in
    let o = above k (omega (arith, c.loop-node-test.true)) in
    let q = c.push.ensures.value (omega (arith, few, c.loop-node-test.true)) in (
      turns t c.args.from c.args.nodes.now ns c.loop-node.numbers c.push.new.self k j c.winner.result
          (c.loop-node.auto.nodes ∙ c.requires.sized) o
          (won t c.winner.result a b (node_at ns (2 * j + 1)) (node_at ns (2 * j + 2)) e c.of-two.ensures.first c.of-two.ensures.second)
          q c.loop-node.invariant.0,
      named_more c.args.from k j c.loop-node.numbers c.push.new.self o q c.loop-node.invariant.1,
    )

pub returns-clause-named : goal.returns-clause-named
returns-clause-named c = named_all c.args.from c.loop-node.node c.loop-node.numbers (omega (arith, c.loop-node-test.false)) c.loop-node.invariant.1
