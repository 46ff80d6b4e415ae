use Rattle.std.proofs.Common.{◌≡◌, ◌∙◌, arith}
use Rattle.kinetic.specs.Structures.{vessels}
use Rattle.board.proofs.Counting.{aboard}
use Rattle.board.proofs.board.Board.aboard.Goals as goal

pub returns : goal.returns
returns g c =
    let m = g.S.Structure.means in
    let laws = g.met.S.Structure in
    let b = c.args.self.now in
    let e : c.count.result ≡ vessels (m.roster b.structure) = c.count.ensures ∙ laws.counted b.structure in
    record { value = e; booked = λ log p. e ∙ aboard m g.Q.Queue.means laws.listed b log p; few = omega (arith, c.count.ensures, (laws.bounded b.structure).0) }
