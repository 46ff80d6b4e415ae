use Rattle.std.proofs.Common.{refl}
use Rattle.board.proofs.Pasts.{kept_of, bounded_of}
use Rattle.board.proofs.board.Board.total.Goals as goal

pub returns : goal.returns
returns g c =
    let m = g.S.Structure.means in
    let n = g.Q.Queue.means in
    record {
      value = refl;
      booked = λ log p. (kept_of m n c.args.self.now log p).total;
      bounded = λ log p. bounded_of m n c.args.self.now log p;
    }
