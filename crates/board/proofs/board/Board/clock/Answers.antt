use Rattle.std.proofs.Common.{refl}
use Rattle.board.proofs.Pasts.{kept_of}
use Rattle.board.proofs.board.Board.clock.Goals as goal

pub returns : goal.returns
returns g c = record { value = refl; booked = λ log p. (kept_of g.S.Structure.means g.Q.Queue.means c.args.self.now log p).clock }
