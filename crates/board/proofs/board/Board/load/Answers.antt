use Rattle.std.proofs.Common.{arith}
use Rattle.board.proofs.board.Board.load.Goals as goal

pub returns-clause-few : goal.returns-clause-few
returns-clause-few g c = omega (arith, c.load.ensures, (g.met.S.Structure.bounded c.args.self.now.structure).1)
