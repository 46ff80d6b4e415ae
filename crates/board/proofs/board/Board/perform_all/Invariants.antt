use Rattle.board.proofs.Performing.{Way}
use Rattle.board.proofs.board.Board.perform_all.Given as goal

abbrev pub invariant-loop-line : goal.invariant-loop-line
invariant-loop-line g l = Way g.S.Structure.means g.Q.Queue.means l.initial.self l.fn.lines l.initial.rows l.self l.line-items l.rows l.used l.line-index
