use Rattle.std.proofs.Common.{sym, subst}
use Rattle.fairway.specs.Rosters.{course_of}
use Rattle.fairway.specs.Stamps.{time_of}
use Rattle.kinetic.specs.Structures.{Front}
use Rattle.board.specs.Books.{book}
use Rattle.board.proofs.Pasts.{as_booked}
use Rattle.board.proofs.board.Board.foremost.Goals as goal

pub returns : goal.returns
returns g c =
    let m = g.S.Structure.means in
    let n = g.Q.Queue.means in
    let laws = g.met.S.Structure in
    record {
      value = c.foremost.ensures;
      booked = λ log p. subst (Front (time_of (book log).clock) (course_of (book log).roster)) (sym c.foremost.ensures) (as_booked m n laws.ordered laws.leads c.args.self.now log p).foremost;
    }
