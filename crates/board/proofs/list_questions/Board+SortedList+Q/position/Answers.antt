use Rattle.std.proofs.Common.{Ok}
use Rattle.fairway.specs.Instants.{value}
use Rattle.sorted_list.specs.Questions.{courses_of}
use Rattle.board.specs.ListQuestions.{PositionIs}
use Rattle.board.proofs.Vessels.{about, asked, refused}
use Rattle.board.proofs.list_questions.«Board+SortedList+Q».position.Goals as goal

pub returns : goal.returns
returns g c =
    let b = c.args.self.now in
    let v = c.args.number in
    let xs = courses_of b.structure in
    asked g.Q.Queue.means b v (PositionIs (value b.clock) xs) PositionIs (λ log p d a q w. w) (Ok c.position_of.result)
    (about xs v (PositionIs (value b.clock) xs) c.in_ok-own.own c.position_of.result c.in_ok-own.ensures c.position_of.ensures)

pub returns-in_err-own : goal.returns-in_err-own
returns-in_err-own g c =
    let b = c.args.self.now in
    refused g.Q.Queue.means b c.args.number (PositionIs (value b.clock) (courses_of b.structure)) PositionIs c.in_err-own.field-0.0 c.in_err-own.ensures c.from_residual.result c.from_residual.ensures.1
