use Rattle.board.proofs.Claims.{order_answer}
use Rattle.board.proofs.list_questions.Board+SortedList+Q.order.Goals as goal

pub returns : goal.returns
returns g c = order_answer g.Q.Queue.means c.args.self.now c.courses.result.now c.courses.ensures
