use Rattle.board.proofs.Claims.{as_listed}
use Rattle.board.proofs.claim.Board+SortedList+Q.new_on_list.Goals as goal

pub returns-clause-listed : goal.returns-clause-listed
returns-clause-listed g c = λ s. as_listed g.Q.Queue.means _ _ (c.new.ensures.past s)
