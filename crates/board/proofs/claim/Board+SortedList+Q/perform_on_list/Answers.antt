use Rattle.board.proofs.Claims.{performed_on_list, as_listed}
use Rattle.board.proofs.claim.Board+SortedList+Q.perform_on_list.Goals as goal

pub returns-clause-performed : goal.returns-clause-performed
returns-clause-performed g c = performed_on_list g.Q.Queue.means _ _ _ _ _ _ _ c.perform_all.ensures.performed

pub returns-clause-listed_always : goal.returns-clause-listed_always
returns-clause-listed_always g c = λ b log p. as_listed g.Q.Queue.means b log p
