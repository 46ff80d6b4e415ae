use Rattle.event_queue.proofs.Fronts.{front_holds, front_past}
use Rattle.pairing_heap.specs.Sound.{Removes}
use Rattle.pairing_heap.proofs.tickets.remove_front.Goals as goal

pub returns-clause-removes : goal.returns-clause-removes
returns-clause-removes g c =
    front_holds c.args.cells.now c.remove.new.cells _ c.capacity-capacity.ensures c.remove.auto.cells
    (λ xs ys. Removes g.K.Key.before xs ys c.args.root c.remove.result c.args.ticket) c.remove.ensures

pub returns-clause-past : goal.returns-clause-past
returns-clause-past g c = front_past c.args.cells.now c.remove.new.cells _ c.capacity-capacity.ensures c.remove.auto.cells
