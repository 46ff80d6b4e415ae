use Rattle.event_queue.proofs.Fronts.{front_holds, front_past}
use Rattle.pairing_heap.specs.Sound.{Inserts}
use Rattle.pairing_heap.proofs.tickets.insert_front.Goals as goal

pub returns-clause-inserts : goal.returns-clause-inserts
returns-clause-inserts g c =
    front_holds c.args.cells.now c.insert.new.cells _ c.capacity-capacity.ensures c.insert.auto.cells
    (λ xs ys. Inserts g.K.Key.before xs ys c.args.root c.insert.result c.args.ticket c.args.key) c.insert.ensures

pub returns-clause-past : goal.returns-clause-past
returns-clause-past g c = front_past c.args.cells.now c.insert.new.cells _ c.capacity-capacity.ensures c.insert.auto.cells
