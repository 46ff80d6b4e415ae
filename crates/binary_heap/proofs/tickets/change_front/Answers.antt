use Rattle.std.proofs.Common.{sym, subst}
use Rattle.event_queue.proofs.Fronts.{front_holds, front_past}
use Rattle.binary_heap.specs.Slots.{columns, Within}
use Rattle.binary_heap.specs.Sound.{Changes}
use Rattle.binary_heap.proofs.Methods.{part_64}
use Rattle.binary_heap.proofs.tickets.change_front.Goals as goal

pub change-requires-clause-within : goal.change-requires-clause-within
change-requires-clause-within g c =
    subst (λ xs. Within (columns xs) c.args.size) (sym (part_64 c.args.cells.now _ c.capacity-capacity.ensures)) c.requires.within

pub returns-clause-changes : goal.returns-clause-changes
returns-clause-changes g c =
    front_holds c.args.cells.now c.change.new.cells _ c.capacity-capacity.ensures c.change.auto.cells
    (λ xs ys. Changes g.K.Key.before xs ys c.args.size c.args.ticket c.args.key) c.change.ensures.changes

pub returns-clause-within : goal.returns-clause-within
returns-clause-within g c =
    front_holds c.args.cells.now c.change.new.cells _ c.capacity-capacity.ensures c.change.auto.cells
    (λ xs ys. Within (columns ys) c.args.size) c.change.ensures.within

pub returns-clause-past : goal.returns-clause-past
returns-clause-past g c = front_past c.args.cells.now c.change.new.cells _ c.capacity-capacity.ensures c.change.auto.cells
