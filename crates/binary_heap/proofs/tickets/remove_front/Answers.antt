use Rattle.std.proofs.Common.{◌-◌, take, sym, subst, arith}
use Rattle.event_queue.proofs.Fronts.{front_holds, front_past}
use Rattle.binary_heap.specs.Slots.{columns, Within}
use Rattle.binary_heap.specs.Sound.{Removes}
use Rattle.binary_heap.proofs.Heaps.{some_held}
use Rattle.binary_heap.proofs.Methods.{part_64}
use Rattle.binary_heap.proofs.tickets.remove_front.Goals as goal

pub remove-requires-clause-within : goal.remove-requires-clause-within
remove-requires-clause-within g c =
    subst (λ xs. Within (columns xs) c.args.size) (sym (part_64 c.args.cells.now _ c.capacity-capacity.ensures)) c.requires.within

pub returns-then-size-eq0-clause-removes : goal.returns-then-size-eq0-clause-removes
returns-then-size-eq0-clause-removes g c key s held =
    let xs = c.args.cells.now in
    absurd (omega (arith, some_held g.K.Key.before (take 64 xs) xs c.args.size c.args.ticket key s held))

pub returns-clause-removes : goal.returns-clause-removes
returns-clause-removes g c =
    front_holds c.args.cells.now c.remove.new.cells _ c.capacity-capacity.ensures c.remove.auto.cells
    (λ xs ys. Removes g.K.Key.before xs ys c.args.size (c.args.size - 1) c.args.ticket) c.remove.ensures.removes

pub returns-clause-within : goal.returns-clause-within
returns-clause-within g c =
    front_holds c.args.cells.now c.remove.new.cells _ c.capacity-capacity.ensures c.remove.auto.cells
    (λ xs ys. Within (columns ys) c.args.size) c.remove.ensures.within

pub returns-clause-past : goal.returns-clause-past
returns-clause-past g c = front_past c.args.cells.now c.remove.new.cells _ c.capacity-capacity.ensures c.remove.auto.cells
