use Rattle.std.proofs.Common.{◌+◌, take, sym, subst, arith}
use Rattle.event_queue.proofs.Fronts.{front_holds, front_past, length_64}
use Rattle.binary_heap.specs.Slots.{columns, Within}
use Rattle.binary_heap.specs.Sound.{Inserts}
use Rattle.binary_heap.proofs.Heaps.{room_left}
use Rattle.binary_heap.proofs.Methods.{part_64}
use Rattle.binary_heap.proofs.tickets.insert_front.Goals as goal

pub insert-requires-clause-within : goal.insert-requires-clause-within
insert-requires-clause-within g c =
    subst (λ xs. Within (columns xs) c.args.size) (sym (part_64 c.args.cells.now _ c.capacity-capacity.ensures)) c.requires.within

pub returns-then-size-capacity-clause-inserts : goal.returns-then-size-capacity-clause-inserts
returns-then-size-capacity-clause-inserts g c s h free =
    let xs = c.args.cells.now in
    absurd (omega (arith, length_64 xs, room_left g.K.Key.before (take 64 xs) xs c.args.size c.args.ticket c.args.key s h free))

pub returns-clause-inserts : goal.returns-clause-inserts
returns-clause-inserts g c =
    front_holds c.args.cells.now c.insert.new.cells _ c.capacity-capacity.ensures c.insert.auto.cells
    (λ xs ys. Inserts g.K.Key.before xs ys c.args.size (c.args.size + 1) c.args.ticket c.args.key) c.insert.ensures.inserts

pub returns-clause-within : goal.returns-clause-within
returns-clause-within g c =
    front_holds c.args.cells.now c.insert.new.cells _ c.capacity-capacity.ensures c.insert.auto.cells
    (λ xs ys. Within (columns ys) (c.args.size + 1)) c.insert.ensures.within

pub returns-clause-past : goal.returns-clause-past
returns-clause-past g c = front_past c.args.cells.now c.insert.new.cells _ c.capacity-capacity.ensures c.insert.auto.cells
