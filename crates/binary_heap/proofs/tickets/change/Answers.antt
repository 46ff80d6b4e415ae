use Rattle.std.proofs.Common.{Some, arith}
use Rattle.binary_heap.specs.Slots.{columns, Within}
use Rattle.binary_heap.proofs.Columns.{key_length}
use Rattle.binary_heap.proofs.Seats.{seated_within, keyed_within}
use Rattle.binary_heap.proofs.Sifts.{cells_even}
use Rattle.binary_heap.proofs.Heaps.{change_sifted, change_within}
use Rattle.binary_heap.proofs.tickets.change.Goals as goal

pub returns-then-slot-size-clause-changes : goal.returns-then-slot-size-clause-changes
returns-then-slot-size-clause-changes g c old s held =
    change_sifted g.K.Key.before c.args.cells.now c.sift.new.cells c.args.size c.args.ticket old c.args.key s held c.slot_of-slot.result c.slot_of-slot.ensures (columns c.set_key.new.cells) c.set_key.ensures
    (record { asymmetric = g.met.K.Key.asymmetric; carries = g.met.K.Key.carries }) c.sift.ensures.sifts

pub returns-then-slot-size-clause-within : goal.returns-then-slot-size-clause-within
returns-then-slot-size-clause-within g c =
    let t = columns c.args.cells.now in
    let zs = c.set_key.new.cells in
    let n = c.args.size in
    let cells = key_length zs in
    let kept : Within (columns zs) n = keyed_within t (columns zs) c.args.ticket (Some c.args.key) n c.set_key.ensures c.requires.within in
    c.sift.ensures.within n
    (seated_within (columns zs) (cells_even zs) c.slot_of-slot.result c.args.ticket (Some c.args.key) (omega (arith, cells, c.set_key.auto.cells, c.requires.room, c.if-slot-size.true)) (omega (arith, cells, c.set_key.auto.cells, c.requires.ticket)) n
    (λ z h ne. kept z h))

pub returns-else-slot-size-clause-changes : goal.returns-else-slot-size-clause-changes
returns-else-slot-size-clause-changes g c old s held =
    absurd (omega (arith, c.if-slot-size.false, change_within g.K.Key.before c.args.cells.now c.set_key.new.cells c.args.size c.args.ticket old c.args.key s held c.slot_of-slot.result c.slot_of-slot.ensures (columns c.set_key.new.cells) c.set_key.ensures))
