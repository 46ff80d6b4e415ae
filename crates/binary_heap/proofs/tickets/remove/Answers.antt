use Rattle.std.proofs.Common.{◌-◌, ◌<◌, length, Some, None, sym, refl, subst, arith}
use Rattle.binary_heap.specs.Slots.{columns, Within}
use Rattle.binary_heap.proofs.Columns.{key_length}
use Rattle.binary_heap.proofs.Seats.{seated_within, keyed_within}
use Rattle.binary_heap.proofs.Sifts.{cells_even}
use Rattle.binary_heap.proofs.Heaps.{remove_sifted, remove_unsifted}
use Rattle.binary_heap.proofs.tickets.remove.Goals as goal

pub returns-then-slot-last-clause-removes : goal.returns-then-slot-last-clause-removes
returns-then-slot-last-clause-removes g c k s held =
    let read = c.entry_at-moved.ensures in
    remove_sifted g.K.Key.before c.args.cells.now c.sift.new.cells c.args.size c.args.ticket k s held c.slot_of-slot.result c.slot_of-slot.ensures (columns c.set_key.new.cells) c.set_key.ensures
    c.if-slot-last.true c.entry_at-moved.result.ticket read.0 c.entry_at-moved.result.key read.1
    (record { asymmetric = g.met.K.Key.asymmetric; carries = g.met.K.Key.carries }) c.sift.ensures.sifts

pub returns-then-slot-last-clause-within : goal.returns-then-slot-last-clause-within
returns-then-slot-last-clause-within g c =
    let t = columns c.args.cells.now in
    let zs = c.set_key.new.cells in
    let n = c.args.size in
    let m = c.entry_at-moved.result.ticket in
    let cells = key_length zs in
    let kept : Within (columns zs) n = keyed_within t (columns zs) c.args.ticket None n c.set_key.ensures c.requires.within in
    let hm : m < length (columns zs).key = subst (λ j. j < length (columns zs).key) (sym c.entry_at-moved.ensures.0) (kept (n - 1) (omega (arith, c.requires.some))) in
    c.sift.ensures.within n
    (seated_within (columns zs) (cells_even zs) c.slot_of-slot.result m (Some c.entry_at-moved.result.key) (omega (arith, cells, c.set_key.auto.cells, c.requires.room, c.if-slot-last.true)) hm n
    (λ z h ne. kept z h))

pub returns-else-slot-last-clause-removes : goal.returns-else-slot-last-clause-removes
returns-else-slot-last-clause-removes g c k s held =
    remove_unsifted g.K.Key.before c.args.cells.now c.set_key.new.cells c.args.size c.args.ticket k s held c.slot_of-slot.result c.slot_of-slot.ensures (columns c.set_key.new.cells) c.set_key.ensures
    c.if-slot-last.false refl
