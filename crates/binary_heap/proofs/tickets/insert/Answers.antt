use Rattle.std.proofs.Common.{◌+◌, Some, ap, arith}
use Rattle.binary_heap.specs.Slots.{columns, seated}
use Rattle.binary_heap.proofs.Columns.{key_length}
use Rattle.binary_heap.proofs.Seats.{seated_within, keyed_within}
use Rattle.binary_heap.proofs.Sifts.{cells_even}
use Rattle.binary_heap.proofs.Heaps.{insert_settles, inserted}
use Rattle.binary_heap.proofs.tickets.insert.Goals as goal

pub returns-clause-inserts : goal.returns-clause-inserts
returns-clause-inserts g c s h free =
    let before = g.K.Key.before in
    let cs = c.args.cells.now in
    let n = c.args.size in
    let i = c.args.ticket in
    let k = c.args.key in
    let u = columns c.set_key.new.cells in
    inserted before cs c.sift_up.new.cells n i k s h free
    (insert_settles before cs c.sift_up.new.cells n i k s h free (seated u n i (Some k)) (ap (λ w. seated w n i (Some k)) c.set_key.ensures)
    (λ m b. c.sift_up.ensures.sifts m b))

pub returns-clause-within : goal.returns-clause-within
returns-clause-within g c =
    let t = columns c.args.cells.now in
    let zs = c.set_key.new.cells in
    let n = c.args.size in
    let cells = key_length zs in
    c.sift_up.ensures.within (n + 1)
    (seated_within (columns zs) (cells_even zs) n c.args.ticket (Some c.args.key) (omega (arith, cells, c.set_key.auto.cells, c.requires.room)) (omega (arith, cells, c.set_key.auto.cells, c.requires.ticket)) (n + 1)
    (λ z h ne. keyed_within t (columns zs) c.args.ticket (Some c.args.key) n c.set_key.ensures c.requires.within z (omega arith)))
