use Rattle.std.proofs.Common.{◌<◌, ◌≤◌, length, Some, sym, subst, arith}
use Rattle.binary_heap.specs.Slots.{columns, Within, seated}
use Rattle.binary_heap.proofs.Columns.{key_length}
use Rattle.binary_heap.proofs.Seats.{seated_within}
use Rattle.binary_heap.proofs.Sifts.{cells_even, sink_move, sink_seat, move_within}
use Rattle.binary_heap.proofs.sift.sift_down.Goals as goal

pub loop-child-preserved : goal.loop-child-preserved
loop-child-preserved g c =
    let u = columns c.loop-child.cells in
    let even = cells_even c.loop-child.cells in
    let at = c.loop-child.at in
    let m = c.in-Some.child in
    let x = c.entry_at-below.result.ticket in
    let kx = c.entry_at-below.result.key in
    let f = c.in-Some.ensures in
    let read = c.entry_at-below.ensures in
    let cells = key_length c.loop-child.cells in
    let room : c.args.size ≤ length u.key = omega (arith, cells, c.loop-child.auto.cells, c.requires.room) in
    let hs : at < length u.key = omega (arith, room, c.loop-child.invariant.0) in
    let hi : c.args.ticket < length u.key = omega (arith, cells, c.loop-child.auto.cells, c.requires.ticket) in
    let hx : x < length u.key = subst (λ j. j < length u.key) (sym read.0) (c.loop-child.invariant.1 m f.0.below) in (
      f.0.below,
      subst (λ y. Within y c.args.size) (sym c.seat.ensures) (seated_within u even at x (Some kx) hs hx c.args.size (λ s h ne. c.loop-child.invariant.1 s h)),
      λ n w. move_within u (columns c.seat.new.cells) even at c.args.ticket (Some c.args.key) m x (Some kx) hs (omega (arith, room, f.0.below)) hx hi c.seat.ensures n (c.loop-child.invariant.2 n w),
      λ l d. sink_move g.K.Key.before (record { asymmetric = g.met.K.Key.asymmetric; carries = g.met.K.Key.carries }) (seated (columns c.args.cells.now) c.args.slot c.args.ticket (Some c.args.key)) u (columns c.seat.new.cells) even c.args.size at c.args.ticket c.args.key
          m x kx f.0 read.0 read.1 f.1 c.seat.ensures (c.loop-child.invariant.3 l d),
    )

pub returns-clause-sifts : goal.returns-clause-sifts
returns-clause-sifts g c l d =
    sink_seat g.K.Key.before (record { asymmetric = g.met.K.Key.asymmetric; carries = g.met.K.Key.carries }) (seated (columns c.args.cells.now) c.args.slot c.args.ticket (Some c.args.key)) (columns c.loop-child.cells) (columns c.seat-2.new.cells) (cells_even c.loop-child.cells) c.args.size c.loop-child.at c.args.ticket c.args.key
    c.loop-child.invariant.0 c.in_default.ensures c.seat-2.ensures (c.loop-child.invariant.3 l d)

pub returns-clause-within : goal.returns-clause-within
returns-clause-within g c n w = subst (λ y. Within y n) (sym c.seat-2.ensures) (c.loop-child.invariant.2 n w)
