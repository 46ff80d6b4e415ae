use Rattle.std.proofs.Common.{◌<◌, length, Some, sym, subst, arith}
use Rattle.binary_heap.specs.Slots.{columns, Within, seated}
use Rattle.binary_heap.specs.Orders.{parent}
use Rattle.binary_heap.proofs.Columns.{key_length}
use Rattle.binary_heap.proofs.Seats.{seated_within}
use Rattle.binary_heap.proofs.Sifts.{cells_even, rise_move, rise_seat, move_within}
use Rattle.binary_heap.proofs.sift.sift_up.Goals as goal

pub loop-above-preserved : goal.loop-above-preserved
loop-above-preserved g c =
    let u = columns c.loop-above.cells in
    let even = cells_even c.loop-above.cells in
    let at = c.loop-above.at in
    let x = c.in-Some.above.ticket in
    let kx = c.in-Some.above.key in
    let f = c.in-Some.ensures in
    let cells = key_length c.loop-above.cells in
    let hs : at < length u.key = omega (arith, cells, c.loop-above.auto.cells, c.loop-above.invariant.0, c.requires.slot) in
    let hi : c.args.ticket < length u.key = omega (arith, cells, c.loop-above.auto.cells, c.requires.ticket) in
    let hx : x < length u.key = subst (λ j. j < length u.key) (sym f.1.0) (c.loop-above.invariant.1 (parent at) (omega (arith, f.0))) in (
      omega (arith, c.loop-above.invariant.0),
      subst (λ y. Within y (parent at)) (sym c.seat.ensures) (seated_within u even at x (Some kx) hs hx (parent at) (λ s h ne. c.loop-above.invariant.1 s (omega arith))),
      λ n w. move_within u (columns c.seat.new.cells) even at c.args.ticket (Some c.args.key) (parent at) x (Some kx) hs (omega (arith, hs)) hx hi c.seat.ensures n (c.loop-above.invariant.2 n w),
      λ n h l w. rise_move g.K.Key.before (record { asymmetric = g.met.K.Key.asymmetric; carries = g.met.K.Key.carries }) (seated (columns c.args.cells.now) c.args.slot c.args.ticket (Some c.args.key)) u (columns c.seat.new.cells) even n at c.args.ticket c.args.key
          x kx f.0 f.1.0 f.1.1 f.2 c.seat.ensures (c.loop-above.invariant.3 n h l w),
    )

pub returns-clause-sifts : goal.returns-clause-sifts
returns-clause-sifts g c n h l u =
    rise_seat g.K.Key.before (record { asymmetric = g.met.K.Key.asymmetric; carries = g.met.K.Key.carries }) (seated (columns c.args.cells.now) c.args.slot c.args.ticket (Some c.args.key)) (columns c.loop-above.cells) (columns c.seat-2.new.cells) (cells_even c.loop-above.cells) n c.loop-above.at c.args.ticket c.args.key
    c.in_default.ensures c.seat-2.ensures (c.loop-above.invariant.3 n h l u)

pub returns-clause-within : goal.returns-clause-within
returns-clause-within g c n w = subst (λ y. Within y n) (sym c.seat-2.ensures) (c.loop-above.invariant.2 n w)
