use Rattle.std.proofs.Common.{◌+◌, ◌*◌, sym, refl, ◌∙◌, arith}
use Rattle.binary_heap.specs.Slots.{columns, key_at}
use Rattle.binary_heap.proofs.Sifts.{left_first, right_first, read_sooner}
use Rattle.binary_heap.proofs.sift.first_child.Goals as goal
use Rattle.binary_heap.proofs.sift.first_child.Goals.{else-right-size-via-then-right-size+else-is_before, else-right-size-via-else-right-size}

pub returns-then-is_before : goal.returns-then-is_before
returns-then-is_before g c =
    right_first g.K.Key.before (record { asymmetric = g.met.K.Key.asymmetric; carries = g.met.K.Key.carries }) (key_at (columns c.args.cells.now)) c.args.size c.args.slot (2 * c.args.slot + 2) refl c.requires.some
    c.if-right-size.true (read_sooner g.K.Key.before c.key_at.ensures c.key_at-then-right-size.ensures ∙ sym c.if-is_before.ensures)

pub returns-else-right-size : goal.returns-else-right-size
returns-else-right-size g c =
    left_first g.K.Key.before (record { asymmetric = g.met.K.Key.asymmetric; carries = g.met.K.Key.carries }) (key_at (columns c.args.cells.now)) c.args.size c.args.slot (2 * c.args.slot + 2) refl c.requires.some
    (λ b. elim c.else-right-size.branch [
      | else-right-size-via-then-right-size+else-is_before w ↦ read_sooner g.K.Key.before w.key_at.ensures w.key_at-then-right-size.ensures ∙ sym w.if-is_before.ensures
      | else-right-size-via-else-right-size w ↦ absurd (omega (arith, b, w.if-right-size.false))
    ])
