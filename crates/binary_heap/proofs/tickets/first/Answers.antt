use Rattle.std.proofs.Common.{◌<◌, length, take, sym, ◌∙◌, subst, arith}
use Rattle.event_queue.proofs.Fronts.{length_64}
use Rattle.binary_heap.specs.Slots.{columns}
use Rattle.binary_heap.proofs.Columns.{key_length}
use Rattle.binary_heap.proofs.Heaps.{first_held, first_least, none_held}
use Rattle.binary_heap.proofs.Methods.{first_ticket, first_key}
use Rattle.binary_heap.proofs.tickets.first.Goals as goal

pub returns-then-size-eq0-clause-earliest : goal.returns-then-size-eq0-clause-earliest
returns-then-size-eq0-clause-earliest g c s = none_held g.K.Key.before (take 64 c.args.cells.now) c.args.size s (omega arith)

pub returns-clause-earliest : goal.returns-clause-earliest
returns-clause-earliest g c s =
    let before = g.K.Key.before in
    let xs = c.args.cells.now in
    let read = c.entry_at-entry.ensures in
    let key = sym (first_key xs) ∙ read.1 in (
      first_held before (take 64 xs) c.args.size s (omega arith) c.entry_at-entry.result.ticket c.entry_at-entry.result.key (read.0 ∙ first_ticket xs) key,
      first_least before (take 64 xs) c.args.size s (record { asymmetric = g.met.K.Key.asymmetric; carries = g.met.K.Key.carries }) c.entry_at-entry.result.key key,
    )

pub returns-clause-within : goal.returns-clause-within
returns-clause-within g c =
    let xs = c.args.cells.now in
    omega (arith, subst (λ j. j < length (columns (take 64 xs)).key) (sym (c.entry_at-entry.ensures.0 ∙ first_ticket xs)) (c.requires.within 0 (omega arith)), key_length (take 64 xs), length_64 xs)
