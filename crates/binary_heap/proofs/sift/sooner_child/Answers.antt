use Rattle.std.proofs.Common.{Some, sym, ap, ◌∙◌, subst}
use Rattle.event_queue.specs.Orders.{sooner}
use Rattle.binary_heap.specs.Slots.{columns}
use Rattle.binary_heap.specs.Orders.{SoonerChild}
use Rattle.binary_heap.proofs.Sifts.{child_answers}
use Rattle.binary_heap.proofs.sift.sooner_child.Goals as goal

pub returns : goal.returns
returns g c =
    subst (SoonerChild g.K.Key.before (columns c.args.cells.now) c.args.size c.args.slot c.args.key) (sym c.then_some.ensures)
    (child_answers g.K.Key.before (record { asymmetric = g.met.K.Key.asymmetric; carries = g.met.K.Key.carries }) (columns c.args.cells.now) c.args.size c.args.slot c.first_child-child.result c.args.key c.first_child-child.ensures
    c.is_before.result (ap (λ y. sooner g.K.Key.before y (Some c.args.key)) c.key_at.ensures ∙ sym c.is_before.ensures))
