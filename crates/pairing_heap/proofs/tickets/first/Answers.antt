use Rattle.std.proofs.Common.{◌≡◌, Some, take, ◌∙◌}
use Rattle.event_queue.proofs.Keyed.{held_answers}
use Rattle.pairing_heap.specs.Links.{node_key}
use Rattle.pairing_heap.proofs.Roots.{root_key, root_least}
use Rattle.pairing_heap.proofs.tickets.first.Goals as goal

pub returns-in_err-ok : goal.returns-in_err-ok
returns-in_err-ok g c size s =
    let xs = c.args.cells.now in
    let top = root_key g.K.Key.before (take 64 xs) c.args.root size s c.in_ok-ticket.ticket c.in_ok-ticket.was in
    let a = held_answers node_key xs c.in_ok-ticket.ticket top.0 c.held.result c.held.ensures top.1 in
    cc (c.in_err-ok.ensures.value)

pub returns-in_err-key : goal.returns-in_err-key
returns-in_err-key g c size s =
    let xs = c.args.cells.now in
    let top = root_key g.K.Key.before (take 64 xs) c.args.root size s c.in_ok-ticket.ticket c.in_ok-ticket.was in
    let a = held_answers node_key xs c.in_ok-ticket.ticket top.0 c.held.result c.held.ensures top.1 in
    cc (c.in_ok-ok.ensures.value, c.in_err-key.was)

pub returns : goal.returns
returns g c size s =
    let xs = c.args.cells.now in
    let top = root_key g.K.Key.before (take 64 xs) c.args.root size s c.in_ok-ticket.ticket c.in_ok-ticket.was in
    let a = held_answers node_key xs c.in_ok-ticket.ticket top.0 c.held.result c.held.ensures top.1 in
    let same : Some top.0 ≡ Some c.in_ok-key.key = cc (c.in_ok-ok.ensures.value, c.in_ok-key.was) in (
      top.1 ∙ same,
      root_least g.K.Key.before (take 64 xs) c.args.root size s (record { asymmetric = g.met.K.Key.asymmetric; carries = g.met.K.Key.carries }) c.in_ok-ticket.ticket c.in_ok-key.key c.in_ok-ticket.was (top.1 ∙ same),
    )
