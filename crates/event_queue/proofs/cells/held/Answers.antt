use Rattle.std.proofs.Common.{[], arith, rules}
use Rattle.event_queue.specs.declared.refusal.Refusal.TheVariants.{NoSuchTicket}
use Rattle.event_queue.proofs.Laws.{accepted_below}
use Rattle.event_queue.proofs.Keyed.{key_64}
use Rattle.event_queue.proofs.cells.held.Goals as goal

pub returns : goal.returns
returns g c =
    (accepted_below NoSuchTicket _ _ [] (omega arith), key_64 g.C.KeyCell.holds c.args.cells.now c.args.ticket _ _ c.key.ensures (search rules) (omega arith))
