use Rattle.std.proofs.Common.{◌≡◌}
use Rattle.board.specs.Tickets.{QueueKept}
use Rattle.board.proofs.Renewing.{Renewed, wanted}
use Rattle.board.proofs.tickets.renew_all.Given as goal

abbrev pub invariant-loop-number : goal.invariant-loop-number
invariant-loop-number g l =
    let m = g.S.Structure.means in
    let n = g.Q.Queue.means in
    (n.sound l.initial.queue → n.capacity l.initial.queue ≡ 64 → Renewed n (wanted m l.structure) l.numbers l.initial.queue l.queue l.number-index) ×
    QueueKept n l.initial.queue l.queue
