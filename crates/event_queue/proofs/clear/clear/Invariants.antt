use Rattle.event_queue.proofs.Clearing.{Cleared}
use Rattle.event_queue.proofs.clear.clear.Given as goal

abbrev pub invariant-loop-ticket : goal.invariant-loop-ticket
invariant-loop-ticket g l =
    let m = g.Q.Queue.means in
    (m.sound l.initial.queue → Cleared m l.initial.queue l.queue l.ticket) × m.keeps l.initial.queue l.queue
