use Rattle.std.proofs.Common.{◌≡◌, ℕ, ◌-◌, length, take}
use Rattle.fairway.specs.declared.stamp.Stamp.{Stamp as TimeStamp}
use Rattle.board.specs.Passings.{Begins, Written}
use Rattle.board.specs.Tickets.{QueueKept}
use Rattle.board.proofs.Arriving.{Way}
use Rattle.board.proofs.passing.mend_until.Given as goal

abbrev pub invariant-loop-count : goal.invariant-loop-count
invariant-loop-count g l =
    let m = g.S.Structure.means in
    let n = g.Q.Queue.means in
    Written l.count l.initial.rows l.rows ×
    ((v : ℕ) → m.roster l.structure v ≡ m.roster l.initial.structure v) ×
    QueueKept n l.initial.queue l.queue ×
    ((u to : TimeStamp) → Begins m n u to l.limit l.initial.structure l.initial.queue (length l.initial.rows) → Way m n u to l.initial.structure l.structure l.queue l.count (take l.count l.rows))

abbrev pub decreases-loop-count : goal.decreases-loop-count
decreases-loop-count g l = length l.rows - l.count
