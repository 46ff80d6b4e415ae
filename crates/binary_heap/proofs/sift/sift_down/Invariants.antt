use Rattle.std.proofs.Common.{ℕ, ◌-◌, ◌<◌, Some}
use Rattle.binary_heap.specs.Slots.{columns, key_at, Within, seated, Linked}
use Rattle.binary_heap.specs.Orders.{Downward}
use Rattle.binary_heap.proofs.Sifts.{Sinking}
use Rattle.binary_heap.proofs.sift.sift_down.Given as goal

abbrev pub invariant-loop-child : goal.invariant-loop-child
invariant-loop-child g l =
    (l.at < l.size) × Within (columns l.cells) l.size ×
    ((n : ℕ) → Within (seated (columns l.initial.cells) l.slot l.ticket (Some l.key)) n → Within (seated (columns l.cells) l.at l.ticket (Some l.key)) n) ×
    (Linked (seated (columns l.initial.cells) l.slot l.ticket (Some l.key)) l.size → Downward g.K.Key.before (key_at (seated (columns l.initial.cells) l.slot l.ticket (Some l.key))) l.size l.slot →
    Sinking g.K.Key.before (seated (columns l.initial.cells) l.slot l.ticket (Some l.key)) (seated (columns l.cells) l.at l.ticket (Some l.key)) l.size l.at)

abbrev pub decreases-loop-child : goal.decreases-loop-child
decreases-loop-child g l = l.size - l.at
