use Rattle.std.proofs.Common.{ℕ, ◌<◌, ◌≤◌, Some}
use Rattle.binary_heap.specs.Slots.{columns, key_at, Within, seated, Linked}
use Rattle.binary_heap.specs.Orders.{Upward}
use Rattle.binary_heap.proofs.Sifts.{Rising}
use Rattle.binary_heap.proofs.sift.sift_up.Given as goal

abbrev pub invariant-loop-above : goal.invariant-loop-above
invariant-loop-above g l =
    (l.at ≤ l.slot) × Within (columns l.cells) l.at ×
    ((n : ℕ) → Within (seated (columns l.initial.cells) l.slot l.ticket (Some l.key)) n → Within (seated (columns l.cells) l.at l.ticket (Some l.key)) n) ×
    ((n : ℕ) → l.slot < n →
    Linked (seated (columns l.initial.cells) l.slot l.ticket (Some l.key)) n → Upward g.K.Key.before (key_at (seated (columns l.initial.cells) l.slot l.ticket (Some l.key))) n l.slot →
    Rising g.K.Key.before (seated (columns l.initial.cells) l.slot l.ticket (Some l.key)) (seated (columns l.cells) l.at l.ticket (Some l.key)) n l.at)

abbrev pub decreases-loop-above : goal.decreases-loop-above
decreases-loop-above g l = l.at
