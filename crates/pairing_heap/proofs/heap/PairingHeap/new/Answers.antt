use Rattle.std.proofs.Common.{take}
use Rattle.pairing_heap.proofs.Roots.{empty_sound}
use Rattle.pairing_heap.proofs.heap.PairingHeap.new.Goals as goal

pub returns-clause-empty : goal.returns-clause-empty
returns-clause-empty g c =
    let none = c.clear_front.ensures.empty in
    record { sound = empty_sound g.K.Key.before (take 64 c.clear_front.new.cells) none; none = none }
