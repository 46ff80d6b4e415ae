use Rattle.std.proofs.Common.{nat_lt, string_bytes}
use Rattle.std.proofs.lemmas.Result.{IfOk-weaker}
use Rattle.pairing_heap.specs.Meanings.{heap_meaning}
use Rattle.radio_watch.proofs.Watches.{watched_anew}
use Rattle.watch.proofs.over_pairing_heap.Goals as goal

pub returns : goal.returns
returns c =
    let queue = c.new-queue.ensures in
    let sheet = c.new-sheet.ensures in
    let stood = c.stand_watch.ensures in
    IfOk-weaker c.stand_watch.result _ _
    (λ text reported. watched_anew (heap_meaning nat_lt) c.args.script.now _ _ _ 64 (string_bytes text) queue.empty queue.capacity sheet.empty sheet.capacity stood.capacity reported)
    stood.report
