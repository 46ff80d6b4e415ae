use Rattle.radio_watch.proofs.Journals.{KeptSoFar}
use Rattle.radio_watch.proofs.journal.keep.Given as goal

abbrev pub invariant-loop-index : goal.invariant-loop-index
invariant-loop-index g l = KeptSoFar g.Q.Queue.means l.asked l.count l.initial.journal l.initial.sheet.queue l.index l.journal l.sheet.queue
