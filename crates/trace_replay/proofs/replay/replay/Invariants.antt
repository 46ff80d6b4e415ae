use Rattle.std.proofs.Common.{[], length}
use Rattle.trace_replay.proofs.Ways.{Way}
use Rattle.trace_replay.proofs.replay.replay.Given as goal

abbrev pub invariant-loop-step : goal.invariant-loop-step
invariant-loop-step g l =
    Way g.Q.Queue.means (length l.initial.page) (record { board = l.initial.board; log = []; rows = l.initial.rows; output = [] }) l.initial.reader l.initial.page l.board l.rows l.page l.written l.reader

abbrev pub decreases-loop-step : goal.decreases-loop-step
decreases-loop-step g l = length l.reader
