use Rattle.std.proofs.Common.{◌≡◌, ◌++◌, map, take, drop}
use Rattle.event_queue.proofs.cells.clear.Given as goal

abbrev pub invariant-loop-cell : goal.invariant-loop-cell
invariant-loop-cell g l = l.cells ≡ map g.C.KeyCell.cleared (take l.cell-index l.initial.cells) ++ drop l.cell-index l.initial.cells
