-- The caller's cells under a call sheet over a binary heap.
use Rattle.std.specs.Prelude.{◌≡◌, ℕ, List, drop}
use Rattle.binary_heap.specs.declared.cell.Cell.{Cell}
use Rattle.binary_heap.specs.declared.heap.BinaryHeap.{BinaryHeap}
use Rattle.call_sheet.specs.declared.sheet.CallSheet.{CallSheet}

-- the cells past the 64th
abbrev pub cells_past : CallSheet (BinaryHeap ℕ) → List (Cell ℕ)
cells_past sheet = drop 64 sheet.queue.cells.now

-- The sheet stands in the cells in which it stood, and those past the 64th are as they were.
pub record CellsStay (sheet sheet' : CallSheet (BinaryHeap ℕ)) : Type 0 where
  pub lender : sheet'.queue.cells.ghost_name ≡ sheet.queue.cells.ghost_name
  pub past : cells_past sheet' ≡ cells_past sheet
