use Rattle.fairway.proofs.Kinetic.{laws}
use Rattle.fairway.proofs.Laws.{told_behind}
use Rattle.fairway.proofs.pair.Pair.is_in_order.Goals as goal

pub returns : goal.returns
returns c = record { value = c.is_behind.ensures; meaning = told_behind _ _ _ _ c.is_behind.ensures; laws = laws }
