use Rattle.std.proofs.Common.{◌≡◌, map, get_or, take, None, ap, ◌∙◌, rules}
use Rattle.event_queue.proofs.Keyed.{cleared_none}
use Rattle.event_queue.proofs.Fronts.{front_holds, front_past}
use Rattle.event_queue.proofs.cells.clear_front.Goals as goal

pub returns-clause-cleared : goal.returns-clause-cleared
returns-clause-cleared g c = front_holds c.args.cells.now c.clear.new.cells _ (search rules) c.clear.auto.cells (λ xs ys. ys ≡ map g.C.KeyCell.cleared xs) c.clear.ensures

pub returns-clause-empty : goal.returns-clause-empty
returns-clause-empty g c i =
    let cell = g.C.KeyCell in
    ap (λ xs. get_or (map cell.holds xs) i None) (returns-clause-cleared g c)
    ∙ cleared_none cell.holds cell.cleared g.met.C.KeyCell.empties (take 64 c.args.cells.now) i

pub returns-clause-past : goal.returns-clause-past
returns-clause-past g c = front_past c.args.cells.now c.clear.new.cells _ (search rules) c.clear.auto.cells
