use Rattle.std.proofs.Common.{sym}
use Rattle.pairing_heap.proofs.Cutting.{here_leads, other_leads}
use Rattle.pairing_heap.proofs.Removing.{root_removed, inner_removed}
use Rattle.pairing_heap.proofs.tickets.remove.Goals as goal

pub returns-then-eq : goal.returns-then-eq
returns-then-eq g c size key s held =
    root_removed g.K.Key.before c.args.cells.now c.remove_root.new.cells c.args.root c.remove_root.result size c.args.ticket (here_leads c.args.root c.args.ticket (sym c.if-eq.ensures)) s c.remove_root.ensures

pub returns : goal.returns
returns g c size key s held =
    inner_removed g.K.Key.before c.args.cells.now c.cut.new.cells c.remove_root-children.new.cells c.meld.new.cells c.args.root c.remove_root-children.result c.meld.result size c.args.ticket key
    (other_leads c.args.root c.args.ticket (sym c.if-eq.ensures)) c.cut.ensures c.remove_root-children.ensures c.meld.ensures s held
