use Rattle.pairing_heap.specs.Links.{columns}
use Rattle.pairing_heap.proofs.Inserting.{inserted}
use Rattle.pairing_heap.proofs.tickets.insert.Goals as goal

pub returns : goal.returns
returns g c size s h free =
    inserted g.K.Key.before c.args.cells.now c.meld.new.cells c.args.root c.meld.result size c.args.ticket c.args.key s h free (columns c.set_key.new.cells) (columns c.set_child.new.cells) c.set_key.ensures c.set_child.ensures c.meld.ensures
