use Rattle.std.proofs.Common.{◌-◌, arith}
use Rattle.pairing_heap.specs.Links.{columns}
use Rattle.pairing_heap.proofs.Melding.{pairs_step}
use Rattle.pairing_heap.proofs.meld.+meld_pairs.Goals as goal

pub returns : goal.returns
returns g t c =
    pairs_step g.K.Key.before (columns c.args.cells.now) (columns c.meld-pair.new.cells) (columns c.meld_pairs-others.new.cells) (columns c.meld.new.cells) c.args.first c.next_of-second.result c.next_of-rest.result c.meld-pair.result c.meld_pairs-others.result c.meld.result c.in_ok-one.one c.in-Some.two c.args.fuel (c.args.fuel - 1)
    c.in_ok-one.was c.next_of-second.ensures c.in-Some.is c.next_of-rest.ensures c.meld-pair.ensures c.meld_pairs-others.ensures c.meld.ensures (omega arith)
