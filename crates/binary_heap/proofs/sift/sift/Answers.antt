use Rattle.binary_heap.specs.Slots.{columns}
use Rattle.binary_heap.proofs.Sifts.{cells_even, belongs_up, belongs_down}
use Rattle.binary_heap.proofs.sift.sift.Goals as goal

pub returns-in-Some-clause-sifts : goal.returns-in-Some-clause-sifts
returns-in-Some-clause-sifts g c l w =
    let found = c.in-Some.ensures in
    c.sift_up.ensures.sifts c.args.size c.requires.slot l
    (belongs_up g.K.Key.before (record { asymmetric = g.met.K.Key.asymmetric; carries = g.met.K.Key.carries }) (columns c.args.cells.now) (cells_even c.args.cells.now) c.args.size c.args.slot c.args.ticket c.args.key c.requires.slot l found.0 found.2 w)

pub returns-in-None-clause-sifts : goal.returns-in-None-clause-sifts
returns-in-None-clause-sifts g c l w =
    c.sift_down.ensures.sifts l
    (belongs_down g.K.Key.before (record { asymmetric = g.met.K.Key.asymmetric; carries = g.met.K.Key.carries }) (columns c.args.cells.now) (cells_even c.args.cells.now) c.args.size c.args.slot c.args.ticket c.args.key c.requires.slot l c.in-None.ensures w)
