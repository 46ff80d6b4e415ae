use Rattle.std.proofs.Common.{◌≡◌, true, false, sym}
use Rattle.event_queue.specs.Orders.{sooner}
use Rattle.pairing_heap.specs.Links.{columns, key_of}
use Rattle.pairing_heap.proofs.Columns.{cells_even}
use Rattle.pairing_heap.proofs.Melding.{meld_first, meld_second}
use Rattle.pairing_heap.proofs.meld.meld.Goals as goal

pub returns-then-is_sooner : goal.returns-then-is_sooner
returns-then-is_sooner g c =
    let cs = c.args.cells.now in
    let x = c.in-Some.first in
    let y = c.in-Some-b.second in
    let s : sooner g.K.Key.before (key_of (columns cs) y) (key_of (columns cs) x) ≡ true = rw (← c.key_of.ensures, ← c.key_of-2.ensures) (sym c.if-is_sooner.ensures) in
    meld_second g.K.Key.before (columns cs) (cells_even cs) (record { asymmetric = g.met.K.Key.asymmetric; carries = g.met.K.Key.carries }) (columns c.link.new.cells) c.args.a c.args.b x y c.in-Some.is c.in-Some-b.is c.link.ensures s

pub returns-else-is_sooner : goal.returns-else-is_sooner
returns-else-is_sooner g c =
    let cs = c.args.cells.now in
    let x = c.in-Some.first in
    let y = c.in-Some-b.second in
    let s : sooner g.K.Key.before (key_of (columns cs) y) (key_of (columns cs) x) ≡ false = rw (← c.key_of.ensures, ← c.key_of-2.ensures) (sym c.if-is_sooner.ensures) in
    meld_first g.K.Key.before (columns cs) (cells_even cs) (columns c.link-else-is_sooner.new.cells) c.args.a c.args.b x y c.in-Some.is c.in-Some-b.is c.link-else-is_sooner.ensures s
