use Rattle.std.proofs.Common.{[], refl}
use Rattle.board.specs.History.Past.{opened}
use Rattle.board.proofs.Claims.{as_listed}
use Rattle.board.proofs.Pasts.{adds, as_booked, opens, starts}
use Rattle.board.proofs.board.Board.open.Goals as goal

pub returns-clause-adds : goal.returns-clause-adds
returns-clause-adds g c =
    let m = g.S.Structure.means in
    let n = g.Q.Queue.means in
    let laws = g.met.S.Structure in
    let e = c.clear-2.ensures in
    adds m n laws.ordered laws.leads _ _ _ (refl, (refl, opens m n _ c.args.self.now.queue c.clear-2.new.queue c.clear.ensures (starts c.start-self.result c.start-self.ensures) refl c.capacity-self.ensures.same c.capacity-self.ensures.value e.empty e.capacity e.keeps))

pub returns-clause-past : goal.returns-clause-past
returns-clause-past g c =
    let m = g.S.Structure.means in
    let n = g.Q.Queue.means in
    let e = c.clear-2.ensures in
    λ s. opened s (opens m n _ c.args.self.now.queue c.clear-2.new.queue c.clear.ensures (starts c.start-self.result c.start-self.ensures) refl c.capacity-self.ensures.same c.capacity-self.ensures.value e.empty e.capacity e.keeps)

pub returns-clause-booked : goal.returns-clause-booked
returns-clause-booked g c =
    let m = g.S.Structure.means in
    let n = g.Q.Queue.means in
    let laws = g.met.S.Structure in
    let e = c.clear-2.ensures in
    λ s. as_booked m n laws.ordered laws.leads _ [] (opened s (opens m n _ c.args.self.now.queue c.clear-2.new.queue c.clear.ensures (starts c.start-self.result c.start-self.ensures) refl c.capacity-self.ensures.same c.capacity-self.ensures.value e.empty e.capacity e.keeps))

pub returns-clause-listed : goal.returns-clause-listed
returns-clause-listed g c = λ b log p. as_listed g.Q.Queue.means b log p
