use Rattle.std.proofs.Common.{refl, sym, ◌∙◌, subst}
use Rattle.event_queue.proofs.Options.{none_some}
use Rattle.fairway.specs.Stamps.{time_of}
use Rattle.kinetic.specs.Structures as structures
use Rattle.board.specs.Tickets.{TicketsBut}
use Rattle.board.specs.declared.call.Call.TheVariants.{Leave}
use Rattle.board.proofs.Changing.{changes, large_aboard, leaves, leaves_structure, refused}
use Rattle.board.proofs.Claims.{as_listed}
use Rattle.board.proofs.Pasts.{adds}
use Rattle.board.proofs.board.Board.leave.Goals as goal

pub returns-in_err-leaving-clause-adds : goal.returns-in_err-leaving-clause-adds
returns-in_err-leaving-clause-adds g c =
    let m = g.S.Structure.means in
    let n = g.Q.Queue.means in
    let laws = g.met.S.Structure in
    adds m n laws.ordered laws.leads _ _ _ (refused m n c.args.self.now (Leave c.args.number) c.in_err-leaving.field-0.0 c.from_residual.result c.in_err-leaving.ensures c.from_residual.ensures.1)

pub returns-in_err-leaving-clause-listed : goal.returns-in_err-leaving-clause-listed
returns-in_err-leaving-clause-listed g c = λ b log p. as_listed g.Q.Queue.means b log p

pub unreachable-requires : goal.unreachable-requires
unreachable-requires g c =
    let m = g.S.Structure.means in
    let n = g.Q.Queue.means in
    let b = c.args.self.now in
    none_some (sym (leaves_structure m n b c.args.number (leaves m n b c.args.number 0 c.in_ok-leaving.ensures.0)) ∙ c.in_default.ensures.0)

pub returns-clause-adds : goal.returns-clause-adds
returns-clause-adds g c =
    let m = g.S.Structure.means in
    let n = g.Q.Queue.means in
    let laws = g.met.S.Structure in
    let b = c.args.self.now in
    let k = leaves m n b c.args.number 0 c.in_ok-leaving.ensures.0 in
    let change = subst (λ (s : _). structures.Changed m (time_of s) b.structure c.leave.new.self c.args.number _ c.in-Ok.named) c.stamp.ensures c.in-Ok.ensures.1 in
    adds m n laws.ordered laws.leads _ _ _ (
      c.in_ok-leaving.ensures.0,
      (refl, changes m n b _ c.args.number _ c.in-Ok.named laws.bounded change refl refl refl k.whole (large_aboard m n b c.args.number k.course k.there) (λ s large but. c.renew_all.ensures.tickets s large (subst (TicketsBut m n c.leave.new.self b.queue) (sym c.as_slice.ensures.value) but)) c.renew_all.ensures.kept),
    )

pub returns-clause-listed : goal.returns-clause-listed
returns-clause-listed g c = λ b log p. as_listed g.Q.Queue.means b log p
