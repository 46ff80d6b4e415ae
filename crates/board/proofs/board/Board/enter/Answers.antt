use Rattle.std.proofs.Common.{◌≡◌, Some, Ok, Err, refl, sym, ap, ◌∙◌, subst, w16, w32, to_z, of_z, arith}
use Rattle.std.proofs.lemmas.Int.{ints}
use Rattle.event_queue.proofs.Options.{none_some}
use Rattle.fairway.specs.Instants.{stamp_of}
use Rattle.fairway.specs.Stamps.{time_of}
use Rattle.fairway.specs.declared.course.Course.{Course}
use Rattle.kinetic.specs.Structures as structures
use Rattle.kinetic.specs.Structures.{enter_refusal}
use Rattle.board.specs.Tickets.{TicketsBut}
use Rattle.board.specs.declared.call.Call.TheVariants.{Enter}
use Rattle.board.proofs.Changing.{changes, enters, enters_structure, entry_read, large_enough, refused}
use Rattle.board.proofs.Claims.{as_listed}
use Rattle.board.proofs.Pasts.{adds}
use Rattle.board.proofs.board.Board.enter.Goals as goal

pub returns-in_err-course-clause-adds : goal.returns-in_err-course-clause-adds
returns-in_err-course-clause-adds g c =
    let m = g.S.Structure.means in
    let n = g.Q.Queue.means in
    let laws = g.met.S.Structure in
    let b = c.args.self.now in
    let p : to_z w32 (of_z w32 c.args.position) ≡ c.args.position = omega (arith, ints) in
    let v : to_z w16 (of_z w16 c.args.speed) ≡ c.args.speed = omega (arith, ints) in
    let e = c.in_err-course.field-0.0 in
    let checked = entry_read m n b c.args.number c.args.position _ c.args.speed _ (Err e) p v c.in_err-course.ensures in
    adds m n laws.ordered laws.leads _ _ _ (refused m n b (Enter c.args.number c.args.position c.args.speed) e c.from_residual.result checked c.from_residual.ensures.1)

pub returns-in_err-course-clause-listed : goal.returns-in_err-course-clause-listed
returns-in_err-course-clause-listed g c = λ b log p. as_listed g.Q.Queue.means b log p

pub unreachable-requires : goal.unreachable-requires
unreachable-requires g c =
    let m = g.S.Structure.means in
    let n = g.Q.Queue.means in
    let b = c.args.self.now in
    let p : to_z w32 (of_z w32 c.args.position) ≡ c.args.position = omega (arith, ints) in
    let v : to_z w16 (of_z w16 c.args.speed) ≡ c.args.speed = omega (arith, ints) in
    let checked = entry_read m n b c.args.number c.args.position _ c.args.speed _ (Ok c.in_ok-course.course) p v c.in_ok-course.ensures in
    let k = enters m n b c.args.number 0 c.args.position c.args.speed checked.0 in
    none_some (sym (ap (enter_refusal m b.structure) checked.1 ∙ enters_structure m n b c.args.number c.args.position c.args.speed k b.clock.bounded) ∙ c.in_default.ensures.0)

pub returns-clause-adds : goal.returns-clause-adds
returns-clause-adds g c =
    let m = g.S.Structure.means in
    let n = g.Q.Queue.means in
    let laws = g.met.S.Structure in
    let b = c.args.self.now in
    let p : to_z w32 (of_z w32 c.args.position) ≡ c.args.position = omega (arith, ints) in
    let v : to_z w16 (of_z w16 c.args.speed) ≡ c.args.speed = omega (arith, ints) in
    let checked = entry_read m n b c.args.number c.args.position _ c.args.speed _ (Ok c.in_ok-course.course) p v c.in_ok-course.ensures in
    let k = enters m n b c.args.number 0 c.args.position c.args.speed checked.0 in
    let h = c.in-Ok.ensures in
    let at = subst (λ s. structures.Changed m (time_of s) b.structure c.enter.new.self c.in_ok-course.course.number (Some c.in_ok-course.course) c.in-Ok.named) c.stamp.ensures h.1 in
    let change = subst (λ (x : Course). structures.Changed m (time_of (stamp_of b.clock)) b.structure c.enter.new.self x.number (Some x) c.in-Ok.named) checked.1 at in
    adds m n laws.ordered laws.leads _ _ _ (
      checked.0,
      (refl, changes m n b _ c.args.number _ c.in-Ok.named laws.bounded change refl refl refl k.whole (large_enough m n b k.large) (λ s large but. c.renew_all.ensures.tickets s large (subst (TicketsBut m n c.enter.new.self b.queue) (sym c.as_slice.ensures.value) but)) c.renew_all.ensures.kept),
    )

pub returns-clause-listed : goal.returns-clause-listed
returns-clause-listed g c = λ b log p. as_listed g.Q.Queue.means b log p
