use Rattle.std.proofs.Common.{◌≡◌, Some, Ok, Err, refl, sym, ap, ◌∙◌, subst, w16, to_z, of_z, arith}
use Rattle.std.proofs.lemmas.Int.{ints}
use Rattle.event_queue.proofs.Options.{none_some}
use Rattle.fairway.specs.Instants.{stamp_of}
use Rattle.fairway.specs.Stamps.{time_of}
use Rattle.kinetic.specs.Structures as structures
use Rattle.kinetic.specs.Structures.{steer_refusal}
use Rattle.board.specs.Checks.{SteerChecked}
use Rattle.board.specs.Tickets.{TicketsBut}
use Rattle.board.specs.declared.call.Call.TheVariants.{Steer}
use Rattle.board.proofs.Changing.{changes, large_aboard, old_course, refused, steers, steers_structure}
use Rattle.board.proofs.Claims.{as_listed}
use Rattle.board.proofs.Pasts.{adds}
use Rattle.board.proofs.board.Board.steer.Goals as goal

pub returns-in_err-course-clause-adds : goal.returns-in_err-course-clause-adds
returns-in_err-course-clause-adds g c =
    let m = g.S.Structure.means in
    let n = g.Q.Queue.means in
    let laws = g.met.S.Structure in
    let b = c.args.self.now in
    let v : to_z w16 (of_z w16 c.args.speed) ≡ c.args.speed = omega (arith, ints) in
    let e = c.in_err-course.field-0.0 in
    let checked : SteerChecked m n b c.args.number c.args.speed (Err e) = subst (λ s. SteerChecked m n b c.args.number s (Err e)) v c.in_err-course.ensures in
    adds m n laws.ordered laws.leads _ _ _ (refused m n b (Steer c.args.number c.args.speed) e c.from_residual.result checked c.from_residual.ensures.1)

pub returns-in_err-course-clause-listed : goal.returns-in_err-course-clause-listed
returns-in_err-course-clause-listed g c = λ b log p. as_listed g.Q.Queue.means b log p

pub unreachable-requires : goal.unreachable-requires
unreachable-requires g c =
    let m = g.S.Structure.means in
    let n = g.Q.Queue.means in
    let laws = g.met.S.Structure in
    let b = c.args.self.now in
    let x = c.in_ok-course.course in
    let v : to_z w16 (of_z w16 c.args.speed) ≡ c.args.speed = omega (arith, ints) in
    let checked : SteerChecked m n b c.args.number c.args.speed (Ok x) = subst (λ s. SteerChecked m n b c.args.number s (Ok x)) v c.in_ok-course.ensures in
    let o = old_course m n b c.args.number c.args.speed x checked.1 in
    let k = steers m n b c.args.number 0 c.args.speed o.old checked.0 o.there in
    none_some (sym (ap (steer_refusal m b.structure) o.is ∙ steers_structure m n b c.args.number c.args.speed o.old k (laws.listed _ _ _ o.there).number o.there) ∙ c.in_default.ensures.0)

pub returns-clause-adds : goal.returns-clause-adds
returns-clause-adds g c =
    let m = g.S.Structure.means in
    let n = g.Q.Queue.means in
    let laws = g.met.S.Structure in
    let b = c.args.self.now in
    let x = c.in_ok-course.course in
    let v : to_z w16 (of_z w16 c.args.speed) ≡ c.args.speed = omega (arith, ints) in
    let checked : SteerChecked m n b c.args.number c.args.speed (Ok x) = subst (λ s. SteerChecked m n b c.args.number s (Ok x)) v c.in_ok-course.ensures in
    let o = old_course m n b c.args.number c.args.speed x checked.1 in
    let k = steers m n b c.args.number 0 c.args.speed o.old checked.0 o.there in
    let at = subst (λ s. structures.Changed m (time_of s) b.structure c.steer.new.self x.number (Some x) c.in-Ok.named) c.stamp.ensures c.in-Ok.ensures.1 in
    let own = ap (λ z. z.number) o.is ∙ (laws.listed _ _ _ o.there).number in
    let change = subst (λ z. structures.Changed m (time_of (stamp_of b.clock)) b.structure c.steer.new.self z (Some x) c.in-Ok.named) own at in
    let altered = subst (λ z. structures.Changed m (time_of (stamp_of b.clock)) b.structure c.steer.new.self c.args.number z c.in-Ok.named) (sym checked.1) change in
    adds m n laws.ordered laws.leads _ _ _ (
      checked.0,
      (refl, changes m n b _ c.args.number _ c.in-Ok.named laws.bounded altered refl refl refl k.whole (large_aboard m n b c.args.number o.old o.there) (λ s large but. c.renew_all.ensures.tickets s large (subst (TicketsBut m n c.steer.new.self b.queue) (sym c.as_slice.ensures.value) but)) c.renew_all.ensures.kept),
    )

pub returns-clause-listed : goal.returns-clause-listed
returns-clause-listed g c = λ b log p. as_listed g.Q.Queue.means b log p
