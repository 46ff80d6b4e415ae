use Rattle.std.proofs.Common.{inl, inr, refl, sym, ap, ◌∙◌, subst, ⊎_elim}
use Rattle.fairway.specs.Stamps.{time_of}
use Rattle.kinetic.specs.Numbers.{among}
use Rattle.kinetic.specs.Structures as structures
use Rattle.board.specs.Passings.{MendOrNone, NextMend, row_of}
use Rattle.board.specs.Tickets.{TicketsBut, QueueKept}
use Rattle.board.proofs.Mending.{none_left, not_refused, next_mend, RenewedOrNamed, mend_some, mend_none}
use Rattle.board.proofs.Renewing.{kept_itself, kept_on, kept_only}
use Rattle.board.proofs.passing.mend_next.Goals.{then-not-is_named, else-not-is_named}
use Rattle.board.proofs.passing.mend_next.Goals as goal

pub returns-in_err-number-clause-mend : goal.returns-in_err-number-clause-mend
returns-in_err-number-clause-mend g c =
    let m = g.S.Structure.means in
    let n = g.Q.Queue.means in
    λ u to limit_is mid.
    let e = c.in_err-number.ensures.after mid.sound in
    subst (MendOrNone m n u to c.args.structure.now c.args.structure.now c.take.new.self) (sym c.from_residual.ensures)
    (refl, record { below_one = mid.below_one; sound = e.1.sound; room = ⊎_elim (λ k. inl (e.1.capacity ∙ k)) inr mid.room; stands = mid.stands; tickets = λ i. e.1.same i ∙ mid.tickets i }, none_left m n u to c.args.limit _ c.args.queue.now limit_is mid e.0)

pub returns-in_err-named-clause-mend : goal.returns-in_err-named-clause-mend
returns-in_err-named-clause-mend g c =
    let m = g.S.Structure.means in
    let n = g.Q.Queue.means in
    let laws = g.met.S.Structure in
    let number = c.in_ok-number.number in
    let ticket = c.in_ok-number.ticket in
    λ u to limit_is mid.
    let e = sym c.certificate.ensures ∙ c.in_ok-rear.was in
    let h = c.in_ok-number.ensures.after mid.sound in
    let mended = subst (λ x. structures.Mended m (time_of x) c.args.structure.now c.mend.new.self number c.mend.result) c.instant_of-at.ensures c.mend.ensures in
    absurd (mend_none m _ _ _ number c.mend.result (sym c.in_err-named.was ∙ c.ok.ensures.value) mended (not_refused m n laws.ordered laws.lasting laws.certified u to c.args.limit _ _ _ limit_is mid number ticket h (c.in_ok-rear.rear, c.in_ok-rear.front) e))

pub returns-clause-mend : goal.returns-clause-mend
returns-clause-mend g c =
    let m = g.S.Structure.means in
    let n = g.Q.Queue.means in
    let laws = g.met.S.Structure in
    let s = c.args.structure.now in
    let s' = c.mend.new.self in
    let number = c.in_ok-number.number in
    let ticket = c.in_ok-number.ticket in
    let named = c.in_ok-named.named in
    λ u to limit_is mid.
    let e = sym c.certificate.ensures ∙ c.in_ok-rear.was in
    let h = c.in_ok-number.ensures.after mid.sound in
    let mended = subst (λ x. structures.Mended m (time_of x) s s' number c.mend.result) c.instant_of-at.ensures c.mend.ensures in
    let d = mend_some m _ _ s' number c.mend.result named (sym c.in_ok-named.was ∙ c.ok.ensures.value) mended in
    let branch : RenewedOrNamed m n s' c.take.new.self c.if-not-is_named.queue number named =
    elim c.if-not-is_named.branch [
      | then-not-is_named w ↦ subst (λ q. RenewedOrNamed m n s' c.take.new.self q number named) (sym w.queue-is) (inl (sym (w.if-not-is_named.ensures ∙ ap (among number) c.as_slice.ensures.value), w.renew.ensures.only, w.renew.ensures.kept))
      | else-not-is_named w ↦ inr (sym (w.if-not-is_named.ensures ∙ ap (among number) c.as_slice.ensures.value), w.queue-is)
    ] in
    subst (λ x. NextMend m n u to s s' c.renew_all.new.queue (row_of x c.in_ok-rear.rear c.in_ok-rear.front)) (sym c.instant_of-at.ensures)
    (next_mend m n laws.ordered laws.lasting laws.certified u to c.args.limit _ _ _ limit_is mid number ticket h (c.in_ok-rear.rear, c.in_ok-rear.front) e s' c.if-not-is_named.queue c.renew_all.new.queue named d branch (λ s large but. c.renew_all.ensures.tickets s large (subst (TicketsBut m n s' c.if-not-is_named.queue) (sym c.as_slice-2.ensures.value) but)) c.renew_all.ensures.kept)

pub returns-clause-kept : goal.returns-clause-kept
returns-clause-kept g c =
    let n = g.Q.Queue.means in
    let first = kept_only n c.take.ensures.keeps (λ s. (c.in_ok-number.ensures.after s).after) in
    let second : QueueKept n c.take.new.self c.if-not-is_named.queue =
    elim c.if-not-is_named.branch [
      | then-not-is_named w ↦ subst (QueueKept n c.take.new.self) (sym w.queue-is) w.renew.ensures.kept
      | else-not-is_named w ↦ subst (QueueKept n c.take.new.self) (sym w.queue-is) (kept_itself n c.take.new.self)
    ] in
    kept_on n first (kept_on n second c.renew_all.ensures.kept)
