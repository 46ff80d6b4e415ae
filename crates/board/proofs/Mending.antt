-- A mend of the certificate whose ticket is handed out.
use Rattle.std.proofs.Common.{◌≡◌, ℕ, true, false, ◌⊎◌, List, Some, None, Ok, Err, Result, eqb, sym, refl, ap, ◌∙◌, subst, inl, inr, ⊎_elim}
use Rattle.std.proofs.lemmas.Bool.{eqb-true, eqb-false, cases_Bool, false≢true}
use Rattle.std.specs.Result.{result_ok}
use Rattle.event_queue.specs.Queues as queues
use Rattle.event_queue.specs.Queues.{Only, HandedOut}
use Rattle.event_queue.proofs.Options.{none_some, some_same}
use Rattle.fairway.specs.Times.{Time, ◌≤ᵗ◌}
use Rattle.fairway.specs.Meetings.{level}
use Rattle.fairway.specs.Stamps.{time_of, earlier, BelowOne}
use Rattle.fairway.specs.StampsLemmas.{proper, not_later}
use Rattle.fairway.specs.Standing.{NotLevelBefore}
use Rattle.fairway.specs.declared.course.Course.{Course}
use Rattle.fairway.specs.declared.stamp.Stamp.{Stamp}
use Rattle.fairway.proofs.Meetings.{not_level_yet}
use Rattle.kinetic.specs.Numbers.{among}
use Rattle.kinetic.specs.Limits.{due}
use Rattle.kinetic.specs.Structures as structures
use Rattle.kinetic.specs.Structures.{InOrder, Lasting, Certified, NoneDue, Mend, mend_refusal}
use Rattle.kinetic.specs.declared.refusal.Refusal.{Refusal}
use Rattle.kinetic.proofs.Refused.{mend_accepted}
use Rattle.kinetic.proofs.Tests.{is_pair_due}
use Rattle.board.specs.Passings.{Midway, NextMend, row_of}
use Rattle.board.specs.Tickets.{Ticket, instant_of, before, limit_of, ticket, Tickets, TicketsBut, QueueKept}
use Rattle.board.proofs.TicketLaws.{ticket_level, has_ticket, by_limit, by_order}
use Rattle.board.proofs.Meetings.{not_before, level_is, has_level, level_later, not_earlier, certainly_earlier}

-- a stamp that is not earlier is not earlier in time
not_sooner : (t u : Stamp) → BelowOne t → BelowOne u → earlier t u ≡ false → time_of u ≤ᵗ time_of t
not_sooner t u a b e = not_later u t b e

module _ {S Q : Type 0} (m : structures.Meaning S) (n : queues.Meaning Q Ticket) where
  -- the ticket of the certificate was renewed where it is not named
  abbrev pub RenewedOrNamed : S → Q → Q → ℕ → List ℕ → Type 0
  RenewedOrNamed s' q q' i named =
      ((among i named ≡ false) × (n.sound q → n.capacity q ≡ 64 → Only n q q' i (ticket (m.certificate s' i))) × QueueKept n q q') ⊎
      ((among i named ≡ true) × (q' ≡ q))

  -- the queue hands out none up to the limit: no pair draws level up to the instant
  pub none_left : (u to : Stamp) (limit : Ticket) (s : S) (q : Q) → limit ≡ limit_of to → Midway m n u s q → ((i : ℕ) (k : Ticket) → n.held q i ≡ Some k → before limit k ≡ true) →
      (i : ℕ) (r f : Course) (at : Stamp) → m.certificate s i ≡ Some (r, f) → level r f ≡ Some at → earlier to at ≡ true
  none_left u to limit s q e mid none i r f at c l =
      let t = has_ticket r f at l in
      let k = t.ticket_is in
      subst (λ x. earlier to x ≡ true) t.instant_is (sym (by_limit to k) ∙ sym (ap (λ x. before x k) e) ∙ none i k (mid.tickets i ∙ ap ticket c ∙ t.asked))

  module _ (ordered : InOrder m) (lasting : Lasting m) (certified : Certified m) (u to : Stamp) (limit : Ticket) (s : S) (q q1 : Q) (limit_is : limit ≡ limit_of to) (mid : Midway m n u s q) (i : ℕ) (k : Ticket) (h : HandedOut n before q q1 limit i k) (p : Course × Course) (e : m.certificate s i ≡ Some p) where
    pub meets : level p.0 p.1 ≡ Some (instant_of k)
    meets = ticket_level p.0 p.1 k (sym (mid.tickets i ∙ ap ticket e) ∙ h.was_held)

    later : time_of u ≤ᵗ time_of (instant_of k)
    later = level_later (time_of u) p.0 p.1 (instant_of k) meets (not_before (time_of u) p.0 p.1 (ordered (time_of u) s (proper u) mid.stands i p.0 p.1 e))

    none_sooner : (j : ℕ) (r f : Course) → m.certificate s j ≡ Some (r, f) → NotLevelBefore (time_of (instant_of k)) r f
    none_sooner j r f c F =
        let l = has_level (time_of u) (proper u) r f F (not_before (time_of u) r f (ordered (time_of u) s (proper u) mid.stands j r f c)) in
        let t = has_ticket r f l.0 l.1 in
        let z = subst (λ x. earlier x (instant_of k) ≡ false) t.instant_is (by_order t.ticket_is k (h.none_before j t.ticket_is (mid.tickets j ∙ ap ticket c ∙ t.asked))) in
        not_level_yet r f l.0 l.1 (time_of (instant_of k)) (not_sooner l.0 (instant_of k) (level_is r f l.0 l.1).below_one (level_is p.0 p.1 (instant_of k) meets).below_one z) F

    stands_then : m.standing (time_of (instant_of k)) s
    stands_then = lasting (time_of u) (time_of (instant_of k)) s (proper u) (proper (instant_of k)) later mid.stands none_sooner

    pub large : n.capacity q ≡ 64
    large = ⊎_elim (λ c. c) (λ v. absurd (none_some (sym (v p.0.number) ∙ (certified s i p.0 p.1 e).1))) mid.room

    -- it is due, and its mend accepted
    pub not_refused : mend_refusal m (time_of (instant_of k)) s i ≡ None
    not_refused = mend_accepted m s (time_of (instant_of k)) i (ap (due (time_of (instant_of k))) e ∙ is_pair_due (time_of (instant_of k)) p.0 p.1 (level_is p.0 p.1 (instant_of k) meets).due)

    one : Only n q q1 i None
    one = h.after

    -- what the queue holds once the ticket is renewed, or will be
    pub tickets_but : (s' : S) (q2 : Q) (named : List ℕ) → Mend m (time_of (instant_of k)) s s' i named → RenewedOrNamed s' q1 q2 i named → n.sound q2 × (n.capacity q2 ≡ 64) × TicketsBut m n s' q2 named
    tickets_but s' q2 named d (inl b) =
        let o = b.1 one.sound (one.capacity ∙ large) in (
          o.sound,
          o.capacity ∙ one.capacity ∙ large,
          λ j e. ⊎_elim
              (λ t. let same = eqb-true j i t in subst (λ x. n.held q2 x ≡ ticket (m.certificate s' x)) (sym same) o.there)
              (λ t. let ne = eqb-false j i t in o.others j ne ∙ one.others j ne ∙ mid.tickets j ∙ ap ticket (sym (d.named j e)))
              (cases_Bool (eqb j i)),
        )
    tickets_but s' q2 named d (inr b) =
        let o = subst (λ x. Only n q x i None) (sym b.1) one in (
          o.sound,
          o.capacity ∙ large,
          λ j e. o.others j (λ same. false≢true (sym e ∙ ap (λ x. among x named) same ∙ b.0)) ∙ mid.tickets j ∙ ap ticket (sym (d.named j e)),
        )

    pub next_mend : (s' : S) (q2 q' : Q) (named : List ℕ) → Mend m (time_of (instant_of k)) s s' i named → RenewedOrNamed s' q1 q2 i named →
        (n.sound q2 → n.capacity q2 ≡ 64 → TicketsBut m n s' q2 named → Tickets m n s' q') → QueueKept n q2 q' → NextMend m n u to s s' q' (row_of (instant_of k) p.0 p.1)
    next_mend s' q2 q' named d branch renewed kept =
        let x = level_is p.0 p.1 (instant_of k) meets in
        let b = tickets_but s' q2 named d branch in
        let r = d.stands stands_then in
        record {
          number = i;
          rear = p.0;
          front = p.1;
          pair = e;
          meets = meets;
          rear_is = refl;
          front_is = refl;
          onward = not_earlier u (instant_of k) mid.below_one x.below_one later;
          within = sym (by_limit to k) ∙ sym (ap (λ x. before x k) limit_is) ∙ h.not_after;
          strict = λ none. certainly_earlier u (instant_of k) mid.below_one x.below_one (x.turns.in_order (time_of u) (proper u) (⊎_elim (λ y. y) (λ y. absurd (none i p.0 p.1 e y)) (ordered (time_of u) s (proper u) mid.stands i p.0 p.1 e)));
          load = r.1;
          mended = d.by p.0 p.1 e;
          midway = record { below_one = x.below_one; sound = kept.sound b.0; room = inl (kept.capacity b.0 ∙ b.1); stands = r.0; tickets = renewed b.0 b.1 b.2 };
        }

-- what a mend answers, without its refusal
module _ {S : Type 0} (m : structures.Meaning S) (t : Time) (s s' : S) (i : ℕ) where
  pub mend_some : (r : Result (List ℕ) Refusal) (named : List ℕ) → Some named ≡ result_ok r → structures.Mended m t s s' i r → Mend m t s s' i named
  mend_some (Ok x) named e h = subst (Mend m t s s' i) (sym (some_same e)) h.1
  mend_some (Err x) named e h = absurd (none_some (sym e))

  pub mend_none : (r : Result (List ℕ) Refusal) → None ≡ result_ok r → structures.Mended m t s s' i r → mend_refusal m t s i ≡ None → ⊥
  mend_none (Ok x) e h k = none_some e
  mend_none (Err x) e h k = none_some (sym k ∙ h.0)
