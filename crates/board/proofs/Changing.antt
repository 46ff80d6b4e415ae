-- Calls that change one vessel: what they are refused for, and what they leave.
use Rattle.std.proofs.Common.{◌≡◌, ℕ, ◌+◌, ◌*◌, ◌<◌, ◌≤◌, true, false, is_some, List, ℤ, ◌==◌, Some, None, Ok, Err, Option, Result, IsErrAnd, refl, sym, ap, ◌∙◌, subst, inl, ⊎_elim, arith}
use Rattle.std.proofs.lemmas.Bool.{eq-eqb, cond-true, false≢true}
use Rattle.std.proofs.lemmas.Bool.Decides.{nat_tests}
use Rattle.event_queue.specs.Queues as queues
use Rattle.event_queue.proofs.Options.{none_some}
use Rattle.fairway.specs.Instants.{stamp_of}
use Rattle.fairway.specs.Rosters.{changed_by}
use Rattle.fairway.specs.Stamps.{time_of}
use Rattle.fairway.specs.declared.course.Course.{Course}
use Rattle.fairway.specs.declared.instant.Instant.{Instant}
use Rattle.kinetic.specs.Structures as structures
use Rattle.kinetic.specs.Structures.{enter_refusal, vessel_refusal, steer_refusal}
use Rattle.kinetic.proofs.Tests.{of_range}
use Rattle.kinetic.proofs.Refused.{enter_accepted, steer_accepted, vessel_known}
use Rattle.kinetic.specs.Limits.{out_of_range}
use Rattle.board.specs.Books.{course_at, at_speed}
use Rattle.board.proofs.Bases.{entry_range}
use Rattle.board.specs.Boards.{Right, TotalBounded, refusal, entry_out}
use Rattle.board.specs.Checks.{EnterChecked}
use Rattle.board.specs.Outcomes.{Changed, Happened, done, plain_event}
use Rattle.board.specs.Tickets.{Ticket, ticket, Tickets, TicketsBut, QueueKept}
use Rattle.board.specs.declared.board.Board.{Board}
use Rattle.board.specs.declared.call.Call.{Call}
use Rattle.board.specs.declared.call.Call.TheVariants.{Enter, Leave, Steer}
use Rattle.board.specs.declared.refusal.Refusal.{Refusal}

-- at a whole second, as many mends may come as the largest load
bounded_anew : (i : Instant) (t l l' : ℕ) → i.numerator ≡ 0 → l' ≤ 2016 → TotalBounded i t l → TotalBounded i t l'
bounded_anew i t l l' z f h =
    let k : t ≤ 2016 * i.seconds = subst (λ x. t ≤ 2016 * x) (cond-true (i.numerator == 0) i.seconds (i.seconds + 1) (eq-eqb i.numerator 0 z)) h.so_far in
    record { so_far = h.so_far; to_come = omega (arith, k, f) }

module _ {S Q : Type 0} (m : structures.Meaning S) (n : queues.Meaning Q Ticket) where
  -- what a change of one vessel leaves, once its tickets are renewed
  pub changes : (b b' : Board S Q) (v : ℕ) (course : Option Course) (named : List ℕ) → structures.Bounded m →
      structures.Changed m (time_of (stamp_of b.clock)) b.structure b'.structure v course named →
      b'.clock ≡ b.clock → b'.total ≡ b.total → b'.capacity ≡ b.capacity → b.clock.numerator ≡ 0 →
      (Right m n b → n.capacity b.queue ≡ 64) →
      (n.sound b.queue → n.capacity b.queue ≡ 64 → TicketsBut m n b'.structure b.queue named → Tickets m n b'.structure b'.queue) →
      QueueKept n b.queue b'.queue → Changed m n b b' v course
  changes b b' v course named few h c t p z large renewed kept =
      record {
        there = h.there;
        others = h.others;
        clock = c;
        capacity = p;
        total = t;
        queue = kept;
        right = λ r. record {
          sound = kept.sound r.sound;
          capacity = p ∙ r.capacity ∙ sym (kept.capacity r.sound);
          room = inl (kept.capacity r.sound ∙ large r);
          rests = subst (λ i. structures.Rests m (time_of (stamp_of i)) b'.structure) (sym c) (h.rests r.rests);
          tickets = renewed r.sound (large r) (λ i e. r.tickets i ∙ ap ticket (sym (h.named i e)));
          total = subst (λ i. TotalBounded i b'.total (m.load b'.structure)) (sym c) (subst (λ x. TotalBounded b.clock x (m.load b'.structure)) (sym t) (bounded_anew b.clock b.total (m.load b.structure) (m.load b'.structure) z (few b'.structure).1 r.total));
        };
      }

  -- where a vessel is aboard, the queue has a ticket number for each certificate
  pub large_aboard : (b : Board S Q) (v : ℕ) (c : Course) → m.roster b.structure v ≡ Some c → Right m n b → n.capacity b.queue ≡ 64
  large_aboard b v c e r = ⊎_elim (λ h. h) (λ h. absurd (none_some (sym (h v) ∙ e))) r.room

  -- ---- a refused call
  -- what the check found and `?` handed on
  pub refused : (b : Board S Q) (call : Call) (e : Refusal) (answer : Result Unit Refusal) → refusal m n b call 0 ≡ Some e → IsErrAnd answer (λ own. own ≡ e) → Happened m n b (plain_event call (done answer)) b
  refused b call e (Ok u) h q = absurd q
  refused b call e (Err own) h q = (h ∙ ap Some (sym q), refl)

  -- ---- leave
  -- a vessel that the board lets leave
  pub record Leaves (b : Board S Q) (v : ℕ) : Type 0 where
    pub numbered : v ≡ 0 → ⊥
    pub whole : b.clock.numerator ≡ 0
    pub course : Course
    pub there : m.roster b.structure v ≡ Some course

  pub leaves : (b : Board S Q) (v lent : ℕ) → refusal m n b (Leave v) lent ≡ None → Leaves b v
  leaves b v lent e =
      let c = some_of (m.roster b.structure v) (grind (arith, nat_tests)) in
      record {
        numbered = grind (arith, nat_tests);
        whole = grind (arith, nat_tests);
        course = c.0;
        there = c.1;
      }
    where
      some_of : (o : Option Course) → is_some o ≡ true → (c : Course) × (o ≡ Some c)
      some_of None e = absurd (false≢true e)
      some_of (Some c) e = (c, refl)

  -- a structure accepts what the board does
  pub leaves_structure : (b : Board S Q) (v : ℕ) → Leaves b v → vessel_refusal m b.structure v ≡ None
  leaves_structure b v k = vessel_known m b.structure v k.numbered k.course k.there

  -- ---- enter
  pub record Enters (b : Board S Q) (v : ℕ) (p s : ℤ) : Type 0 where
    pub numbered : 0 < v
    pub within : entry_out p s ≡ false
    pub whole : b.clock.numerator ≡ 0
    pub absent : m.roster b.structure v ≡ None
    pub room : m.count b.structure < 64
    pub large : 64 ≤ b.capacity

  pub enters : (b : Board S Q) (v lent : ℕ) (p s : ℤ) → refusal m n b (Enter v p s) lent ≡ None → Enters b v p s
  enters b v lent p s e =
      record {
        numbered = grind (arith, nat_tests);
        within = grind (arith, nat_tests);
        whole = grind (arith, nat_tests);
        absent = grind (arith, nat_tests);
        room = grind (arith, nat_tests);
        large = grind (arith, nat_tests);
      }

  pub large_enough : (b : Board S Q) → 64 ≤ b.capacity → Right m n b → n.capacity b.queue ≡ 64
  large_enough b h r = let k = n.bounded b.queue r.sound in let e = r.capacity in omega (arith, h, k, e)

  -- a structure accepts what the board does
  pub enters_structure : (b : Board S Q) (v : ℕ) (p s : ℤ) → Enters b v p s → b.clock.seconds ≤ 16777216 → enter_refusal m b.structure (course_at v p s b.clock.seconds) ≡ None
  enters_structure b v p s k f =
      let x = course_at v p s b.clock.seconds in
      let r = entry_range v p s b.clock.seconds k.numbered f k.within in
      enter_accepted m b.structure x (λ z. let h = k.numbered in omega (arith, h, z)) (of_range x r) k.absent k.room

  -- a check of an entry whose numbers are written otherwise
  pub entry_read : (b : Board S Q) (v : ℕ) (p p' s s' : ℤ) (r : Result Course Refusal) → p' ≡ p → s' ≡ s → EnterChecked m n b v p' s' r → EnterChecked m n b v p s r
  entry_read b v p p' s s' r e f h = subst (λ x. EnterChecked m n b v p x r) f (subst (λ x. EnterChecked m n b v x s' r) e h)

  -- ---- steer
  -- the course that a vessel had
  pub record OldCourse (b : Board S Q) (v : ℕ) (s : ℤ) (c : Course) : Type 0 where
    pub old : Course
    pub there : m.roster b.structure v ≡ Some old
    pub is : c ≡ at_speed s b.clock.seconds old

  pub old_course : (b : Board S Q) (v : ℕ) (s : ℤ) (c : Course) → changed_by (at_speed s b.clock.seconds) (m.roster b.structure v) ≡ Some c → OldCourse b v s c
  old_course b v s c e = found (m.roster b.structure v) refl e
    where
      found : (o : Option Course) → m.roster b.structure v ≡ o → changed_by (at_speed s b.clock.seconds) o ≡ Some c → OldCourse b v s c
      found None r h = absurd (none_some h)
      found (Some old) r h = record { old = old; there = r; is = cc }

  -- a vessel that the board lets steer
  pub record Steers (b : Board S Q) (v : ℕ) (s : ℤ) (c : Course) : Type 0 where
    pub numbered : v ≡ 0 → ⊥
    pub within : out_of_range (at_speed s b.clock.seconds c) ≡ false
    pub whole : b.clock.numerator ≡ 0

  pub steers : (b : Board S Q) (v lent : ℕ) (s : ℤ) (c : Course) → refusal m n b (Steer v s) lent ≡ None → m.roster b.structure v ≡ Some c → Steers b v s c
  steers b v lent s c e a =
      record {
        numbered = grind (arith, nat_tests);
        within = grind (arith, nat_tests);
        whole = grind (arith, nat_tests);
      }

  pub steers_structure : (b : Board S Q) (v : ℕ) (s : ℤ) (c : Course) → Steers b v s c → c.number ≡ v → m.roster b.structure v ≡ Some c → steer_refusal m b.structure (at_speed s b.clock.seconds c) ≡ None
  steers_structure b v s c k q a =
      steer_accepted m b.structure (at_speed s b.clock.seconds c) (λ z. k.numbered (sym q ∙ z)) k.within c (ap (m.roster b.structure) q ∙ a)
