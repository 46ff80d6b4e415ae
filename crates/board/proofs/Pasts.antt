-- Boards with a past: what holds of each, by the events that happened.
use Rattle.std.proofs.Common.{◌≡◌, ℕ, ◌+◌, ◌-◌, ◌*◌, ◌≤◌, cond, eqb, List, [], ◌∷◌, ℤ, Some, None, Option, ◌≢◌, ◌==◌, sym, refl, ap, ◌∙◌, subst, inr, ⊎_elim, arith}
use Rattle.std.proofs.lemmas.Bool.{eqb-true, eqb-false, cases_Bool, cases_lt, cond-true, cond-false}
use Rattle.std.proofs.lemmas.Bool.Decides.{nat_tests}
use Rattle.event_queue.specs.Queues as queues
use Rattle.event_queue.proofs.Options.{none_some}
use Rattle.fairway.specs.Instants.{stamp_of, value}
use Rattle.fairway.specs.Orders.{Apart}
use Rattle.fairway.specs.Rosters.{course_of, changed_by}
use Rattle.fairway.specs.Stamps.{time_of}
use Rattle.fairway.specs.StampsLemmas.{proper}
use Rattle.fairway.specs.Times.{ratio}
use Rattle.fairway.specs.declared.course.Course.{Course}
use Rattle.fairway.specs.declared.instant.Instant.{Instant}
use Rattle.fairway.specs.declared.stamp.Stamp.{Stamp}
use Rattle.fairway.proofs.Rosters.{of_absent, apart_without, absent_without, roster_without, apart_altered, same_altered, other_altered}
use Rattle.kinetic.specs.Structures as structures
use Rattle.kinetic.specs.Structures.{InOrder, InFront}
use Rattle.kinetic.proofs.Settling.{same_front}
use Rattle.board.specs.Books.{Event, Log, book, sum_since, course_at, at_speed, start_stamp}
use Rattle.board.specs.Boards.{Right, TotalBounded, refusal}
use Rattle.board.specs.Outcomes.{Opened, Happened, Comes}
use Rattle.board.specs.History.{Past, AsBooked, Adds}
use Rattle.board.specs.History.Past.{opened, then}
use Rattle.board.specs.Tickets.{Ticket, instant_of, ticket}
use Rattle.board.specs.declared.board.Board.{Board}
use Rattle.board.specs.declared.call.Call.{Call}
use Rattle.board.specs.declared.call.Call.TheVariants.{Open, Enter, Leave, Steer, Advance}
use Rattle.board.specs.declared.call.Outcome.{Outcome}
use Rattle.board.specs.declared.call.Outcome.TheVariants.{Accepted, Refused}
use Rattle.board.specs.declared.call.Row.{Row}
use Rattle.board.proofs.Meetings.{not_before, level_is, has_level}
use Rattle.board.proofs.Renewing.{ticket_of}
use Rattle.board.proofs.TicketLaws.{ticket_level, has_ticket}

-- ---- the bound of a total
bound_by : (s n t : ℕ) → s ≤ 16777216 → (s ≡ 16777216 → n ≡ 0) → t ≤ 2016 * cond (n == 0) s (s + 1) → t ≤ 33822867456
bound_by s n t b z h =
    ⊎_elim
    (λ e. let k : t ≤ 2016 * s = subst (λ x. t ≤ 2016 * x) (cond-true (n == 0) s (s + 1) e) h in omega (arith, b, k))
    (λ e.
    let k : t ≤ 2016 * (s + 1) = subst (λ x. t ≤ 2016 * x) (cond-false (n == 0) s (s + 1) e) h in
    ⊎_elim (λ l. omega (arith, l, k)) (λ l. absurd (eqb-false n 0 e (z (omega (arith, b, l))))) (cases_lt s 16777216))
    (cases_Bool (n == 0))

bound_of : (i : Instant) (t l : ℕ) → TotalBounded i t l → t ≤ 33822867456
bound_of i t l h = bound_by i.seconds i.numerator t i.bounded i.last h.so_far

-- ---- the book after an event
module _ {S Q : Type 0} (m : structures.Meaning S) (n : queues.Meaning Q Ticket) where
  -- a right board is left right
  right_on : (b b' : Board S Q) (call : Call) (lent : ℕ) (o : Outcome) (rows : List Row) → Right m n b → Comes m n b call lent o rows b' → Right m n b'
  right_on b b' call lent (Refused e) rows r h = subst (Right m n) (sym h.1) r
  right_on b b' Open lent (Accepted k) rows r h = let d = h.1 in d.1.right r.sound
  right_on b b' (Enter v p s) lent (Accepted k) rows r h = let d = h.1 in d.1.right r
  right_on b b' (Leave v) lent (Accepted k) rows r h = let d = h.1 in d.1.right r
  right_on b b' (Steer v s) lent (Accepted k) rows r h = let d = h.1 in d.1.right r
  right_on b b' (Advance s a d) lent (Accepted k) rows r h = let d = h.1 in (d.passed r).right

  -- clock, roster and total are the book's
  pub record Kept (b : Board S Q) (log : Log) : Type 0 where
    pub clock : stamp_of b.clock ≡ (book log).clock
    pub roster : (v : ℕ) → m.roster b.structure v ≡ course_of (book log).roster v
    pub apart : Apart (book log).roster
    pub total : b.total ≡ sum_since log

  absent_of : (b : Board S Q) (v lent : ℕ) (p s : ℤ) → refusal m n b (Enter v p s) lent ≡ None → m.roster b.structure v ≡ None
  absent_of b v lent p s e = grind (arith, nat_tests)

  -- the course of v where k is not, and where it is
  by_number : (o : ℕ → Option Course) (xs : List Course) (v : ℕ) → o v ≡ course_of xs v → ((k : ℕ) → (k ≢ v) → o k ≡ course_of xs k) → (k : ℕ) → o k ≡ course_of xs k
  by_number o xs v there others k = ⊎_elim (λ e. subst (λ j. o j ≡ course_of xs j) (sym (eqb-true k v e)) there) (λ e. others k (eqb-false k v e)) (cases_Bool (eqb k v))

  kept_on : (b b' : Board S Q) (log : Log) (call : Call) (lent : ℕ) (o : Outcome) (rows : List Row) → Right m n b → Kept b log → Comes m n b call lent o rows b' → Kept b' (record { call = call; lent = lent; outcome = o; rows = rows } ∷ log)
  kept_on b b' log call lent (Refused e) rows r k h =
      let q = h.1 in
      record {
        clock = ap (λ z. stamp_of z.clock) q ∙ k.clock;
        roster = λ v. ap (λ z. m.roster z.structure v) q ∙ k.roster v;
        apart = k.apart;
        total = ap (λ z. z.total) q ∙ k.total;
      }
  kept_on b b' log Open lent (Accepted mends) rows r k h = let d = h.1 in let o = d.1 in record { clock = o.clock; roster = o.roster; apart = tt; total = o.total }
  kept_on b b' log (Enter v p s) lent (Accepted mends) rows r k h =
      let d = h.1 in
      let c = d.1 in
      let t : b.clock.seconds ≡ (book log).clock.seconds = ap (λ z. z.seconds) k.clock in
      let x = course_at v p s (book log).clock.seconds in
      let xs = (book log).roster in
      record {
        clock = ap stamp_of c.clock ∙ k.clock;
        roster = by_number (m.roster b'.structure) (x ∷ xs) v
            (c.there ∙ ap (λ z. Some (course_at v p s z)) t ∙ sym (cond-true (eqb v v) (Some x) (course_of xs v) (grind (arith, nat_tests))))
            (λ j ne. c.others j ne ∙ k.roster j ∙ sym (cond-false (eqb v j) (Some x) (course_of xs j) (grind (arith, nat_tests))));
        apart = (of_absent v xs (sym (k.roster v) ∙ absent_of b v lent p s h.0), k.apart);
        total = c.total ∙ k.total;
      }
  kept_on b b' log (Leave v) lent (Accepted mends) rows r k h =
      let d = h.1 in
      let c = d.1 in
      let xs = (book log).roster in
      record {
        clock = ap stamp_of c.clock ∙ k.clock;
        roster = by_number (m.roster b'.structure) _ v (c.there ∙ sym (absent_without v xs k.apart)) (λ j ne. c.others j ne ∙ k.roster j ∙ sym (roster_without v xs j ne));
        apart = apart_without v xs k.apart;
        total = c.total ∙ k.total;
      }
  kept_on b b' log (Steer v s) lent (Accepted mends) rows r k h =
      let d = h.1 in
      let c = d.1 in
      let t : b.clock.seconds ≡ (book log).clock.seconds = ap (λ z. z.seconds) k.clock in
      let f : Course → Course = at_speed s (book log).clock.seconds in
      let keeps : (x : Course) → (f x).number ≡ x.number = λ x. refl in
      let xs = (book log).roster in
      record {
        clock = ap stamp_of c.clock ∙ k.clock;
        roster = by_number (m.roster b'.structure) _ v
            (c.there ∙ ap (λ z. changed_by (at_speed s z) (m.roster b.structure v)) t ∙ ap (changed_by f) (k.roster v) ∙ sym (same_altered f keeps v xs))
            (λ j ne. c.others j ne ∙ k.roster j ∙ sym (other_altered f keeps v xs j ne));
        apart = apart_altered f keeps v xs k.apart;
        total = c.total ∙ k.total;
      }
  kept_on b b' log (Advance s a d) lent (Accepted mends) rows r k h =
      let c = h.1 in
      record {
        clock = c.clock;
        roster = λ v. c.roster v ∙ k.roster v;
        apart = k.apart;
        total = (c.passed r).total ∙ ap (λ z. z + mends) k.total;
      }

  -- ---- a board with a past
  pub right_of : (b : Board S Q) (log : Log) → Past m n b log → Right m n b
  right_of b [] (opened s o) = o.right s
  right_of b (e ∷ log) (then {b = a} p h) = right_on a b e.call e.lent e.outcome e.rows (right_of a log p) h

  pub kept_of : (b : Board S Q) (log : Log) → Past m n b log → Kept b log
  kept_of b [] (opened s o) = record { clock = o.clock; roster = o.roster; apart = tt; total = o.total }
  kept_of b (e ∷ log) (then {b = a} p h) = kept_on a b log e.call e.lent e.outcome e.rows (right_of a log p) (kept_of a log p) h

  pub bounded_of : (b : Board S Q) (log : Log) → Past m n b log → b.total ≤ 33822867456
  bounded_of b log p = bound_of b.clock b.total (m.load b.structure) (right_of b log p).total

  module _ (ordered : InOrder m) (leads : InFront m) where
    pub as_booked : (b : Board S Q) (log : Log) → Past m n b log → AsBooked m n b log
    as_booked b log p =
        let r = right_of b log p in
        let k = kept_of b log p in
        let u = time_of (stamp_of b.clock) in
        record {
          clock = k.clock;
          roster = k.roster;
          apart = k.apart;
          ticket_there = λ i rear front c F.
              let l = has_level u (proper (stamp_of b.clock)) rear front F (not_before u rear front (ordered u b.structure (proper (stamp_of b.clock)) r.rests.0 i rear front c)) in
              let t = has_ticket rear front l.0 l.1 in
              let k = level_is rear front (instant_of t.ticket_is) (ticket_level rear front t.ticket_is t.asked) in
              record { ticket = t.ticket_is; is_held = r.tickets i ∙ ap ticket c ∙ t.asked; level_then = k.due.0; below_one = k.below_one; lowest_terms = k.lowest_terms };
          no_other = λ i s e.
              let t = ticket_of (m.certificate b.structure i) s (sym (r.tickets i) ∙ e) in
              (t.rear, t.front, t.pair, (level_is t.rear t.front (instant_of s) t.meets).is_faster);
          total = k.total;
          total_bounded = bounded_of b log p;
          foremost = subst (λ z. structures.Front (time_of z) (course_of (book log).roster) (m.foremost b.structure)) k.clock (same_front u _ _ (m.foremost b.structure) k.roster (leads u b.structure (proper (stamp_of b.clock)) r.rests));
          right = r;
        }

    -- an event that happened is added to the past
    pub adds : (b : Board S Q) (e : Event) (b' : Board S Q) → Happened m n b e b' → Adds m n b e b'
    adds b e b' h = record { happened = h; past = λ log p. then p h; booked = λ log p. as_booked b' (e ∷ log) (then p h) }

-- ---- an opened board
-- the instant of second 0, as a stamp
pub starts : (i : Instant) → value i ≡ ratio 0 1 → stamp_of i ≡ start_stamp
starts i e =
    let d : i.denominator ≡ 1 = ap (λ z. z.den) e in
    let k : i.seconds * i.denominator + i.numerator ≡ 0 = ap (λ z. z.num) e in
    let k1 : i.seconds * 1 + i.numerator ≡ 0 = subst (λ z. i.seconds * z + i.numerator ≡ 0) d k in
    same_stamp i.seconds i.numerator (i.denominator - 1) (omega (arith, k1)) (omega (arith, k1)) (omega (arith, d))
  where
    same_stamp : (s n d : ℕ) → s ≡ 0 → n ≡ 0 → d ≡ 0 → ◌≡◌ {A = Stamp} (record { seconds = s; numerator = n; denominator_less_one = d }) start_stamp
    same_stamp s n d a b c = rw (a, b, c)

module _ {S Q : Type 0} (m : structures.Meaning S) (n : queues.Meaning Q Ticket) where
  -- q is the queue before the opening, and cleared the one after it
  pub opens : (b' : Board S Q) (q cleared : Q) → structures.Cleared m b'.structure → stamp_of b'.clock ≡ start_stamp → b'.total ≡ 0 →
      b'.queue ≡ cleared → b'.capacity ≡ n.capacity cleared → (n.sound q → queues.Empty n cleared) → (n.sound q → n.capacity cleared ≡ n.capacity q) → n.keeps q cleared → Opened m n q b'
  opens b' q cleared s c t same room e k keeps =
      let empty : n.sound q → queues.Empty n b'.queue = λ x. subst (queues.Empty n) (sym same) (e x) in
      let size : b'.capacity ≡ n.capacity b'.queue = room ∙ sym (ap n.capacity same) in
      record {
        cleared = s;
        roster = s.roster;
        clock = c;
        total = t;
        capacity = size;
        queue = record { sound = λ x. (empty x).sound; capacity = λ x. ap n.capacity same ∙ k x; keeps = subst (n.keeps q) (sym same) keeps };
        right = λ x. record {
          sound = (empty x).sound;
          capacity = size;
          room = inr s.roster;
          rests = (s.stands (time_of (stamp_of b'.clock)) (proper (stamp_of b'.clock)), λ i r f h. absurd (none_some (sym (s.certificates i) ∙ h)));
          tickets = λ i. (empty x).none i ∙ sym (ap ticket (s.certificates i));
          total = record { so_far = omega (arith, t); to_come = let l = s.load in omega (arith, t, l) };
        };
      }
