-- Questions on one vessel, put to a roster and to another that answers alike.
use Rattle.std.proofs.Common.{◌≡◌, ℕ, ◌+◌, ◌-◌, ◌<◌, Bool, true, false, cond, not, List, [], ◌∷◌, is_some, Some, None, Ok, Err, Option, Result, nat_eq, refl, sym, ap, ◌∙◌, subst, arith}
use Rattle.std.specs.Result.{IsErrAnd}
use Rattle.event_queue.specs.Refusals.{◌when◌, topmost}
use Rattle.event_queue.specs.Queues as queues
use Rattle.event_queue.proofs.Options.{none_some}
use Rattle.fairway.specs.Behind.{behind}
use Rattle.fairway.specs.Instants.{stamp_of, value}
use Rattle.fairway.specs.Orders.{Apart, order}
use Rattle.fairway.specs.Rosters.{course_of}
use Rattle.fairway.specs.Stamps.{time_of}
use Rattle.fairway.specs.Times.{Time, Proper, whole_and}
use Rattle.fairway.specs.declared.course.Course.{Course}
use Rattle.fairway.specs.declared.instant.Instant.{Instant}
use Rattle.fairway.proofs.Rosters.{same_from}
use Rattle.fairway.proofs.Sorting.{sorted_order, same_order, unique, over_order}
use Rattle.fairway.proofs.Totals.{over, over_is}
use Rattle.kinetic.specs.Structures as structures
use Rattle.kinetic.specs.Structures.{Rests}
use Rattle.kinetic.specs.declared.refusal.Refusal.{Refusal as StructureRefusal}
use Rattle.kinetic.specs.declared.refusal.Refusal.TheVariants as structure
use Rattle.sorted_list.specs.Questions.{means, courses_of}
use Rattle.sorted_list.specs.Ranks.{in_front, Next}
use Rattle.sorted_list.specs.RostersLemmas.{well_apart}
use Rattle.sorted_list.specs.declared.list.SortedList.{SortedList}
use Rattle.board.specs.Books.{Log, book}
use Rattle.board.specs.History.{Past}
use Rattle.board.specs.ListQuestions.{question_refusal, Answered, OfVessel, Asked, NeighbourIs, NextOn, neighbour, next_on}
use Rattle.board.specs.declared.list.Neighbour.{Neighbour}
use Rattle.board.specs.declared.list.Side.{Side}
use Rattle.board.specs.declared.list.Side.TheVariants.{Ahead, Behind}
use Rattle.board.specs.Tickets.{Ticket}
use Rattle.board.specs.declared.board.Board.{Board}
use Rattle.board.specs.declared.refusal.Refusal.{Refusal}
use Rattle.board.specs.declared.refusal.Refusal.TheVariants.{NumberZero, UnknownVessel}
use Rattle.board.proofs.Pasts.{kept_of, right_of}

-- ---- the clock as a time, by its stamp
same_time : (s n d : ℕ) → 0 < d → whole_and s n d ≡ whole_and s n (d - 1 + 1)
same_time s n d p = ap (whole_and s n) (omega (arith, p))

pub clock_time : (i : Instant) → value i ≡ time_of (stamp_of i)
clock_time i = same_time i.seconds i.numerator i.denominator (let b : i.numerator < i.denominator = i.below in omega (arith, b))

pub clock_proper : (i : Instant) → Proper (value i)
clock_proper i = let b : i.numerator < i.denominator = i.below in omega (arith, b)

-- ---- refusals
accepted_so : (zero there : Bool) → topmost (NumberZero when zero ∷ UnknownVessel when not there ∷ []) ≡ None →
    topmost (structure.NumberZero when zero ∷ structure.UnknownVessel when not there ∷ []) ≡ None
accepted_so true there h = absurd (none_some (sym h))
accepted_so false true h = refl
accepted_so false false h = absurd (none_some (sym h))

-- the list refuses no question that the board accepts
pub not_refused : {e : StructureRefusal} (s : SortedList) (v : ℕ) → question_refusal (course_of (courses_of s)) v ≡ None → structures.vessel_refusal means s v ≡ Some e → ⊥
not_refused s v h r = none_some (sym (accepted_so (nat_eq v 0) (is_some (course_of (courses_of s) v)) h) ∙ r)

-- what holds of the course of a vessel that was found
pub about : {A : Type 0} (xs : List Course) (v : ℕ) (P : Course → A → Type 0) (own : Course) (answer : A) → Answered xs v (λ c o. o ≡ c) own → P own answer → Answered xs v P answer
about xs v P own answer h p = record { accepted = h.accepted; course = own; aboard = h.aboard ∙ ap Some (sym h.answer_is); answer_is = p }

-- ---- from one roster to another
alike : (f g : ℕ → Option Course) (v : ℕ) → f v ≡ g v → question_refusal f v ≡ question_refusal g v
alike f g v e = ap (λ o. topmost (NumberZero when nat_eq v 0 ∷ UnknownVessel when not (is_some o) ∷ [])) e

pub carried : {A : Type 0} (xs ys : List Course) (v : ℕ) (P R : Course → A → Type 0) → course_of xs v ≡ course_of ys v → ((c : Course) (a : A) → course_of xs v ≡ Some c → P c a → R c a) → (answer : Result A Refusal) → OfVessel xs v P answer → OfVessel ys v R answer
carried xs ys v P R e k (Ok a) h =
    record {
      accepted = sym (alike (course_of xs) (course_of ys) v e) ∙ h.accepted;
      course = h.course;
      aboard = sym e ∙ h.aboard;
      answer_is = k h.course a h.aboard h.answer_is;
    }
carried xs ys v P R e k (Err r) h = sym (alike (course_of xs) (course_of ys) v e) ∙ h

-- lists of the same vessels have as many in front of a vessel
pub same_rank : (t : Time) → Proper t → (c : Course) (xs ys : List Course) → Apart xs → Apart ys → ((n : ℕ) → course_of xs n ≡ course_of ys n) → in_front t c xs ≡ in_front t c ys
same_rank t p c xs ys a b e =
    let w : Course → ℕ = λ d. cond (behind t c d) 1 0 in
    let m = same_from xs ys a b e in
    let o : order t xs ≡ order t ys = unique t (order t xs) (order t ys) (sorted_order t p xs a) (sorted_order t p ys b) (λ d. let x = same_order t xs d in let y = same_order t ys d in ((λ h. y.1 ((m d).0 (x.0 h))), (λ h. x.1 ((m d).1 (y.0 h))))) in
    over_is w xs ∙ sym (over_order w t xs) ∙ ap (over w) o ∙ over_order w t ys ∙ sym (over_is w ys)

-- the vessel next to another is the same in rosters that answer alike
module _ (t : Time) (f g : ℕ → Option Course) (e : (n : ℕ) → f n ≡ g n) where
  next_same : (r d : Course) → Next t f r d → Next t g r d
  next_same r d h = record { in_order = h.in_order; none_between = λ n c q. h.none_between n c (e n ∙ q) }

  next_on_same : (side : Side) (c : Course) (o : Option Course) → NextOn side t f c o → NextOn side t g c o
  next_on_same Ahead c (Some d) h = (sym (e d.number) ∙ h.0, next_same c d h.1)
  next_on_same Ahead c None h = λ n d q. h n d (e n ∙ q)
  next_on_same Behind c (Some r) h = (sym (e r.number) ∙ h.0, next_same r c h.1)
  next_on_same Behind c None h = λ n d q. h n d (e n ∙ q)

-- ---- a board's answers
module _ {Q : Type 0} (n : queues.Meaning Q Ticket) (b : Board SortedList Q) where
  module _ (log : Log) (p : Past means n b log) where
    pub book_time : value b.clock ≡ time_of (book log).clock
    book_time = clock_time b.clock ∙ ap time_of (kept_of means n b log p).clock

    pub book_course : (v : ℕ) → course_of (courses_of b.structure) v ≡ course_of (book log).roster v
    book_course = (kept_of means n b log p).roster

    pub book_rests : Rests means (value b.clock) b.structure
    book_rests = subst (λ t. Rests means t b.structure) (sym (clock_time b.clock)) (right_of means n b log p).rests

    pub book_rank : (c : Course) → in_front (value b.clock) c (courses_of b.structure) ≡ in_front (value b.clock) c (book log).roster
    book_rank c =
        let k = kept_of means n b log p in
        same_rank (value b.clock) (clock_proper b.clock) c (courses_of b.structure) (book log).roster (well_apart (courses_of b.structure) b.structure.sound) k.apart k.roster

  -- what is answered of the list, where the same is so in the book
  pub asked : {A : Type 0} (v : ℕ) (P : Course → A → Type 0) (R : Time → List Course → Course → A → Type 0) →
      ((log : Log) → Past means n b log → (c : Course) (a : A) → course_of (courses_of b.structure) v ≡ Some c → P c a → R (value b.clock) (book log).roster c a) →
      (answer : Result A Refusal) → OfVessel (courses_of b.structure) v P answer → Asked n b v P R answer
  asked v P R k answer h =
      record {
        value = h;
        booked = λ log p. carried (courses_of b.structure) (book log).roster v P (R (time_of (book log).clock) (book log).roster) (book_course log p v)
            (λ c a e q. subst (λ t. R t (book log).roster c a) (book_time log p) (k log p c a e q)) answer h;
      }

  -- a refused question
  pub refused : {A : Type 0} (v : ℕ) (P : Course → A → Type 0) (R : Time → List Course → Course → A → Type 0) (e : Refusal) → question_refusal (course_of (courses_of b.structure)) v ≡ Some e →
      (answer : Result A Refusal) → IsErrAnd answer (λ own. own ≡ e) → Asked n b v P R answer
  refused v P R e h (Ok a) q = absurd q
  refused v P R e h (Err own) q =
      record {
        value = h ∙ ap Some (sym q);
        booked = λ log p. sym (alike (course_of (courses_of b.structure)) (course_of (book log).roster) v (book_course log p v)) ∙ h ∙ ap Some (sym q);
      }

  -- the vessel next in the list, as long as it rests, is the one next in the book
  pub book_next : (side : Side) (v : ℕ) (next : Option Course) → next ≡ next_on side v (courses_of b.structure) →
      ((c : Course) → means.roster b.structure v ≡ Some c → (t : Time) → Rests means t b.structure → NextOn side t (means.roster b.structure) c next) →
      (log : Log) → Past means n b log → (c : Course) (a : Option Neighbour) → course_of (courses_of b.structure) v ≡ Some c →
      a ≡ neighbour side (value b.clock) c (next_on side v (courses_of b.structure)) → NeighbourIs side (value b.clock) (book log).roster c a
  book_next side v next value_is h log p c a e q =
      record {
        next = next;
        is_next = next_on_same (value b.clock) (course_of (courses_of b.structure)) (course_of (book log).roster) (book_course log p) side c next (h c e (value b.clock) (book_rests log p));
        answer_is = q ∙ ap (neighbour side (value b.clock) c) (sym value_is);
      }
