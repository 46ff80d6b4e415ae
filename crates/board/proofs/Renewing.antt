-- Tickets that are being renewed, number after number.
use Rattle.std.proofs.Common.{◌≡◌, ℕ, ◌+◌, ◌<◌, ◌≤◌, Bool, true, false, cond, ◌||◌, eqb, List, [], ◌∷◌, ◌++◌, length, get_or, take, Some, None, Ok, Err, Option, Result, sym, refl, ap, ◌∙◌, subst, ⊎_elim, arith}
use Rattle.std.proofs.lemmas.List.{take_more, take_all}
use Rattle.std.proofs.lemmas.Bool.{eqb-true, eqb-false, cases_Bool, cond-true, cond-false}
use Rattle.event_queue.specs.Queues as queues
use Rattle.event_queue.specs.Queues.{Only, Rekeyed}
use Rattle.event_queue.specs.declared.refusal.Refusal.{Refusal}
use Rattle.event_queue.proofs.Laws.{rekeyed_only}
use Rattle.event_queue.proofs.Options.{none_some}
use Rattle.fairway.specs.Meetings.{level}
use Rattle.fairway.specs.declared.course.Course.{Course}
use Rattle.kinetic.specs.Numbers.{among}
use Rattle.kinetic.specs.Structures as structures
use Rattle.kinetic.specs.Structures.{Certified}
use Rattle.board.proofs.TicketLaws.{ticket_level}
use Rattle.board.specs.Tickets.{Ticket, instant_of, ticket, QueueKept}

-- ---- numbers among others
either_swap : (a b c : Bool) → (a || (b || c)) ≡ ((a || b) || c)
either_swap a b c = grind arith

among_push : (i n : ℕ) (ns : List ℕ) → among i (ns ++ (n ∷ [])) ≡ (among i ns || eqb n i)
among_push i n [] = nothing (eqb n i)
  where
    nothing : (b : Bool) → (b || false) ≡ (false || b)
    nothing true = refl
    nothing false = refl
among_push i n (x ∷ xs) = ap (λ b. eqb x i || b) (among_push i n xs) ∙ either_swap (eqb x i) (among i xs) (eqb n i)

pub among_take : (i : ℕ) (ns : List ℕ) (k d : ℕ) → k < length ns → among i (take (k + 1) ns) ≡ (among i (take k ns) || eqb (get_or ns k d) i)
among_take i ns k d h = ap (among i) (take_more ns k d h) ∙ among_push i (get_or ns k d) (take k ns)

or_true : (a b : Bool) → b ≡ true → (a || b) ≡ true
or_true a b e = grind arith

or_false : (a b : Bool) → b ≡ false → (a || b) ≡ a
or_false a b e = grind arith

-- ---- the ticket of a certificate
-- the ticket that the certificate of a number asks for
abbrev pub wanted : {S : Type 0} → structures.Meaning S → S → ℕ → Option Ticket
wanted m s i = ticket (m.certificate s i)

-- the pair that a ticket is of
pub record TicketOf (certificate : Option (Course × Course)) (k : Ticket) : Type 0 where
  pub rear : Course
  pub front : Course
  pub pair : certificate ≡ Some (rear, front)
  pub meets : level rear front ≡ Some (instant_of k)

pub ticket_of : (o : Option (Course × Course)) (k : Ticket) → ticket o ≡ Some k → TicketOf o k
ticket_of None k e = absurd (none_some e)
ticket_of (Some p) k e = record { rear = p.0; front = p.1; pair = refl; meets = ticket_level p.0 p.1 k e }

module _ {S Q : Type 0} (m : structures.Meaning S) (n : queues.Meaning Q Ticket) (certified : Certified m) where
  -- given the key that is wanted
  pub given_anew : (s : S) (q q' : Q) (i : ℕ) (k : Ticket) (r : Result Unit Refusal) → wanted m s i ≡ Some k → Rekeyed n q q' i k r → n.sound q → n.capacity q ≡ 64 → Only n q q' i (wanted m s i)
  given_anew s q q' i k r e d sound large =
      let t = ticket_of (m.certificate s i) k e in
      let low = (certified s i t.rear t.front t.pair).0 in
      subst (λ x. Only n q q' i x) (sym e) (rekeyed_only n q q' i k r d sound (omega (arith, large, low)))

-- ---- the queue on the way
-- the first k of the numbers have the tickets that are wanted, the others what they had
pub record Renewed {Q K : Type 0} (n : queues.Meaning Q K) (want : ℕ → Option K) (numbers : List ℕ) (q q' : Q) (k : ℕ) : Type 0 where
  pub sound : n.sound q'
  pub capacity : n.capacity q' ≡ n.capacity q
  pub holds : (i : ℕ) → n.held q' i ≡ cond (among i (take k numbers)) (want i) (n.held q i)

module _ {Q K : Type 0} (n : queues.Meaning Q K) (want : ℕ → Option K) (numbers : List ℕ) where
  pub renewed_none : (q : Q) → n.sound q → Renewed n want numbers q q 0
  renewed_none q s = record { sound = s; capacity = refl; holds = λ i. refl }

  pub renewed_more : {q q' q'' : Q} {k : ℕ} (d : ℕ) → k < length numbers → Renewed n want numbers q q' k → Only n q' q'' (get_or numbers k d) (want (get_or numbers k d)) → Renewed n want numbers q q'' (k + 1)
  renewed_more {q} {q'} {q''} {k} d lt h o =
      let x = get_or numbers k d in
      record {
        sound = o.sound;
        capacity = o.capacity ∙ h.capacity;
        holds = λ i. ⊎_elim
            (λ e.
            let same = eqb-true x i e in
            subst (λ j. n.held q'' j ≡ want j) same o.there ∙ sym (cond-true (among i (take (k + 1) numbers)) (want i) (n.held q i) (among_take i numbers k d lt ∙ or_true (among i (take k numbers)) (eqb x i) e)))
            (λ e.
            o.others i (λ same. eqb-false x i e (sym same)) ∙ h.holds i ∙ sym (ap (λ b. cond b (want i) (n.held q i)) (among_take i numbers k d lt ∙ or_false (among i (take k numbers)) (eqb x i) e)))
            (cases_Bool (eqb x i));
      }

  pub renewed_all : {q q' : Q} {k : ℕ} → length numbers ≤ k → Renewed n want numbers q q' k → ((i : ℕ) → among i numbers ≡ false → n.held q i ≡ want i) → (i : ℕ) → n.held q' i ≡ want i
  renewed_all {q} {q'} {k} le h but i =
      let e : among i (take k numbers) ≡ among i numbers = ap (among i) (take_all k numbers le) in
      h.holds i ∙ ⊎_elim
      (λ t. cond-true (among i (take k numbers)) (want i) (n.held q i) (e ∙ t))
      (λ t. cond-false (among i (take k numbers)) (want i) (n.held q i) (e ∙ t) ∙ but i t)
      (cases_Bool (among i numbers))

-- ---- a queue that is kept
module _ {Q K : Type 0} (n : queues.Meaning Q K) where
  pub kept_itself : (q : Q) → QueueKept n q q
  kept_itself q = record { sound = λ s. s; capacity = λ s. refl; keeps = n.keeps_itself q }

  pub kept_on : {a b c : Q} → QueueKept n a b → QueueKept n b c → QueueKept n a c
  kept_on {a} {b} {c} h k = record { sound = λ s. k.sound (h.sound s); capacity = λ s. k.capacity (h.sound s) ∙ h.capacity s; keeps = n.keeps_on a b c h.keeps k.keeps }

  pub kept_only : {q q' : Q} {i : ℕ} {o : Option K} → n.keeps q q' → (n.sound q → Only n q q' i o) → QueueKept n q q'
  kept_only {q} {q'} k h = record { sound = λ s. (h s).sound; capacity = λ s. (h s).capacity; keeps = k }

  pub kept_rekeyed : {q q' : Q} (i : ℕ) (k : K) (r : Result Unit Refusal) → Rekeyed n q q' i k r → n.keeps q q' → QueueKept n q q'
  kept_rekeyed {q} {q'} i k (Ok u) p keeps = kept_only keeps (λ s. (p s).1)
  kept_rekeyed {q} {q'} i k (Err e) p keeps = subst (λ x. QueueKept n q x) (sym p.0) (kept_itself q)
