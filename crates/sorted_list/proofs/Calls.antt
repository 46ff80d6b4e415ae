-- What enter, leave and steer promise, for lists of courses.
use Rattle.std.proofs.Common.{◌≡◌, ℕ, suc, ◌+◌, ◌<◌, ◌≤◌, true, false, List, length, Some, None, Option, sym, ap, ◌∙◌, subst, ⊎_elim, arith}
use Rattle.std.specs.List.{swap}
use Rattle.std.proofs.lemmas.Bool.{cases_lt}
use Rattle.fairway.specs.Times.{Time, Proper}
use Rattle.fairway.specs.Courses.{faster, Due}
use Rattle.fairway.specs.Orders.{Sorted, put, load, Exchange}
use Rattle.fairway.specs.Standing.{Stands}
use Rattle.fairway.specs.declared.course.Course.{Course}
use Rattle.fairway.proofs.Sorting.{sorted_put}
use Rattle.fairway.proofs.Standings.{stands_mended}
use Rattle.fairway.proofs.Advance.{loses_one, due_faster}
use Rattle.fairway.specs.Rosters.{course_of, without}
use Rattle.fairway.proofs.Rosters.{absent_without, of_absent, roster_without}
use Rattle.kinetic.specs.Limits.{due}
use Rattle.kinetic.specs.Numbers.{among}
use Rattle.kinetic.proofs.Tests.{due_pair, tested}
use Rattle.sorted_list.specs.Places.{named_from}
use Rattle.sorted_list.specs.Rosters.{well}
use Rattle.event_queue.proofs.Options.{some_same}
use Rattle.sorted_list.specs.RostersLemmas.{Fits, well_apart, cert_past, cert_holds}
use Rattle.sorted_list.specs.Laws.{Each, rests_sorted, sorted_rests}
use Rattle.sorted_list.proofs.Changes.{well_put, roster_put, roster_new, length_put, sorted_without, exchange, roster_exchange, same_certs}
use Rattle.sorted_list.specs.Rosters.{certificate_at}
use Rattle.sorted_list.proofs.Naming.{unnamed}

-- those from one before a place on, below an end, are named: the others stay
pub between_named : (xs ys : List Course) (named : List ℕ) (p end : ℕ) → named ≡ named_from p end →
    ((k : ℕ) → k + 1 < p → certificate_at ys k ≡ certificate_at xs k) → ((k : ℕ) → end ≤ k → certificate_at ys k ≡ certificate_at xs k) →
    (i : ℕ) → among i named ≡ false → certificate_at ys i ≡ certificate_at xs i
between_named xs ys named p end n s u i m = ⊎_elim (λ (a : i < end). s i (unnamed p end i named n m a)) (λ (a : end ≤ i). u i a) (cases_lt i end)

-- past an end neither list has any
pub past_end : (xs ys : List Course) (end : ℕ) → length xs ≤ end + 1 → length ys ≤ end + 1 → (k : ℕ) → end ≤ k → certificate_at ys k ≡ certificate_at xs k
past_end xs ys end h l k a = cert_past ys k (omega arith) ∙ sym (cert_past xs k (omega arith))

module _ (t : Time) where
  abbrev pub Rested : List Course → Type 0
  Rested xs = Stands t xs × Each xs (λ r f. Due t r f → ⊥)

  pub rested_put : Proper t → (c : Course) (xs ys : List Course) → course_of xs c.number ≡ None → ys ≡ put t c xs → Rested xs → Rested ys
  rested_put pt c xs ys n e r =
      sorted_rests ys t (subst (Sorted t) (sym e) (sorted_put t pt c xs (of_absent c.number xs n) (rests_sorted xs t r.0 r.1)))

  pub rested_without : (n : ℕ) (xs ys : List Course) → ys ≡ without n xs → Rested xs → Rested ys
  rested_without n xs ys e r = sorted_rests ys t (subst (Sorted t) (sym e) (sorted_without t n xs (rests_sorted xs t r.0 r.1)))

  pub roster_in : (c : Course) (xs ys : List Course) → Fits c → course_of xs c.number ≡ None → well xs ≡ true → ys ≡ put t c xs →
      (course_of ys c.number ≡ Some c) × ((k : ℕ) → (k ≡ c.number → ⊥) → course_of ys k ≡ course_of xs k)
  roster_in c xs ys r n w e = (
    ap (λ l. course_of l c.number) e ∙ roster_new t c xs (well_put t c xs r n w),
    (λ k ne. ap (λ l. course_of l k) e ∙ roster_put t c xs k ne),
  )

  pub length_in : (c : Course) (xs ys : List Course) → ys ≡ put t c xs → length ys ≡ length xs + 1
  length_in c xs ys e = ap length e ∙ length_put t c xs

pub roster_out : (n : ℕ) (xs ys : List Course) → well xs ≡ true → ys ≡ without n xs → (course_of ys n ≡ None) × ((k : ℕ) → (k ≡ n → ⊥) → course_of ys k ≡ course_of xs k)
roster_out n xs ys w e = (ap (λ l. course_of l n) e ∙ absent_without n xs (well_apart xs w), (λ k ne. ap (λ l. course_of l k) e ∙ roster_without n xs k ne))

-- ---- a mend
-- the certificate i is due at t
pub record DueAt (t : Time) (xs : List Course) (i : ℕ) : Type 0 where
  pub rear : Course
  pub front : Course
  pub is : certificate_at xs i ≡ Some (rear, front)
  pub due : Due t rear front
  pub within : suc i < length xs

pub told_due : (t : Time) (xs : List Course) (i : ℕ) (o : Option (Course × Course)) → true ≡ due t o → o ≡ certificate_at xs i → DueAt t xs i
told_due t xs i o e q =
    let p = due_pair t (certificate_at xs i) (tested t o (certificate_at xs i) true e q) in
    record { rear = p.0; front = p.1; is = p.2; due = p.3; within = (cert_holds xs i p.0 p.1 p.2).0 }

pub pair_faster : (t : Time) (xs : List Course) (i : ℕ) → DueAt t xs i → (r f : Course) → certificate_at xs i ≡ Some (r, f) → faster r f ≡ true
pair_faster t xs i d r f e =
    let q = some_same (sym d.is ∙ e) in
    subst (λ z. faster z.0 z.1 ≡ true) q (due_faster t d.rear d.front d.due)

-- the number before it, its own and the next are named
pub away_named : (xs ys : List Course) (named : List ℕ) (i : ℕ) → suc i < length xs → ys ≡ swap xs i (i + 1) → named ≡ named_from i (i + 2) →
    (k : ℕ) → among k named ≡ false → certificate_at ys k ≡ certificate_at xs k
away_named xs ys named i h e n k m =
    let far : k < i + 2 → k + 1 < i = unnamed i (i + 2) k named n m in
    ap (λ l. certificate_at l k) e ∙ same_certs xs i k h (λ q. omega (arith, far (omega arith))) (λ q. omega (arith, far (omega arith))) (λ q. omega (arith, far (omega arith)))

-- what becomes of the list
pub record Passed (t : Time) (xs ys : List Course) (i : ℕ) : Type 0 where
  pub roster : (n : ℕ) → course_of ys n ≡ course_of xs n
  pub stands : Stands t xs → Stands t ys × (load ys < load xs)
  pub by : (r f : Course) → certificate_at xs i ≡ Some (r, f) → Exchange r f xs ys

pub passed_is : (t : Time) (xs ys : List Course) (i : ℕ) → well xs ≡ true → DueAt t xs i → ys ≡ swap xs i (i + 1) → Passed t xs ys i
passed_is t xs ys i w d e =
    let by : (r f : Course) → certificate_at xs i ≡ Some (r, f) → Exchange r f xs ys = λ r f q. subst (Exchange r f xs) (sym e) (exchange xs i r f d.within q) in
    let X = by d.rear d.front d.is in
    record {
      roster = roster_exchange X (well_apart xs w);
      stands = λ s. (stands_mended t d.rear d.front xs ys s d.due X, omega (arith, (loses_one d.rear d.front xs ys (due_faster t d.rear d.front d.due) X).1));
      by = by;
    }
