-- Mending until none is due, on any structure.
use Rattle.std.proofs.Common.{◌≡◌, ℕ, ◌+◌, ◌<◌, ◌≤◌, true, false, List, Some, None, Ok, Err, Option, Result, MatchOption, sym, ◌∙◌, subst, arith}
use Rattle.fairway.specs.Times.{Time, Proper}
use Rattle.fairway.specs.declared.course.Course.{Course}
use Rattle.kinetic.specs.Limits.{due}
use Rattle.kinetic.specs.Structures.{Meaning, NoneDue, Front, InFront, Certified, Mended, Mend}
use Rattle.kinetic.specs.Settling.{FirstDue, Settled}
use Rattle.kinetic.specs.declared.numbers.Numbers.{Numbers}
use Rattle.kinetic.specs.declared.refusal.Refusal.{Refusal}
use Rattle.kinetic.proofs.Tests.{not_due}

pub same_front : (t : Time) (a b : ℕ → Option Course) (v : Option ℕ) → ((n : ℕ) → a n ≡ b n) → Front t a v → Front t b v
same_front t a b None e f = λ n. sym (e n) ∙ f n
same_front t a b (Some v) e f = (f.0, sym (e v) ∙ f.1, (λ n d o h. f.2 n d o (e n ∙ h)))

module _ {S : Type 0} (m : Meaning S) where
  -- no certificate below 64 is due: none is
  pub none_due : Certified m → (t : Time) (s : S) → ((k : ℕ) → k < 64 → due t (m.certificate s k) ≡ false) → NoneDue m t s
  none_due law t s h i r f e = not_due t (m.certificate s i) (h i (law s i r f e).0) r f e

  -- the first of 64 numbers whose certificate is due
  pub first_of : Certified m → (t : Time) (s : S) (r : Option ℕ) →
      MatchOption r ((k : ℕ) → 0 ≤ k → k < 64 → due t (m.certificate s k) ≡ false)
      (λ i. (0 ≤ i) × (i < 64) × (due t (m.certificate s i) ≡ true) × ((k : ℕ) → 0 ≤ k → k < i → due t (m.certificate s k) ≡ false)) → FirstDue m t s r
  first_of law t s None h = none_due law t s (λ k l. h k (omega arith) l)
  first_of law t s (Some i) h = (h.2, (λ k l. h.3 k (omega arith) l))

  -- a mend of a due certificate is accepted
  pub mended : (t : Time) (s s' : S) (i : ℕ) (r : Result Numbers Refusal) → due t (m.certificate s i) ≡ true → Mended m t s s' i r → (numbers : List ℕ) × Mend m t s s' i numbers
  mended t s s' i (Ok named) d k = (named, k.1)
  mended t s s' i (Err e) d k = absurd (grind arith)

  -- on the way: the roster is as it was, and a structure that stood stands, with as many mends as the load has lost
  pub record Midway (t : Time) (s s' : S) (mends : ℕ) : Type 0 where
    pub roster : (n : ℕ) → m.roster s' n ≡ m.roster s n
    pub stands : m.standing t s → m.standing t s' × (m.load s' + mends ≤ m.load s)

  pub midway_more : (t : Time) (s a b : S) (k i : ℕ) (r : Result Numbers Refusal) → Midway t s a k → due t (m.certificate a i) ≡ true → Mended m t a b i r → Midway t s b (k + 1)
  midway_more t s a b k i r w d e =
      let y = (mended t a b i r d e).1 in
      record {
        roster = λ n. y.roster n ∙ w.roster n;
        stands = λ st. let x = w.stands st in let z = y.stands x.0 in (z.0, omega (arith, x.1, z.1));
      }

  pub settled : InFront m → (t : Time) → Proper t → (s s' : S) (k : ℕ) (v : Option ℕ) → v ≡ m.foremost s' → Midway t s s' k → NoneDue m t s' → Settled m t s s' v
  settled law t p s s' k v e w n =
      record {
        roster = w.roster;
        answer_is = e;
        rests = λ st. ((w.stands st).0, n);
        front = λ st. same_front t (m.roster s') (m.roster s) v w.roster (subst (Front t (m.roster s')) (sym e) (law t s' p ((w.stands st).0, n)));
      }

  -- more mends than the load cannot be of a structure that stood
  pub unsettled : (t : Time) (s s' : S) (k : ℕ) (v : Option ℕ) → v ≡ m.foremost s' → Midway t s s' k → m.load s < k → Settled m t s s' v
  unsettled t s s' k v e w h =
      record {
        roster = w.roster;
        answer_is = e;
        rests = λ st. absurd (omega (arith, (w.stands st).1));
        front = λ st. absurd (omega (arith, (w.stands st).1));
      }
