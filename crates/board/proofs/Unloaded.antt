-- A structure that stands with a load of 0: no pair of its certificates draws level any more.
use Rattle.std.proofs.Common.{◌≡◌, ℕ, zero, suc, ◌<◌, false, ◌⊎◌, Some, None, Option, sym, refl, ap, ◌∙◌, subst, inl, inr, ⊎_elim, arith}
use Rattle.std.proofs.lemmas.Bool.{cases_Bool, cases_eq}
use Rattle.event_queue.proofs.Options.{none_some, some_same}
use Rattle.fairway.specs.Meetings.{level}
use Rattle.fairway.specs.Standing.{NotLevelBefore}
use Rattle.fairway.specs.Stamps.{time_of, earlier}
use Rattle.fairway.specs.StampsLemmas.{proper, not_later, carries, asymmetric}
use Rattle.fairway.specs.declared.course.Course.{Course}
use Rattle.fairway.specs.declared.stamp.Stamp.{Stamp}
use Rattle.fairway.proofs.Meetings.{not_level_yet}
use Rattle.kinetic.specs.Structures as structures
use Rattle.kinetic.specs.Structures.{InOrder, Lasting, Loaded, Certified}
use Rattle.board.proofs.Meetings.{not_before, level_is, has_level, level_later}

-- ---- the earliest of some instants
-- of the first n instants, some of which are missing, one that none is earlier than
record Earliest (instants : ℕ → Option Stamp) (n : ℕ) : Type 0 where
  number : ℕ
  below : number < n
  at : Stamp
  is_there : instants number ≡ Some at
  none_earlier : (i : ℕ) (k : Stamp) → i < n → instants i ≡ Some k → earlier k at ≡ false

itself : (k : Stamp) → earlier k k ≡ false
itself k = ⊎_elim (λ t. asymmetric k k t) (λ f. f) (cases_Bool (earlier k k))

module _ (instants : ℕ → Option Stamp) where
  abbrev NoneOrEarliest : ℕ → Type 0
  NoneOrEarliest n = ((i : ℕ) → i < n → instants i ≡ None) ⊎ Earliest instants n

  -- P of the n-th and of those below it
  below_next : (n : ℕ) (P : ℕ → Type 0) → P n → ((i : ℕ) → i < n → P i) → (i : ℕ) → i < suc n → P i
  below_next n P here below i h = ⊎_elim (λ (e : i ≡ n). subst P (sym e) here) (λ (e : i ≡ n → ⊥). below i (omega arith)) (cases_eq i n)

  -- one instant more, which is not earlier
  kept : (n : ℕ) (x : Earliest instants n) → ((k : Stamp) → instants n ≡ Some k → earlier k x.at ≡ false) → Earliest instants (suc n)
  kept n x later =
      let b = x.below in
      record {
        number = x.number;
        below = omega (arith, b);
        at = x.at;
        is_there = x.is_there;
        none_earlier = λ i k h e. below_next n (λ j. (k : Stamp) → instants j ≡ Some k → earlier k x.at ≡ false) later (λ j l k e. x.none_earlier j k l e) i h k e;
      }

  -- one instant more, than which none of the others is earlier
  newest : (n : ℕ) (at : Stamp) → instants n ≡ Some at → ((i : ℕ) (k : Stamp) → i < n → instants i ≡ Some k → earlier k at ≡ false) → Earliest instants (suc n)
  newest n at e others =
      record {
        number = n;
        below = omega arith;
        at = at;
        is_there = e;
        none_earlier = λ i k h x. below_next n (λ j. (k : Stamp) → instants j ≡ Some k → earlier k at ≡ false) (λ k y. subst (λ z. earlier z at ≡ false) (some_same (sym e ∙ y)) (itself at)) (λ j l k y. others j k l y) i h k x;
      }

  one_more : (n : ℕ) (o : Option Stamp) → instants n ≡ o → NoneOrEarliest n → NoneOrEarliest (suc n)
  one_more n None e (inl none) = inl (below_next n (λ i. instants i ≡ None) e none)
  one_more n None e (inr x) = inr (kept n x (λ k h. absurd (none_some (sym e ∙ h))))
  one_more n (Some at) e (inl none) = inr (newest n at e (λ i k h x. absurd (none_some (sym (none i h) ∙ x))))
  one_more n (Some at) e (inr x) =
      ⊎_elim
      (λ t. inr (newest n at e (λ i k h y. carries at x.at k (asymmetric at x.at t) (x.none_earlier i k h y))))
      (λ f. inr (kept n x (λ k h. subst (λ z. earlier z x.at ≡ false) (some_same (sym e ∙ h)) f)))
      (cases_Bool (earlier at x.at))

  earliest : (n : ℕ) → NoneOrEarliest n
  earliest zero = inl (λ i h. absurd (omega arith))
  earliest (suc n) = one_more n (instants n) refl (earliest n)

-- ---- certificates
-- the instant at which the two of a certificate draw level
abbrev meeting : Option (Course × Course) → Option Stamp
meeting None = None
meeting (Some p) = level p.0 p.1

record Meets (certificate : Option (Course × Course)) (at : Stamp) : Type 0 where
  rear : Course
  front : Course
  pair : certificate ≡ Some (rear, front)
  level_then : level rear front ≡ Some at

meets : (o : Option (Course × Course)) (at : Stamp) → meeting o ≡ Some at → Meets o at
meets None at e = absurd (none_some e)
meets (Some p) at e = record { rear = p.0; front = p.1; pair = refl; level_then = e }

module _ {S : Type 0} (m : structures.Meaning S) (ordered : InOrder m) (lasting : Lasting m) (loaded : Loaded m) (certified : Certified m) where
  -- it would stand until the earliest of them, and that certificate would be due then
  pub none_meets : (u : Stamp) (s : S) → m.standing (time_of u) s → m.load s ≡ 0 → (i : ℕ) (r f : Course) (at : Stamp) → m.certificate s i ≡ Some (r, f) → level r f ≡ Some at → ⊥
  none_meets u s stands empty i r f at c l =
      ⊎_elim
      (λ none. none_some (sym (none i (certified s i r f c).0) ∙ ap meeting c ∙ l))
      (λ x.
      let y = meets (m.certificate s x.number) x.at x.is_there in
      let late = level_later (time_of u) y.rear y.front x.at y.level_then (not_before (time_of u) y.rear y.front (ordered (time_of u) s (proper u) stands x.number y.rear y.front y.pair)) in
      let not_yet : (j : ℕ) (r f : Course) → m.certificate s j ≡ Some (r, f) → NotLevelBefore (time_of x.at) r f = λ j r f d F.
      let k = has_level (time_of u) (proper u) r f F (not_before (time_of u) r f (ordered (time_of u) s (proper u) stands j r f d)) in
      not_level_yet r f k.0 k.1 (time_of x.at) (not_later x.at k.0 (level_is y.rear y.front x.at y.level_then).below_one (x.none_earlier j k.0 (certified s j r f d).0 (ap meeting d ∙ k.1))) F in
      let then_stands = lasting (time_of u) (time_of x.at) s (proper u) (proper x.at) late stands not_yet in
      let some = loaded (time_of x.at) s (proper x.at) then_stands x.number y.rear y.front y.pair (level_is y.rear y.front x.at y.level_then).due in
      absurd (omega (arith, some, empty)))
      (earliest (λ j. meeting (m.certificate s j)) 64)
