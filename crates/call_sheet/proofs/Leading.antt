-- Where a log leads once one more call is made: the sheet still holds the lines that wait, and the
-- call's answer was right.
use Rattle.std.proofs.Common.{◌≡◌, ℕ, Bool, true, false, eqb, ltb, List, ◌∷◌, is_some, Some, None, Ok, Err, Option, Result, sym, refl, ap, ◌∙◌, subst, inl, inr, ⊎_elim}
use Rattle.std.proofs.lemmas.Bool.{eqb-false, ne_eqb, ltb-false, cases_eq}
use Rattle.event_queue.specs.Queues.{Meaning, Only, Unchanged, HandedOut}
use Rattle.event_queue.proofs.Laws.{unchanged_is}
use Rattle.call_sheet.specs.Sheets.{Does}
use Rattle.call_sheet.specs.History.{concerns, RightlyHailed, Right, AllRight, LedTo}
use Rattle.call_sheet.specs.declared.call.Event.{Event}
use Rattle.call_sheet.specs.declared.call.Event.TheVariants.{OnAwait, OnHeard, OnOverdue}
use Rattle.call_sheet.specs.declared.call.Hail.{Hail}
use Rattle.call_sheet.specs.declared.refusal.Refusal.{Refusal}

-- what an answer says of what was held

some_of : {A : Type 0} (o : Option A) → true ≡ is_some o → (a : A) × (o ≡ Some a)
some_of (Some a) h = (a, refl)
some_of None h = cc

none_of : {A : Type 0} (o : Option A) → false ≡ is_some o → o ≡ None
none_of (Some a) h = cc
none_of None h = refl

-- an event that awaits no line at a second
abbrev Idle : Event → Type 0
Idle e = (line second : ℕ) → e ≡ OnAwait line second (Ok tt) → ⊥

heard_idle : (line : ℕ) (answer : Result Bool Refusal) → Idle (OnHeard line answer)
heard_idle line answer i s e = cc

overdue_idle : (given : ℕ) (answer : Option Hail) → Idle (OnOverdue given answer)
overdue_idle given answer i s e = cc

refused_idle : (line second : ℕ) (r : Refusal) → Idle (OnAwait line second (Err r))
refused_idle line second r i s e = cc

module _ {Q : Type 0} (m : Meaning Q ℕ) where
  -- a call that leaves what the sheet means as it was, and concerns no line
  led_same : {q q' : Q} {log : List Event} (e : Event) → LedTo m log q → Unchanged m q q' → Right (m.capacity q) log e → ((i : ℕ) → concerns i e ≡ false) → Idle e → LedTo m (e ∷ log) q'
  led_same {q} {q'} {log} e l u right none idle =
      record {
        sound = u.sound;
        right = subst (λ c. AllRight c (e ∷ log)) (sym u.capacity) (right, l.right);
        holds = λ i s. ⊎_elim (λ here. absurd (idle i s here)) (λ older. u.same i ∙ l.holds i s older.1);
        only = λ i s h. inr (none i, l.only i s (sym (u.same i) ∙ h));
      }

  -- a call that changes what the sheet holds of one line, and concerns that line
  led_only : {q q' : Q} {log : List Event} {n : ℕ} {h : Option ℕ} (e : Event) → LedTo m log q → Only m q q' n h → Right (m.capacity q) log e → ((i : ℕ) → concerns i e ≡ eqb i n) → ((s : ℕ) → h ≡ Some s → e ≡ OnAwait n s (Ok tt)) → ((i s : ℕ) → e ≡ OnAwait i s (Ok tt) → (i ≡ n) × (h ≡ Some s)) → LedTo m (e ∷ log) q'
  led_only {q} {q'} {log} {n} {h} e l o right here writes written =
      record {
        sound = o.sound;
        right = subst (λ c. AllRight c (e ∷ log)) (sym o.capacity) (right, l.right);
        holds = λ i s. ⊎_elim
            (λ new. let w = written i s new in ap (m.held q') w.0 ∙ o.there ∙ w.1)
            (λ older. o.others i (eqb-false i n (sym (here i) ∙ older.0)) ∙ l.holds i s older.1);
        only = λ i s held. ⊎_elim
            (λ same. inl (writes s (sym o.there ∙ ap (m.held q') (sym same) ∙ held) ∙ ap (λ j. OnAwait j s (Ok tt)) (sym same)))
            (λ other. inr (here i ∙ ne_eqb i n other, l.only i s (sym (o.others i other) ∙ held)))
            (cases_eq i n);
      }

  -- the same where the line is awaited no more
  led_gone : {q q' : Q} {log : List Event} {n : ℕ} (e : Event) → LedTo m log q → Only m q q' n None → Right (m.capacity q) log e → ((i : ℕ) → concerns i e ≡ eqb i n) → Idle e → LedTo m (e ∷ log) q'
  led_gone e l o right here idle =
      led_only e l o right here
      (λ s h. cc)
      (λ i s new. absurd (idle i s new))

  -- what a queue hands out was handed out rightly
  rightly : {q q' : Q} {log : List Event} {given line second : ℕ} → LedTo m log q → HandedOut m ltb q q' given line second → RightlyHailed log given record { line = line; second = second }
  rightly {q} {q'} {log} {given} {line} {second} l h =
      record {
        waits = l.only line second h.was_held;
        not_after = ltb-false given second h.not_after;
        least = λ i s w. ltb-false s second (h.none_before i s (l.holds i s w));
      }

  -- after a call that did what it should, the log leads on
  pub led : (q q' : Q) (e : Event) → Does m q q' e → (log : List Event) → LedTo m log q → LedTo m (e ∷ log) q'
  led q q' (OnAwait line second (Ok _)) d log l =
      led_only _ l (d.1 l.sound) d.0 (λ i. refl)
      (λ s h. let k : second ≡ s = cc in ap (λ t. OnAwait line t (Ok tt)) k)
      (λ i s new. let a : i ≡ line = cc in let b : second ≡ s = cc in (a, ap Some b))
  led q q' (OnAwait line second (Err r)) d log l =
      led_same _ l (unchanged_is m d.0 l.sound) d.1 (λ i. refl) (refused_idle line second r)
  led q q' (OnHeard line (Ok true)) d log l =
      let done = d.1 l.sound in
      let old = some_of (m.held q line) done.0 in
      led_gone _ l done.1 (d.0, (old.0, l.only line old.0 old.1)) (λ i. refl) (heard_idle line (Ok true))
  led q q' (OnHeard line (Ok false)) d log l =
      let done = d.1 l.sound in
      let none = none_of (m.held q line) done.0 in
      led_gone _ l done.1
      (d.0, λ s w. let h : m.held q line ≡ Some s = l.holds line s w in cc)
      (λ i. refl) (heard_idle line (Ok false))
  led q q' (OnHeard line (Err r)) d log l =
      led_same _ l (unchanged_is m d.0 l.sound) d.1 (λ i. refl) (heard_idle line (Err r))
  led q q' (OnOverdue given (Some hail)) d log l =
      let done = d l.sound in
      led_gone _ l done.after (rightly l done) (λ i. refl) (overdue_idle given (Some hail))
  led q q' (OnOverdue given None) d log l =
      let done = d l.sound in
      led_same _ l done.1 (λ i s w. done.0 i s (l.holds i s w)) (λ i. refl) (overdue_idle given None)
