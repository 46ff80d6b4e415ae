-- An advance: why it is refused, the rows that it writes, and the total after it.
use Rattle.std.proofs.Common.{◌≡◌, ℕ, ◌+◌, ◌-◌, ◌*◌, ◌^◌, ◌<◌, ◌≤◌, Bool, true, false, cond, is_some, ◌⊎◌, inl, inr, List, [], ◌∷◌, ◌++◌, length, take, get_or, min, ◌==◌, nat_lt, Some, None, Ok, Err, Result, IsErrAnd, sym, refl, ap, ◌∙◌, subst, ⊎_elim, arith}
use Rattle.std.proofs.lemmas.Bool.{cases_Bool, cases_lt, cond-true, cond-false, eqb-true, eqb-false}
use Rattle.std.proofs.lemmas.Bool.Decides.{nat_tests}
use Rattle.std.proofs.lemmas.Grind.{common_steps}
use Rattle.std.proofs.lemmas.List.{get_or_append_left, length_push}
use Rattle.std.proofs.Math.Seq.{get_or-append_seam}
use Rattle.std.specs.List.{AllByRecursion}
use Rattle.event_queue.specs.Queues as queues
use Rattle.event_queue.specs.Refusals.{◌when◌, topmost}
use Rattle.fairway.specs.Instants.{stamp_of, instant_refusal}
use Rattle.fairway.specs.Stamps.{earlier}
use Rattle.fairway.specs.StampsLemmas.{late_from, early_from}
use Rattle.fairway.specs.declared.instant.Instant.{Instant}
use Rattle.fairway.specs.declared.stamp.Stamp.{Stamp}
use Rattle.kinetic.specs.Structures as structures
use Rattle.kinetic.specs.Structures.{Certified, NoneDue}
use Rattle.board.specs.Boards.{Right, TotalBounded, begun, refusal}
use Rattle.board.specs.Books.{goal}
use Rattle.board.specs.Outcomes.{InTime, Moved, Passed, Happened, advanced, rows_event}
use Rattle.board.specs.Passings.{Arrived, Begins, Passings, RowRight, Written, row_of}
use Rattle.board.specs.Passings.Passings.{none, more}
use Rattle.board.specs.Tickets.{Ticket, limit_of, QueueKept}
use Rattle.board.specs.declared.board.Board.{Board}
use Rattle.board.specs.declared.call.Call.TheVariants.{Advance}
use Rattle.board.specs.declared.call.Row.{Row}
use Rattle.board.specs.declared.refusal.Refusal.{Refusal}
use Rattle.board.specs.declared.refusal.Refusal.TheVariants.{NoSuchInstant, Early, FewRows}
use Rattle.fairway.proofs.Instants.{stamp_below}
use Rattle.board.proofs.Meetings.{level_is}

-- ---- refusals
module _ {S Q : Type 0} (m : structures.Meaning S) (n : queues.Meaning Q Ticket) (b : Board S Q) (s a d : ℕ) where
  pub too_early : (lent : ℕ) → instant_refusal s a d ≡ None → earlier (goal s a d) (stamp_of b.clock) ≡ true → refusal m n b (Advance s a d) lent ≡ Some Early
  too_early lent h e = rw (h, e) refl

  pub too_few : (lent : ℕ) → instant_refusal s a d ≡ None → earlier (goal s a d) (stamp_of b.clock) ≡ false → lent < m.load b.structure → refusal m n b (Advance s a d) lent ≡ Some FewRows
  too_few lent h e l = let t = less lent (m.load b.structure) l in rw (h, e, t) refl
    where
      less : (x y : ℕ) → x < y → nat_lt x y ≡ true
      less x y h = grind (arith, nat_tests)

  pub advance_accepted : (lent : ℕ) → instant_refusal s a d ≡ None → earlier (goal s a d) (stamp_of b.clock) ≡ false → m.load b.structure ≤ lent → refusal m n b (Advance s a d) lent ≡ None
  advance_accepted lent h e l = let t = enough lent (m.load b.structure) l in rw (h, e, t) refl
    where
      enough : (x y : ℕ) → y ≤ x → nat_lt x y ≡ false
      enough x y h = grind (arith, nat_tests)

  pub advances : (lent : ℕ) → refusal m n b (Advance s a d) lent ≡ None → (earlier (goal s a d) (stamp_of b.clock) ≡ false) × (m.load b.structure ≤ lent)
  advances lent h = let k = neither (is_some (instant_refusal s a d)) (earlier (goal s a d) (stamp_of b.clock)) (nat_lt lent (m.load b.structure)) h in (k.0, enough lent (m.load b.structure) k.1)
    where
      neither : (x y z : Bool) → topmost (NoSuchInstant when x ∷ Early when y ∷ FewRows when z ∷ []) ≡ None → (y ≡ false) × (z ≡ false)
      neither x y z h = (grind (arith, nat_tests), grind (arith, nat_tests))

      enough : (x y : ℕ) → nat_lt x y ≡ false → y ≤ x
      enough x y h = grind (arith, nat_tests)

  -- what the check found and `?` handed on
  pub refused : (rows : List Row) (e : Refusal) (answer : Result ℕ Refusal) → refusal m n b (Advance s a d) (length rows) ≡ Some e → IsErrAnd answer (λ own. own ≡ e) → Happened m n b (rows_event (Advance s a d) (advanced answer) rows) b
  refused rows e (Ok k) h q = absurd q
  refused rows e (Err own) h q = (h ∙ ap Some (sym q), refl)

-- ---- the rows of a series of mends
all_more : {X : Type 0} (P : X → Type 0) (xs : List X) (x : X) → AllByRecursion P xs → P x → AllByRecursion P (xs ++ (x ∷ []))
all_more P [] x h p = (p, tt)
all_more P (y ∷ ys) x h p = (h.0, all_more P ys x h.1 p)

module _ {S : Type 0} (m : structures.Meaning S) (from to : Stamp) (s : S) where
  roster_of : {u : Stamp} {rows : List Row} {s' : S} → Passings m from to s u rows s' → (v : ℕ) → m.roster s' v ≡ m.roster s v
  roster_of none v = refl
  roster_of (more i r f at p c l after onward within roster mended) v = roster v ∙ roster_of p v

  -- each row is right
  pub each_right : Certified m → {u : Stamp} {rows : List Row} {s' : S} → Passings m from to s u rows s' → AllByRecursion (RowRight (m.roster s) from to) rows
  each_right certified none = tt
  each_right certified (more {rows = rows} {s' = s'} i r f at p c l after onward within roster mended) =
      let k = certified s' i r f c in
      let e = level_is r f at l in
      all_more (RowRight (m.roster s) from to) rows (row_of at r f) (each_right certified p) (record {
        rear = r;
        front = f;
        rear_aboard = sym (roster_of p r.number) ∙ k.1;
        front_aboard = sym (roster_of p f.number) ∙ k.2;
        rear_faster = e.is_faster;
        level_then = e.due.0;
        in_lowest_terms = l;
        after = after;
        not_after = within;
      })

  -- the last row is of the instant that was reached
  last_at : {u : Stamp} {rows : List Row} {s' : S} → Passings m from to s u rows s' → (k : ℕ) (d : Row) → k + 1 ≡ length rows → (get_or rows k d).at ≡ u
  last_at none k d e = absurd (omega (arith, e))
  last_at (more {rows = rows} i r f at p c l after onward within roster mended) k d e =
      let j : k ≡ length rows = omega (arith, e, length_push rows (row_of at r f)) in
      ap (λ z. (get_or (rows ++ (row_of at r f ∷ [])) z d).at) j ∙ ap (λ z. z.at) (get_or-append_seam rows (row_of at r f) [] d)

  -- and they are in order of their instants
  pub in_time : {u : Stamp} {rows : List Row} {s' : S} → Passings m from to s u rows s' → InTime rows
  in_time none k d z h = absurd (omega (arith, h))
  in_time (more {u = u} {rows = rows} i r f at p c l after onward within roster mended) k d z h =
      let x = row_of at r f in
      let t = length_push rows x in
      ⊎_elim
      (λ (b : k + 1 < length rows).
      rw (get_or_append_left rows (x ∷ []) d (k + 1) b, get_or_append_left rows (x ∷ []) d k (omega (arith, b))) (in_time p k d z b))
      (λ b.
      let e : k + 1 ≡ length rows = omega (arith, b, h, t) in
      let y = ap (λ j. get_or (rows ++ (x ∷ [])) j d) e ∙ get_or-append_seam rows x [] d in
      rw (y, get_or_append_left rows (x ∷ []) d k (omega (arith, e)), last_at p k d e) onward)
      (cases_lt (k + 1) (length rows))

-- ---- the total
begun_is : (s n : ℕ) → ((n ≡ 0) × (cond (n == 0) s (s + 1) ≡ s)) ⊎ ((0 < n) × (cond (n == 0) s (s + 1) ≡ s + 1))
begun_is s n = ⊎_elim (λ z. inl (eqb-true n 0 z, cond-true (n == 0) s (s + 1) z)) (λ z. inr (above n (eqb-false n 0 z), cond-false (n == 0) s (s + 1) z)) (cases_Bool (n == 0))
  where
    above : (n : ℕ) → (n ≡ 0 → ⊥) → 0 < n
    above n h = ⊎_elim (λ l. l) (λ l. absurd (h (omega (arith, l)))) (cases_lt 0 n)

not_of_none : (n m d e : ℕ) → 0 < n → m ≡ 0 → n * (e + 1) ≤ m * (d + 1) → ⊥
not_of_none n m d e p z h = let k : n * (e + 1) ≤ 0 * (d + 1) = subst (λ x. n * (e + 1) ≤ x * (d + 1)) z h in omega (arith, p, k)

-- a clock that is not earlier has begun as many seconds
begun_on : (c i : Instant) → earlier (stamp_of i) (stamp_of c) ≡ false → begun c ≤ begun i
begun_on c i h =
    let l = late_from (stamp_of i) (stamp_of c) h in
    let x = begun_is c.seconds c.numerator in
    let y = begun_is i.seconds i.numerator in
    ⊎_elim
    (λ a. let ae = a.1 in ⊎_elim (λ b. let be = b.1 in omega (arith, ae, be, l.0)) (λ b. let be = b.1 in omega (arith, ae, be, l.0)) y)
    (λ a. let ae = a.1 in
    ⊎_elim
    (λ b. let be = b.1 in ⊎_elim (λ k. omega (arith, ae, be, k)) (λ k. absurd (not_of_none c.numerator i.numerator _ _ a.0 b.0 (l.1 (omega (arith, l.0, k))))) (cases_lt c.seconds i.seconds))
    (λ b. let be = b.1 in omega (arith, ae, be, l.0)) y) x

-- and one that is later has begun the second after
begun_after : (c i : Instant) → earlier (stamp_of c) (stamp_of i) ≡ true → c.seconds + 1 ≤ begun i
begun_after c i h =
    let y = begun_is i.seconds i.numerator in
    ⊎_elim
    (λ l. ⊎_elim (λ b. let be = b.1 in omega (arith, be, l)) (λ b. let be = b.1 in omega (arith, be, l)) y)
    (λ l. ⊎_elim (λ b. absurd (none_less i.numerator _ _ b.0 l.1)) (λ b. let be = b.1 in let se : c.seconds ≡ i.seconds = l.0 in omega (arith, be, se)) y)
    (early_from (stamp_of c) (stamp_of i) h)
  where
    none_less : (m d x : ℕ) → m ≡ 0 → x < m * d → ⊥
    none_less m d x z h = let k : x < 0 * d = subst (λ y. x < y * d) z h in omega (arith, k)

bounded_on : (c i : Instant) (t l l' k : ℕ) → TotalBounded c t l → l' + k ≤ l → earlier (stamp_of i) (stamp_of c) ≡ false → (0 < k → earlier (stamp_of c) (stamp_of i) ≡ true) → TotalBounded i (t + k) l'
bounded_on c i t l l' k b few late strict =
    let s = b.so_far in
    let n = b.to_come in
    let g = begun_on c i late in
    let q = (late_from (stamp_of i) (stamp_of c) late).0 in
    record {
      so_far = ⊎_elim (λ p. let a = begun_after c i (strict p) in omega (arith, n, few, a)) (λ p. omega (arith, s, g, p)) (cases_lt 0 k);
      to_come = omega (arith, n, few, q);
    }

-- a sum within its bound is not cut off
exact_sum : (c : Instant) (t l l' k : ℕ) → TotalBounded c t l → l' + k ≤ l → min (t + k) (2 ^ 64 - 1) ≡ t + k
exact_sum c t l l' k b few =
    let n = b.to_come in
    let z : c.seconds ≤ 16777216 = c.bounded in
    below (t + k) (omega (arith, n, few, z))
  where
    below : (x : ℕ) → x ≤ 33822869472 → min x (2 ^ 64 - 1) ≡ x
    below x h = grind (arith, nat_tests)

-- ---- what an advance leaves
module _ {S Q : Type 0} (m : structures.Meaning S) (n : queues.Meaning Q Ticket) (certified : Certified m) where
  -- what the mends up to a limit leave, of a structure with its queue
  abbrev pub Arrives : Ticket → S → S → Q → Q → ℕ → List Row → List Row → Type 0
  Arrives limit s s' q q' k rows rows' = (u to : Stamp) → Begins m n u to limit s q (length rows) → Arrived m n u to s s' q' k rows'

  passes : (b b' : Board S Q) (limit : Ticket) (k : ℕ) (rows rows' : List Row) → limit ≡ limit_of (stamp_of b'.clock) → earlier (stamp_of b'.clock) (stamp_of b.clock) ≡ false → m.load b.structure ≤ length rows →
      Arrives limit b.structure b'.structure b.queue b'.queue k rows rows' → Written k rows rows' → b'.total ≡ min (b.total + k) (2 ^ 64 - 1) → b'.capacity ≡ n.capacity b'.queue → Right m n b →
      Passed m n b b' (stamp_of b'.clock) k (take k rows')
  passes b b' limit k rows rows' at late enough arrived written total cap r =
      let u = stamp_of b.clock in
      let a = arrived u (stamp_of b'.clock) (record {
        midway = record { below_one = stamp_below b.clock; sound = r.sound; room = r.room; stands = r.rests.0; tickets = r.tickets };
        none_due = r.rests.1;
        enough = enough;
        below_one = stamp_below b'.clock;
        onward = late;
        limit_is = at;
      }) in
      let t : b'.total ≡ b.total + k = total ∙ exact_sum b.clock b.total (m.load b.structure) (m.load b'.structure) k r.total a.load in
      record {
        right = record {
          sound = a.midway.sound;
          capacity = cap;
          room = a.midway.room;
          rests = (a.midway.stands, a.none_due);
          tickets = a.midway.tickets;
          total = subst (λ x. TotalBounded b'.clock x (m.load b'.structure)) (sym t) (bounded_on b.clock b'.clock b.total (m.load b.structure) (m.load b'.structure) k r.total a.load late a.strict);
        };
        total = t;
        counted = let w = written.within in let z = written.size in taken k rows' (omega (arith, w, z));
        few = a.load;
        each = each_right m u (stamp_of b'.clock) b.structure certified a.passings;
        in_time = in_time m u (stamp_of b'.clock) b.structure a.passings;
        last = a.last;
        passings = a.passings;
      }
    where
      taken : (k : ℕ) (rows : List Row) → k ≤ length rows → length (take k rows) ≡ k
      taken k rows h = grind (arith, common_steps)

  pub moves : (b b' : Board S Q) (to : Stamp) (limit : Ticket) (k : ℕ) (rows rows' : List Row) → limit ≡ limit_of (stamp_of b'.clock) → stamp_of b'.clock ≡ to → earlier to (stamp_of b.clock) ≡ false → m.load b.structure ≤ length rows →
      Arrives limit b.structure b'.structure b.queue b'.queue k rows rows' → Written k rows rows' → ((v : ℕ) → m.roster b'.structure v ≡ m.roster b.structure v) → QueueKept n b.queue b'.queue → b'.capacity ≡ b.capacity → b'.total ≡ min (b.total + k) (2 ^ 64 - 1) →
      Moved m n b b' to k (take k rows')
  moves b b' to limit k rows rows' at goal late enough arrived written roster kept cap total =
      let late' = subst (λ l. earlier l (stamp_of b.clock) ≡ false) (sym goal) late in
      record {
        onward = late;
        roster = roster;
        clock = goal;
        capacity = cap;
        added = total;
        queue = kept;
        passed = λ r. subst (λ l. Passed m n b b' l k (take k rows')) goal (passes b b' limit k rows rows' at late' enough arrived written total (cap ∙ r.capacity ∙ sym (kept.capacity r.sound)) r);
      }
