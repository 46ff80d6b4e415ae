-- Calls performed one after the other, and the log that their lines make.
use Rattle.std.proofs.Common.{◌≡◌, ℕ, ◌+◌, ◌-◌, ◌<◌, ◌≤◌, List, [], ◌∷◌, ◌++◌, reverse, length, take, drop, get_or, set, suc, zero, Ok, Err, Result, sym, refl, ap, ◌∙◌, subst, arith}
use Rattle.std.proofs.lemmas.List.{reverse-append, length-take-le, length-drop, length-append, take-take, take_all, take_at, take_more_set, take_rest, drop-take, drop-drop, drop_all, drop_at, append-nil, get_or-append_right, get_or-drop}
use borrow.Rule.Slice.PartMut.{put_mid}
use Rattle.event_queue.specs.Queues as queues
use Rattle.kinetic.specs.Structures as structures
use Rattle.kinetic.specs.Structures.{InOrder, InFront}
use Rattle.board.specs.Tickets.{Ticket}
use Rattle.board.specs.Books.{mends_of}
use Rattle.board.specs.History.{AllHappened, AsBooked, Adds}
use Rattle.board.specs.History.AllHappened.{nothing, next}
use Rattle.board.specs.Lines.{calls_of, rows_used, events, log_of, Performed}
use Rattle.board.specs.Outcomes.{Opened, Happened, done, plain_event, rows_event}
use Rattle.board.specs.Passings.{Written}
use Rattle.board.specs.declared.board.Board.{Board}
use Rattle.board.specs.declared.call.Call.{Call}
use Rattle.board.specs.declared.call.Call.TheVariants.{Open, Enter, Leave, Steer, Advance}
use Rattle.board.specs.declared.call.Line.{Line}
use Rattle.board.specs.declared.call.Outcome.{Outcome}
use Rattle.board.specs.declared.call.Row.{Row}
use Rattle.board.specs.declared.refusal.Refusal.{Refusal}
use Rattle.board.proofs.Pasts.{adds, as_booked}
use Rattle.board.proofs.Throughout.{past_of, throughout_of, every_of}

-- ---- calls that are given no rows

-- no advance
abbrev pub Plain : Call → Type 0
Plain Open = Unit {0}
Plain (Enter number position speed) = Unit {0}
Plain (Leave number) = Unit {0}
Plain (Steer number speed) = Unit {0}
Plain (Advance s n d) = ⊥

module _ {S Q : Type 0} (m : structures.Meaning S) (n : queues.Meaning Q Ticket) where
  -- what happens by such a call does not depend on the rows lent
  relent : (b b' : Board S Q) (call : Call) (answer : Result Unit Refusal) (rows : List Row) → Plain call → Happened m n b (plain_event call (done answer)) b' → Happened m n b (rows_event call (done answer) rows) b'
  relent b b' Open (Ok u) rows p h = h
  relent b b' Open (Err e) rows p h = h
  relent b b' (Enter number position speed) (Ok u) rows p h = h
  relent b b' (Enter number position speed) (Err e) rows p h = h
  relent b b' (Leave number) (Ok u) rows p h = h
  relent b b' (Leave number) (Err e) rows p h = h
  relent b b' (Steer number speed) (Ok u) rows p h = h
  relent b b' (Steer number speed) (Err e) rows p h = h
  relent b b' (Advance s a d) answer rows p h = absurd p

  pub plain_adds : (ordered : InOrder m) (leads : InFront m) (b b' : Board S Q) (call plain : Call) (o : Outcome) (answer : Result Unit Refusal) (rows : List Row) → call ≡ plain → o ≡ done answer → Plain plain → Adds m n b (plain_event plain (done answer)) b' → Adds m n b (rows_event call o rows) b'
  plain_adds ordered leads b b' call plain o answer rows e f p h =
      subst (λ x. Adds m n b (rows_event x o rows) b') (sym e)
      (subst (λ x. Adds m n b (rows_event plain x rows) b') (sym f)
      (adds m n ordered leads b _ b' (relent b b' plain answer rows p h.happened)))

-- ---- rows
-- the rows of a call that was given those past the used ones
pub written_on : (used k : ℕ) (first rows new : List Row) → Written used first rows → Written k (drop used rows) new → Written (used + k) first (take used rows ++ new)
written_on used k first rows new w v =
    let u : length (take used rows) ≡ used = length-take-le used rows (omega (arith, w.size, w.within)) in
    let l = length-drop used rows in
    record {
      size = length-append (take used rows) new ∙ omega (arith, u, l, v.size, w.size, w.within);
      within = omega (arith, l, v.within, w.within);
      beyond = λ j d b.
          get_or-append_right (take used rows) new used j d u (omega (arith, b))
          ∙ v.beyond (j - used) d (omega (arith, b))
          ∙ get_or-drop used rows (j - used) d
          ∙ ap (λ i. get_or rows i d) (omega (arith, b))
          ∙ w.beyond j d (omega (arith, b));
    }

-- what is left of rows once those past the first are written
rest_written : (used : ℕ) (rows new : List Row) → put_mid used (length rows - used) rows new ≡ take used rows ++ new
rest_written used rows new =
    let e : drop (length rows - used) (drop used rows) ≡ [] = drop_all (length rows - used) (drop used rows) (let l = length-drop used rows in omega (arith, l)) in
    ap (λ z. take used rows ++ (new ++ z)) e ∙ ap (λ z. take used rows ++ z) (append-nil new)

-- ---- lines as events
-- the events of lines depend on the rows that they wrote, and on how many there are
same_events : (lines : List Line) (a b : List Row) → take (rows_used lines) a ≡ take (rows_used lines) b → length a ≡ length b → events lines a ≡ events lines b
same_events [] a b t l = refl
same_events (x ∷ lines) a b t l =
    let k = mends_of x.outcome in
    let r = rows_used lines in
    let here : take k a ≡ take k b = sym (take-take k (k + r) a (omega arith)) ∙ ap (take k) t ∙ take-take k (k + r) b (omega arith) in
    let there : take r (drop k a) ≡ take r (drop k b) = sym (drop-take k r a) ∙ ap (drop k) t ∙ drop-take k r b in
    let rest : length (drop k a) ≡ length (drop k b) = length-drop k a ∙ ap (λ z. z - k) l ∙ sym (length-drop k b) in
    ap (λ z. record { call = x.call; lent = z; outcome = x.outcome; rows = take k a } ∷ events lines (drop k a)) l
    ∙ ap (λ z. record { call = x.call; lent = length b; outcome = x.outcome; rows = z } ∷ events lines (drop k a)) here
    ∙ ap (λ z. record { call = x.call; lent = length b; outcome = x.outcome; rows = take k b } ∷ z) (same_events lines (drop k a) (drop k b) there rest)

-- one line more
events_more : (lines : List Line) (x : Line) (rows : List Row) → events (lines ++ x ∷ []) rows ≡ events lines rows ++ events (x ∷ []) (drop (rows_used lines) rows)
events_more [] x rows = refl
events_more (y ∷ lines) x rows =
    let k = mends_of y.outcome in
    ap (λ z. record { call = y.call; lent = length rows; outcome = y.outcome; rows = take k rows } ∷ z)
    (events_more lines x (drop k rows) ∙ ap (λ z. events lines (drop k rows) ++ events (x ∷ []) z) (drop-drop (rows_used lines) k rows))

log_more : (lines : List Line) (x : Line) (rows : List Row) → log_of (lines ++ x ∷ []) rows ≡ rows_event x.call x.outcome (drop (rows_used lines) rows) ∷ log_of lines rows
log_more lines x rows = ap reverse (events_more lines x rows) ∙ reverse-append (events lines rows) (events (x ∷ []) (drop (rows_used lines) rows))

used_more : (lines : List Line) (x : Line) → rows_used (lines ++ x ∷ []) ≡ rows_used lines + mends_of x.outcome
used_more [] x = omega arith
used_more (y ∷ lines) x = let e = used_more lines x in omega (arith, e)

-- an outcome written in a line leaves the calls
calls_same : (lines : List Line) (i : ℕ) (d : Line) (o : Outcome) → calls_of (set lines i (record { call = (get_or lines i d).call; outcome = o })) ≡ calls_of lines
calls_same [] i d o = refl
calls_same (x ∷ lines) zero d o = refl
calls_same (x ∷ lines) (suc i) d o = ap (λ z. x.call ∷ z) (calls_same lines i d o)

module _ {S Q : Type 0} (m : structures.Meaning S) (n : queues.Meaning Q Ticket) where
  -- the first i lines are performed, from an opened board on, and have written the used rows
  pub record Way (start : Board S Q) (asked : List Line) (first : List Row) (b : Board S Q) (lines : List Line) (rows : List Row) (used i : ℕ) : Type 0 where
    pub calls : calls_of lines ≡ calls_of asked
    pub used_is : used ≡ rows_used (take i lines)
    pub written : Written used first rows
    pub happened : AllHappened m n start (log_of (take i lines) rows) b

  pub way_none : (start : Board S Q) (lines : List Line) (rows : List Row) → Way start lines rows start lines rows 0 0
  way_none start lines rows = record { calls = refl; used_is = refl; written = record { size = refl; within = omega arith; beyond = λ k d l. refl }; happened = nothing }

  pub way_more : (start : Board S Q) (asked : List Line) (first : List Row) (b b' : Board S Q) (lines : List Line) (rows new : List Row) (used i : ℕ) (d : Line) (o : Outcome) → i < length lines → Way start asked first b lines rows used i → Happened m n b (rows_event (get_or lines i d).call o new) b' → Written (mends_of o) (drop used rows) new → Way start asked first b' (set lines i (record { call = (get_or lines i d).call; outcome = o })) (take used rows ++ new) (used + mends_of o) (i + 1)
  way_more start asked first b b' lines rows new used i d o lt w h v =
      let x : Line = record { call = (get_or lines i d).call; outcome = o } in
      let done = take i lines in
      let rows' = take used rows ++ new in
      let e : take (i + 1) (set lines i x) ≡ done ++ x ∷ [] = take_more_set lines i x lt in
      let z = w.written in
      let u : length (take used rows) ≡ used = length-take-le used rows (omega (arith, z.size, z.within)) in
      let written = written_on used (mends_of o) first rows new z v in
      let same : events done rows ≡ events done rows' =
      same_events done rows rows' (subst (λ k. take k rows ≡ take k rows') w.used_is (sym (take_at (take used rows) new used u))) (z.size ∙ sym written.size) in
      let rest : drop (rows_used done) rows' ≡ new = subst (λ k. drop k rows' ≡ new) w.used_is (drop_at (take used rows) new used u) in
      let log : log_of (done ++ x ∷ []) rows' ≡ rows_event x.call o new ∷ log_of done rows =
      log_more done x rows' ∙ ap (λ y. rows_event x.call o y ∷ log_of done rows') rest ∙ ap (λ y. rows_event x.call o new ∷ reverse y) (sym same) in
      record {
        calls = calls_same lines i d o ∙ w.calls;
        used_is = ap (λ k. k + mends_of o) w.used_is ∙ sym (used_more done x) ∙ ap rows_used (sym e);
        written = written;
        happened = subst (λ y. AllHappened m n start y b') (sym (ap (λ y. log_of y rows') e ∙ log)) (next w.happened h);
      }

  -- one line more, as the loop that performs them has it
  pub way_next : (start : Board S Q) (asked : List Line) (first : List Row) (b b' : Board S Q) (lines : List Line) (rows new : List Row) (used used' i : ℕ) (d : Line) (o : Outcome) → i < length lines → Way start asked first b lines rows used i → Adds m n b (rows_event (get_or lines i d).call o new) b' → Written (mends_of o) (take (length rows - used) (drop used rows)) new → used' ≡ used + mends_of o → Way start asked first b' (set lines i (record { call = (get_or lines i d).call; outcome = o })) (put_mid used (length rows - used) rows new) used' (i + 1)
  way_next start asked first b b' lines rows new used used' i d o lt w h v e =
      let lines' = set lines i (record { call = (get_or lines i d).call; outcome = o }) in
      subst (λ k. Way start asked first b' lines' (put_mid used (length rows - used) rows new) k (i + 1)) (sym e)
      (subst (λ y. Way start asked first b' lines' y (used + mends_of o) (i + 1)) (sym (rest_written used rows new))
      (way_more start asked first b b' lines rows new used i d o lt w h.happened (subst (λ y. Written (mends_of o) y new) (take_rest rows used) v)))

  module _ (ordered : InOrder m) (leads : InFront m) where
    -- all lines are performed
    pub performed : (old start b : Board S Q) (asked lines : List Line) (first rows : List Row) (used i : ℕ) → length lines ≤ i → Opened m n old.queue start → Way start asked first b lines rows used i → Performed m n old b asked lines first rows used
    performed old start b asked lines first rows used i le o w =
        let e : take i lines ≡ lines = take_all i lines le in
        let h = subst (λ y. AllHappened m n start (log_of y rows) b) e w.happened in
        record {
          calls = w.calls;
          used_is = w.used_is ∙ ap rows_used e;
          written = w.written;
          opened = start;
          was_opened = o;
          happened = h;
          past = λ s. past_of m n old.queue start b (log_of lines rows) s o h;
          every = λ s. every_of m n (AsBooked m n) (as_booked m n ordered leads) old.queue start s o;
          booked = λ s. throughout_of m n (AsBooked m n) (as_booked m n ordered leads) old.queue start b (log_of lines rows) s o h;
        }
