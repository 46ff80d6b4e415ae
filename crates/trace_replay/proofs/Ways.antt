-- A replay on its way through the steps of a walk.
use Rattle.std.proofs.Common.{◌≡◌, ℕ, zero, suc, length-append, ◌+◌, ◌<◌, ◌≤◌, List, [], ◌∷◌, ◌++◌, length, take, drop, slice_get, is_ok, Some, None, Ok, Err, Option, Result, sym, refl, ap, ◌∙◌, subst, arith}
use Rattle.std.proofs.lemmas.Grind.{common_steps}
use Rattle.std.proofs.lemmas.Bool.{false≢true}
use Rattle.std.proofs.lemmas.List.{ext_get_or, length-drop, append_assoc}
use Rattle.std.proofs.Math.ListN.{drop_of_length-le}
use Rattle.std.proofs.Math.Seq.{take-append_seam, drop-append-add}
use Rattle.event_queue.specs.Queues as queues
use Rattle.event_queue.proofs.Options.{none_some}
use Rattle.sorted_list.specs.Questions.{means}
use Rattle.sorted_list.specs.declared.list.SortedList.{SortedList}
use Rattle.trace.specs.Walks.{Step}
use Rattle.trace.specs.declared.fault.Stop.{Stop}
use Rattle.trace.specs.declared.records.Record.{Record}
use Rattle.trace.specs.declared.records.Record.TheVariants.{Enter, Leave, Steer, Advance, Order, End}
use Rattle.board.specs.Books.{Log, mends_of}
use Rattle.board.specs.Outcomes.{Happened, rows_event}
use Rattle.board.specs.Passings.{Written}
use Rattle.board.specs.Tickets.{Ticket}
use Rattle.board.specs.declared.board.Board.{Board}
use Rattle.board.specs.declared.call.Call.{Call}
use Rattle.board.specs.declared.call.Outcome.{Outcome}
use Rattle.board.specs.declared.call.Outcome.TheVariants.{Accepted, Refused}
use Rattle.board.specs.declared.call.Row.{Row}
use Rattle.board.specs.declared.refusal.Refusal.{Refusal}
use Rattle.trace_replay.specs.ByBook.{stopped}
use Rattle.trace_replay.specs.Calls.{call_of}
use Rattle.trace_replay.specs.Replays.{Midway, Leads, line_of}
use Rattle.trace_replay.specs.Replays.Leads.{over, end, call, line, refused, full, fault}
use Rattle.trace_replay.specs.Steps.{CallDone, RecordDone, StepDone}
use Rattle.trace_replay.specs.declared.fault.Cause.{Cause}
use Rattle.trace_replay.specs.declared.fault.Cause.TheVariants as cause
use Rattle.trace_replay.specs.declared.fault.Fault.{Fault}

-- ---- rows that a refused call leaves
blank : Row
blank = record { at = record { seconds = 0; numerator = 0; denominator_less_one = 0 }; rear = 0; front = 0 }

same_rows : (rows rows' : List Row) → Written 0 rows rows' → rows' ≡ rows
same_rows rows rows' w = ext_get_or blank rows' rows w.size (λ k h. w.beyond k blank (omega arith))

pub refused_done : {Q : Type 0} (n : queues.Meaning Q Ticket) (b b' : Board SortedList Q) (c : Call) (o : Outcome) (r : Refusal) (rows rows' : List Row) (written : ℕ) → o ≡ Refused r → Happened means n b (rows_event c o rows') b' → Written (mends_of o) rows rows' → CallDone n b b' c rows rows' written (Err cause.Refused)
refused_done n b b' c o r rows rows' written e h w =
    let h' = subst (λ o. Happened means n b (rows_event c o rows') b') e h in
    let same = same_rows rows rows' (subst (λ o. Written (mends_of o) rows rows') e w) in
    (refl, h'.1, same, r, subst (λ z. Happened means n b (rows_event c (Refused r) z) b) same (h'.0, refl))

-- ---- answers
ok_same : {w w' : ℕ} → ◌≡◌ {A = Result ℕ Cause} (Ok w) (Ok w') → w ≡ w'
ok_same {w} e = ap (value w) e
  where
    value : ℕ → Result ℕ Cause → ℕ
    value d (Ok k) = k
    value d (Err k) = d

err_ok : {e : Cause} {w : ℕ} → ◌≡◌ {A = Result ℕ Cause} (Err e) (Ok w) → ⊥
err_ok h = false≢true (ap is_ok h)

ok_err : {w : ℕ} {f : Fault} → ◌≡◌ {A = Result ℕ Fault} (Ok w) (Err f) → ⊥
ok_err h = false≢true (sym (ap is_ok h))

-- ---- the steps that are left
pub first_step : {X : Type 0} (xs : List X) (x : X) → slice_get xs 0 ≡ Some x → xs ≡ x ∷ drop 1 xs
first_step xs x e = grind (arith, common_steps)

pub no_step : {X : Type 0} (xs : List X) → slice_get xs 0 ≡ None → xs ≡ []
no_step [] e = refl
no_step (x ∷ xs) e = absurd (none_some (sym e))

-- ---- bytes behind those that are written
page_long : (output page page' : List ℕ) → page' ≡ output ++ drop (length output) page → length output ≤ length page → length page' ≡ length page
page_long output page page' e f = ap length e ∙ length-append output (drop (length output) page) ∙ (let d = length-drop (length output) page in omega (arith, d, f))

drop_drop : {A : Type 0} (i j : ℕ) (xs : List A) → drop j (drop i xs) ≡ drop (i + j) xs
drop_drop zero j xs = ap (λ k. drop k xs) (omega arith)
drop_drop (suc i) j [] = drop_of_length-le [] (omega arith) ∙ sym (drop_of_length-le [] (omega arith))
drop_drop (suc i) j (x ∷ xs) = drop_drop i j xs ∙ ap (λ k. drop k (x ∷ xs)) {x = suc (i + j)} (omega arith)

page_more : (output text page page' page'' : List ℕ) (w : ℕ) → page' ≡ output ++ drop (length output) page → w ≡ length output + length text → page'' ≡ take (length output) page' ++ (text ++ drop w page') → page'' ≡ (output ++ text) ++ drop (length (output ++ text)) page
page_more output text page page' page'' w e h p =
    let front : take (length output) page' ≡ output = ap (take (length output)) e ∙ take-append_seam output (drop (length output) page) in
    let rest : drop w page' ≡ drop (length (output ++ text)) page =
    ap (λ z. drop z page') h ∙ ap (drop (length output + length text)) e ∙ drop-append-add output (drop (length output) page) (length text) ∙ drop_drop (length output) (length text) page ∙ ap (λ z. drop z page) (sym (length-append output text)) in
    p ∙ ap (λ z. z ++ (text ++ drop w page')) front ∙ ap (λ z. output ++ (text ++ z)) rest ∙ sym (append_assoc output text (drop (length (output ++ text)) page))

module _ {Q : Type 0} (n : queues.Meaning Q Ticket) (size : ℕ) where
  -- the steps from the start led here, and so what the steps that are left lead to, they all lead to
  pub record Way (start : Midway Q) (steps : List Step) (page : List ℕ) (b : Board SortedList Q) (rows : List Row) (page' : List ℕ) (written : ℕ) (left : List Step) : Type 0 where
    pub log : Log
    pub output : List ℕ
    pub leads : (last : Midway Q) (answer : Result ℕ Fault) → Leads n size (record { board = b; log = log; rows = rows; output = output }) left last answer → Leads n size start steps last answer
    pub written_is : written ≡ length output
    pub fits : length output ≤ length page
    pub page_is : page' ≡ output ++ drop (length output) page

  -- the end of a replay
  pub record Ended (start : Midway Q) (steps : List Step) (page : List ℕ) (b : Board SortedList Q) (rows : List Row) (page' : List ℕ) (answer : Result ℕ Fault) : Type 0 where
    pub last : Midway Q
    pub leads : Leads n size start steps last answer
    pub board : b ≡ last.board
    pub rows_are : rows ≡ last.rows
    pub page_is : page' ≡ last.output ++ drop (length last.output) page

  pub way_begun : (b : Board SortedList Q) (rows : List Row) (page : List ℕ) (steps : List Step) → Way (record { board = b; log = []; rows = rows; output = [] }) steps page b rows page 0 steps
  way_begun b rows page steps = record { log = []; output = []; leads = λ last answer l. l; written_is = refl; fits = omega arith; page_is = refl }

  module _ (start : Midway Q) (steps : List Step) (page : List ℕ) (long : length page ≡ size) where
    pub ended_over : (b : Board SortedList Q) (rows : List Row) (page' : List ℕ) (written : ℕ) → Way start steps page b rows page' written [] → Ended start steps page b rows page' (Ok written)
    ended_over b rows page' written w =
        record {
          last = record { board = b; log = w.log; rows = rows; output = w.output };
          leads = subst (λ k. Leads n size start steps (record { board = b; log = w.log; rows = rows; output = w.output }) (Ok k)) (sym w.written_is) (w.leads _ _ over);
          board = refl;
          rows_are = refl;
          page_is = w.page_is;
        }

    pub ended_fault : (b : Board SortedList Q) (rows : List Row) (page' : List ℕ) (written : ℕ) (stop : Stop) (left : List Step) → Way start steps page b rows page' written (Err stop ∷ left) → Ended start steps page b rows page' (Err (stopped (cause.Trace stop.fault) written stop.place))
    ended_fault b rows page' written stop left w =
        record {
          last = record { board = b; log = w.log; rows = rows; output = w.output };
          leads = subst (λ k. Leads n size start steps (record { board = b; log = w.log; rows = rows; output = w.output }) (Err (stopped (cause.Trace stop.fault) k stop.place))) (sym w.written_is) (w.leads _ _ fault);
          board = refl;
          rows_are = refl;
          page_is = w.page_is;
        }

    -- a record that is done
    pub way_more : (b b' : Board SortedList Q) (rows rows' : List Row) (page' page'' : List ℕ) (written w : ℕ) (place : ℕ) (x : Record) (o : Option Call) (left : List Step) → call_of x ≡ o →
        Way start steps page b rows page' written (Ok (place, x) ∷ left) → RecordDone n b b' rows rows' page' page'' written (Ok w) x o → Way start steps page b' rows' page'' w left
    way_more b b' rows rows' page' page'' written w place x (Some c) left e y d =
        let z = d.0 in
        record {
          log = rows_event c (Accepted z.1) rows' ∷ y.log;
          output = y.output;
          leads = λ last answer l. y.leads last answer (call c z.1 e z.2 z.3 l);
          written_is = z.0 ∙ y.written_is;
          fits = y.fits;
          page_is = d.1 ∙ y.page_is;
        }
    way_more b b' rows rows' page' page'' written w place Order None left e y d =
        let z = d.0 in
        let k : w ≡ length y.output + length (line_of b) = z.0 ∙ ap (λ j. j + length (line_of b)) y.written_is in
        let l = page_long y.output page page' y.page_is y.fits in
        let f = z.1 in
        let fits' : length y.output + length (line_of b) ≤ length page = omega (arith, f, k, l) in
        let long' : length (y.output ++ line_of b) ≡ length y.output + length (line_of b) = length-append y.output (line_of b) in
        let way : Way start steps page b rows page'' w left = record {
          log = y.log;
          output = y.output ++ line_of b;
          leads = λ last answer l. y.leads last answer (line (subst (λ j. length y.output + length (line_of b) ≤ j) long fits') l);
          written_is = k ∙ sym long';
          fits = omega (arith, fits', long');
          page_is = page_more y.output (line_of b) page page' page'' w y.page_is k (z.2 ∙ ap (λ j. take j page' ++ (line_of b ++ drop w page')) y.written_is);
        } in
        subst (λ r. Way start steps page b' r page'' w left) (sym d.2) (subst (λ x. Way start steps page x rows page'' w left) (sym d.1) way)
    way_more b b' rows rows' page' page'' written w place End None left e y d =
        let way : Way start steps page b rows page' written left = record {
          log = y.log;
          output = y.output;
          leads = λ last answer l. y.leads last answer (end l);
          written_is = y.written_is;
          fits = y.fits;
          page_is = y.page_is;
        } in
        subst (λ r. Way start steps page b' r page'' w left) (sym d.2) (subst (λ x. Way start steps page x rows page'' w left) (sym d.1)
        (subst (λ p. Way start steps page b rows p w left) (sym d.3) (subst (λ j. Way start steps page b rows page' j left) (sym (ok_same d.0)) way)))
    way_more b b' rows rows' page' page'' written w place (Enter v p s) None left e y d = absurd (none_some (sym e))
    way_more b b' rows rows' page' page'' written w place (Leave v) None left e y d = absurd (none_some (sym e))
    way_more b b' rows rows' page' page'' written w place (Steer v s) None left e y d = absurd (none_some (sym e))
    way_more b b' rows rows' page' page'' written w place (Advance s a c) None left e y d = absurd (none_some (sym e))

    -- a record that is not
    pub ended_record : (b b' : Board SortedList Q) (rows rows' : List Row) (page' page'' : List ℕ) (written : ℕ) (why : Cause) (place : ℕ) (x : Record) (o : Option Call) (left : List Step) → call_of x ≡ o →
        Way start steps page b rows page' written (Ok (place, x) ∷ left) → RecordDone n b b' rows rows' page' page'' written (Err why) x o → Ended start steps page b' rows' page'' (Err (stopped why written place))
    ended_record b b' rows rows' page' page'' written why place x (Some c) left e y d =
        let z = d.0 in
        let last : Midway Q = record { board = b; log = rows_event c (Refused z.3) rows ∷ y.log; rows = rows; output = y.output } in
        record {
          last = last;
          leads = subst (λ k. Leads n size start steps last (Err (stopped k written place))) (sym z.0)
              (subst (λ k. Leads n size start steps last (Err (stopped cause.Refused k place))) (sym y.written_is) (y.leads last (Err (stopped cause.Refused (length y.output) place)) (refused c z.3 e z.4)));
          board = z.1;
          rows_are = z.2;
          page_is = d.1 ∙ y.page_is;
        }
    ended_record b b' rows rows' page' page'' written why place Order None left e y d =
        let z = d.0 in
        let last : Midway Q = record { board = b; log = y.log; rows = rows; output = y.output } in
        let l = page_long y.output page page' y.page_is y.fits in
        let f = z.1 in
        let k = y.written_is in
        let more : size < length y.output + length (line_of b) = omega (arith, f, k, l, long) in
        record {
          last = last;
          leads = subst (λ k. Leads n size start steps last (Err (stopped k written place))) (sym z.0)
              (subst (λ k. Leads n size start steps last (Err (stopped cause.NoRoom k place))) (sym y.written_is) (y.leads last (Err (stopped cause.NoRoom (length y.output) place)) (full more)));
          board = d.1;
          rows_are = d.2;
          page_is = z.2 ∙ y.page_is;
        }
    ended_record b b' rows rows' page' page'' written why place End None left e y d = absurd (err_ok d.0)
    ended_record b b' rows rows' page' page'' written why place (Enter v p s) None left e y d = absurd (none_some (sym e))
    ended_record b b' rows rows' page' page'' written why place (Leave v) None left e y d = absurd (none_some (sym e))
    ended_record b b' rows rows' page' page'' written why place (Steer v s) None left e y d = absurd (none_some (sym e))
    ended_record b b' rows rows' page' page'' written why place (Advance s a c) None left e y d = absurd (none_some (sym e))

    -- a step
    pub way_step : (b b' : Board SortedList Q) (rows rows' : List Row) (page' page'' : List ℕ) (written w : ℕ) (step : Step) (left : List Step) →
        Way start steps page b rows page' written (step ∷ left) → StepDone n b b' rows rows' page' page'' written (Ok w) step → Way start steps page b' rows' page'' w left
    way_step b b' rows rows' page' page'' written w (Ok (place, x)) left y d = way_more b b' rows rows' page' page'' written w place x (call_of x) left refl y d
    way_step b b' rows rows' page' page'' written w (Err stop) left y d = absurd (ok_err d.0)

    pub ended_step : (b b' : Board SortedList Q) (rows rows' : List Row) (page' page'' : List ℕ) (written : ℕ) (f : Fault) (step : Step) (left : List Step) →
        Way start steps page b rows page' written (step ∷ left) → StepDone n b b' rows rows' page' page'' written (Err f) step → Ended start steps page b' rows' page'' (Err f)
    ended_step b b' rows rows' page' page'' written f (Ok (place, x)) left y d =
        subst (λ z. Ended start steps page b' rows' page'' (Err z)) (sym d.1) (ended_record b b' rows rows' page' page'' written d.0 place x (call_of x) left refl y d.2)
    ended_step b b' rows rows' page' page'' written f (Err stop) left y d =
        let e = ended_fault b rows page' written stop left y in
        subst (λ z. Ended start steps page b' rows' page'' z) (sym d.0) (record { last = e.last; leads = e.leads; board = d.1 ∙ e.board; rows_are = d.2 ∙ e.rows_are; page_is = d.3 ∙ e.page_is })
