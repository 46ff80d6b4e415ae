-- A replay's steps by the plain book, and the events that they were.
use Rattle.std.proofs.Common.{◌≡◌, ℕ, ◌+◌, ◌<◌, ◌≤◌, true, false, List, [], ◌∷◌, ◌++◌, length, take, Some, None, Err, Option, Result, nat_le, sym, refl, ap, ◌∙◌, subst, arith}
use Rattle.std.proofs.lemmas.Bool.Decides.{nat_tests}
use Rattle.event_queue.specs.Queues as queues
use Rattle.fairway.specs.Stamps.{time_of}
use Rattle.fairway.specs.StampsLemmas.{proper}
use Rattle.sorted_list.specs.Questions.{means, courses_of}
use Rattle.sorted_list.specs.declared.list.SortedList.{SortedList}
use Rattle.lines.specs.Lines.{order_line, from_front}
use Rattle.trace.specs.Walks.{Step}
use Rattle.trace.specs.declared.records.Record.{Record}
use Rattle.board.specs.Boards.{refusal}
use Rattle.board.specs.Books.{Book, Log, book, mends_of}
use Rattle.board.specs.Claims.{AsListed}
use Rattle.board.specs.History.{Past, AllHappened}
use Rattle.board.specs.History.AllHappened.{next}
use Rattle.board.specs.History.Past.{then}
use Rattle.board.specs.Outcomes.{rows_event}
use Rattle.board.specs.Reckoning.{refusal_by_book}
use Rattle.board.specs.Tickets.{Ticket}
use Rattle.board.specs.declared.board.Board.{Board}
use Rattle.board.specs.declared.call.Call.{Call}
use Rattle.board.specs.declared.call.Outcome.TheVariants.{Accepted}
use Rattle.board.specs.declared.refusal.Refusal.{Refusal}
use Rattle.board.proofs.Claims.{as_listed, by_insertion, capacity_kept}
use Rattle.board.proofs.Pasts.{right_of}
use Rattle.trace_replay.specs.ByBook.{Later, told, told_call, told_line, told_record, told_steps, line_by_book, stopped}
use Rattle.trace_replay.specs.Replays.{Midway, Leads, line_of}
use Rattle.trace_replay.specs.Replays.Leads.{over, end, call, line, refused, full, fault}
use Rattle.trace_replay.specs.declared.fault.Cause.TheVariants as cause
use Rattle.trace_replay.specs.declared.fault.Fault.{Fault}

module _ {Q : Type 0} (n : queues.Meaning Q Ticket) where
  -- the board's line is the book's
  lines_agree : (b : Board SortedList Q) (log : Log) → AsListed n b log → line_of b ≡ line_by_book (book log)
  lines_agree b log a =
      ap (λ c. order_line c (from_front (courses_of b.structure))) a.booked.clock
      ∙ ap (λ xs. order_line (book log).clock (from_front xs)) (by_insertion (time_of (book log).clock) (proper (book log).clock) (book log).roster (courses_of b.structure) a.booked.apart a.in_order)

  module _ (size capacity lent : ℕ) where
    refused_alike : (b : Board SortedList Q) (log : Log) (c : Call) (l : ℕ) (r : Option Refusal) → Past means n b log → n.capacity b.queue ≡ capacity → l ≡ lent → refusal means n b c l ≡ r → refusal_by_book capacity lent (book log) c ≡ r
    refused_alike b log c l r p cap rows h =
        ap (λ z. refusal_by_book z lent (book log) c) (sym cap) ∙ ap (λ z. refusal_by_book (n.capacity b.queue) z (book log) c) (sym rows) ∙ sym ((as_listed n b log p).refusals c l) ∙ h

    told_by : (later : Later) (k : Book) (output : List ℕ) (place : ℕ) (x : Record) (o : Option Call) (c : Call) (r : Option Refusal) → o ≡ Some c → refusal_by_book capacity lent k c ≡ r → told_record capacity lent size later k output place x o ≡ told_call later k output place c r
    told_by later k output place x o c r e h = rw (e, h) refl

    pub by_book : (s s' : Midway Q) (steps : List Step) (answer : Result ℕ Fault) → Leads n size s steps s' answer → Past means n s.board s.log → n.capacity s.board.queue ≡ capacity → length s.rows ≡ lent → told s'.output answer ≡ told_steps capacity lent size steps (book s.log) s.output
    by_book s s' [] answer over p cap rows = refl
    by_book s s' (x ∷ steps) answer (end w) p cap rows = by_book s s' steps answer w p cap rows
    by_book s s' (x ∷ steps) answer (call {b = b} {rows = rows'} {place = place} {record' = y} c mends e h written w) p cap rows =
        let l : length rows' ≡ lent = written.size ∙ rows in
        by_book (record { board = b; log = rows_event c (Accepted mends) rows' ∷ s.log; rows = rows'; output = s.output }) s' steps answer w (then p h) (capacity_kept n s.board b c (length rows') (Accepted mends) (take (mends_of (Accepted mends)) rows') (right_of means n s.board s.log p) h ∙ cap) l
        ∙ sym (told_by (told_steps capacity lent size steps) (book s.log) s.output place y _ c None e (refused_alike s.board s.log c (length rows') None p cap l h.0))
    by_book s s' (x ∷ steps) answer (line {place = place} fits w) p cap rows =
        let a = lines_agree s.board s.log (as_listed n s.board s.log p) in
        by_book (record { board = s.board; log = s.log; rows = s.rows; output = s.output ++ line_of s.board }) s' steps answer w p cap rows ∙ fitted (told_steps capacity lent size steps) (book s.log) s.output place (line_of s.board) (line_by_book (book s.log)) a fits
      where
        fitted : (later : Later) (k : Book) (output : List ℕ) (place : ℕ) (l l' : List ℕ) → l ≡ l' → length output + length l ≤ size → later k (output ++ l) ≡ told_line later k output place l' (nat_le (length output + length l') size)
        fitted later k output place l l' e h = let t = at_most (length output + length l') size (subst (λ z. length output + length z ≤ size) e h) in rw (t, ← e) refl
          where
            at_most : (x y : ℕ) → x ≤ y → nat_le x y ≡ true
            at_most x y h = grind (arith, nat_tests)
    by_book s s' (x ∷ steps) answer (refused {place = place} {record' = y} c r e h) p cap rows =
        sym (told_by (told_steps capacity lent size steps) (book s.log) s.output place y _ c (Some r) e (refused_alike s.board s.log c (length s.rows) (Some r) p cap rows h.0))
    by_book s s' (x ∷ steps) answer (full {place = place} more) p cap rows =
        let a = lines_agree s.board s.log (as_listed n s.board s.log p) in
        unfitted (told_steps capacity lent size steps) (book s.log) s.output place (line_of s.board) (line_by_book (book s.log)) a more
      where
        unfitted : (later : Later) (k : Book) (output : List ℕ) (place : ℕ) (l l' : List ℕ) → l ≡ l' → size < length output + length l → told output (Err (stopped cause.NoRoom (length output) place)) ≡ told_line later k output place l' (nat_le (length output + length l') size)
        unfitted later k output place l l' e h = let t = above (length output + length l') size (subst (λ z. size < length output + length z) e h) in rw t refl
          where
            above : (x y : ℕ) → y < x → nat_le x y ≡ false
            above x y h = grind (arith, nat_tests)
    by_book s s' (x ∷ steps) answer fault p cap rows = refl

  -- the events of the steps
  pub events : (size : ℕ) (a : Board SortedList Q) (s s' : Midway Q) (steps : List Step) (answer : Result ℕ Fault) → Leads n size s steps s' answer → AllHappened means n a s.log s.board → AllHappened means n a s'.log s'.board
  events size a s s' [] answer over w = w
  events size a s s' (x ∷ steps) answer (end l) w = events size a s s' steps answer l w
  events size a s s' (x ∷ steps) answer (call {b = b} {rows = rows} c mends e h written l) w = events size a (record { board = b; log = rows_event c (Accepted mends) rows ∷ s.log; rows = rows; output = s.output }) s' steps answer l (next w h)
  events size a s s' (x ∷ steps) answer (line fits l) w = events size a (record { board = s.board; log = s.log; rows = s.rows; output = s.output ++ line_of s.board }) s' steps answer l w
  events size a s s' (x ∷ steps) answer (refused c r e h) w = next w h
  events size a s s' (x ∷ steps) answer (full more) w = w
  events size a s s' (x ∷ steps) answer fault w = w
