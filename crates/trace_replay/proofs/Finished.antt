-- A replay that has ended, from the bytes of its trace on.
use Rattle.std.proofs.Common.{◌≡◌, ℕ, List, [], ◌++◌, length, drop, Ok, Err, Result, MatchResult, is_ok, sym, refl, ap, ◌∙◌, subst}
use Rattle.std.proofs.lemmas.Bool.{false≢true}
use Rattle.std.specs.Result.{IsErrAnd}
use Rattle.event_queue.specs.Queues as queues
use Rattle.sorted_list.specs.Questions.{means}
use Rattle.sorted_list.specs.declared.list.SortedList.{SortedList}
use Rattle.trace.specs.Layout.{read_header}
use Rattle.trace.specs.Walks.{Step, begun, walk, walk_at}
use Rattle.trace.specs.declared.fault.Fault.{Fault as TraceFault}
use Rattle.trace.specs.declared.fault.Stop.{Stop}
use Rattle.board.specs.Books.{start}
use Rattle.board.specs.Claims.{AsListed}
use Rattle.board.specs.History.{Past}
use Rattle.board.specs.History.AllHappened.{nothing}
use Rattle.board.specs.History.Past.{opened}
use Rattle.board.specs.Outcomes.{Opened}
use Rattle.board.specs.Tickets.{Ticket}
use Rattle.board.specs.declared.board.Board.{Board}
use Rattle.board.specs.declared.call.Row.{Row}
use Rattle.board.proofs.Claims.{as_listed}
use Rattle.board.proofs.Throughout.{past_of, throughout_of}
use Rattle.trace_replay.specs.ByBook.{Tells, told_steps, told_trace}
use Rattle.trace_replay.specs.Replays.{Leads, Replays}
use Rattle.trace_replay.specs.declared.fault.Fault.{Fault}
use Rattle.trace_replay.proofs.Booked.{by_book, events}
use Rattle.trace_replay.proofs.Ways.{Ended}

steps_are : {steps : List Step} (bytes : List ℕ) → begun (Ok bytes) ≡ Ok steps → walk_at 5 bytes ≡ steps
steps_are bytes e = ap value e
  where
    value : Result (List Step) Stop → List Step
    value (Ok steps) = steps
    value (Err stop) = []

not_begun : {steps : List Step} (e : TraceFault) → begun (Err e) ≡ Ok steps → ⊥
not_begun e h = false≢true (ap is_ok h)

-- what is known of a result that is Ok holds of what was taken out of it
pub of_ok : {X E : Type 0} (F : Type 0) {x : X} (r : Result X E) (P : X → Type 0) (R : E → Type 0) → MatchResult r (λ y. ◌≡◌ {A = Result X F} (Ok x) (Ok y)) (λ e. ⊥) → MatchResult r P R → P x
of_ok F {x = x} (Ok y) P R e h = subst P (sym (ap (value {F = F} x) e)) h
  where
    value : {X F : Type 0} → X → Result X F → X
    value d (Ok z) = z
    value d (Err z) = d
of_ok F (Err z) P R e h = absurd e

-- an error that is handed on
pub handed_on : {X E : Type 0} {f : E} (r : Result X E) → IsErrAnd r (λ e. e ≡ f) → r ≡ Err f
handed_on (Err e) h = ap Err h
handed_on (Ok x) h = absurd h

module _ {Q : Type 0} (n : queues.Meaning Q Ticket) (trace : List ℕ) (b open' b' : Board SortedList Q) (rows rows' : List Row) (page page' : List ℕ) (answer : Result ℕ Fault) (steps : List Step)
    (was : Opened means n b.queue open') (e : Ended n (length page) (record { board = open'; log = []; rows = rows; output = [] }) steps page b' rows' page' answer) where
  finish : (header : Result (List ℕ) TraceFault) → begun header ≡ Ok steps → Replays n (length page) header b b' rows rows' page page' answer
  finish (Err f) h = absurd (not_begun f h)
  finish (Ok bytes) h =
      let happened = events n (length page) open' (record { board = open'; log = []; rows = rows; output = [] }) e.last steps answer e.leads nothing in
      record {
        opened = open';
        was_opened = was;
        last = e.last;
        leads = subst (λ s. Leads n (length page) (record { board = open'; log = []; rows = rows; output = [] }) s e.last answer) (sym (steps_are bytes h)) e.leads;
        board = e.board;
        rows_are = e.rows_are;
        page_is = e.page_is;
        past = λ s. subst (λ z. Past means n z e.last.log) (sym e.board) (past_of means n b.queue open' e.last.board e.last.log s was happened);
        happened = happened;
        listed = λ s. throughout_of means n (AsListed n) (as_listed n) b.queue open' e.last.board e.last.log s was happened;
      }

  pub replays : begun (read_header trace) ≡ Ok steps → Replays n (length page) (read_header trace) b b' rows rows' page page' answer
  replays h = finish (read_header trace) h

  pub booked : walk trace ≡ steps → n.sound b.queue → Tells (told_trace (n.capacity b.queue) (length rows) (length page) trace) page page' answer
  booked w s =
      let t = by_book n (length page) (n.capacity b.queue) (length rows) (record { board = open'; log = []; rows = rows; output = [] }) e.last steps answer e.leads (opened s was) (was.queue.capacity s) refl in
      let all = t ∙ ap (λ z. told_steps (n.capacity b.queue) (length rows) (length page) z start []) (sym w) in
      record { answer_is = ap (λ z. z.answer) all; page_is = e.page_is ∙ ap (λ z. z.output ++ drop (length z.output) page) all }
