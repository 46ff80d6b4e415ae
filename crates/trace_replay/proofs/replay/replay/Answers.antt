use Rattle.std.proofs.Common.{◌≡◌, [], ◌∷◌, Ok, Err, length, refl, sym, ap, ◌∙◌, subst}
use Rattle.trace.specs.Layout.{read_header}
use Rattle.trace.specs.Walks.{begun, walk}
use Rattle.trace_replay.proofs.Finished.{of_ok, handed_on, replays, booked}
use Rattle.trace_replay.proofs.Ways.{Way, way_begun, way_step, ended_over, ended_step, first_step, no_step}
use Rattle.trace_replay.specs.Replays.{Midway, Replays}
use Rattle.trace_replay.specs.ByBook.{Tells, told_trace}
use Rattle.trace_replay.specs.Steps.{StepDone}
use Rattle.trace_replay.proofs.replay.replay.Goals as goal

pub loop-step-init : goal.loop-step-init
loop-step-init g c = way_begun g.Q.Queue.means (length c.args.page.now) c.open.new.self c.args.rows.now c.args.page.now c.in_ok-reader.reader

pub loop-step-preserved : goal.loop-step-preserved
loop-step-preserved g c =
    let n = g.Q.Queue.means in
    let size = length c.args.page.now in
    let start : Midway g.row.Q.Denot = record { board = c.open.new.self; log = []; rows = c.args.rows.now; output = [] } in
    let x = c.loop-step in
    let left = first_step x.reader c.in-Some.step (sym c.next.ensures.answer ∙ c.in-Some.is) ∙ ap (λ z. c.in-Some.step ∷ z) (sym c.next.ensures.left) in
    way_step n size start c.in_ok-reader.reader c.args.page.now refl x.board c.make_step.new.board x.rows c.make_step.new.rows x.page c.make_step.new.page x.written c.in_ok-written.written c.in-Some.step c.next.new.self
    (subst (Way n size start c.in_ok-reader.reader c.args.page.now x.board x.rows x.page x.written) left x.invariant)
    (subst (λ r. StepDone n x.board c.make_step.new.board x.rows c.make_step.new.rows x.page c.make_step.new.page x.written r c.in-Some.step) c.in_ok-written.was c.make_step.ensures)

pub returns-clause-replays : goal.returns-clause-replays
returns-clause-replays g c =
    let n = g.Q.Queue.means in
    let size = length c.args.page.now in
    let start : Midway g.row.Q.Denot = record { board = c.open.new.self; log = []; rows = c.args.rows.now; output = [] } in
    let x = c.loop-step in
    let left = no_step x.reader (sym c.next.ensures.answer ∙ c.in_default.is) in
    replays n c.args.trace.now c.args.board.now c.open.new.self x.board c.args.rows.now x.rows c.args.page.now x.page (Ok x.written) c.in_ok-reader.reader c.open.ensures.adds.happened.1.1
    (ended_over n size start c.in_ok-reader.reader c.args.page.now refl x.board x.rows x.page x.written (subst (Way n size start c.in_ok-reader.reader c.args.page.now x.board x.rows x.page x.written) left x.invariant))
    (of_ok _ c.new.result (λ steps. begun (read_header c.args.trace.now) ≡ Ok steps) _ c.in_ok-reader.ensures.cases c.new.ensures.begun)

pub returns-clause-by_book : goal.returns-clause-by_book
returns-clause-by_book g c =
    let n = g.Q.Queue.means in
    let size = length c.args.page.now in
    let start : Midway g.row.Q.Denot = record { board = c.open.new.self; log = []; rows = c.args.rows.now; output = [] } in
    let x = c.loop-step in
    let left = no_step x.reader (sym c.next.ensures.answer ∙ c.in_default.is) in
    booked n c.args.trace.now c.args.board.now c.open.new.self x.board c.args.rows.now x.rows c.args.page.now x.page (Ok x.written) c.in_ok-reader.reader c.open.ensures.adds.happened.1.1
    (ended_over n size start c.in_ok-reader.reader c.args.page.now refl x.board x.rows x.page x.written (subst (Way n size start c.in_ok-reader.reader c.args.page.now x.board x.rows x.page x.written) left x.invariant))
    (of_ok _ c.new.result (λ steps. walk c.args.trace.now ≡ steps) _ c.in_ok-reader.ensures.cases c.new.ensures.walk)

pub returns-in_err-written-clause-replays : goal.returns-in_err-written-clause-replays
returns-in_err-written-clause-replays g c =
    let n = g.Q.Queue.means in
    let size = length c.args.page.now in
    let start : Midway g.row.Q.Denot = record { board = c.open.new.self; log = []; rows = c.args.rows.now; output = [] } in
    let x = c.loop-step in
    let left = first_step x.reader c.in-Some.step (sym c.next.ensures.answer ∙ c.in-Some.is) in
    let done = subst (λ r. StepDone n x.board c.make_step.new.board x.rows c.make_step.new.rows x.page c.make_step.new.page x.written r c.in-Some.step) c.in_err-written.was c.make_step.ensures in
    subst (Replays n size (read_header c.args.trace.now) c.args.board.now c.make_step.new.board c.args.rows.now c.make_step.new.rows c.args.page.now c.make_step.new.page) (sym (handed_on c.from_residual-in_err-written.result c.from_residual-in_err-written.ensures.1))
    (replays n c.args.trace.now c.args.board.now c.open.new.self c.make_step.new.board c.args.rows.now c.make_step.new.rows c.args.page.now c.make_step.new.page (Err c.in_err-written.field-0.0) c.in_ok-reader.reader c.open.ensures.adds.happened.1.1
    (ended_step n size start c.in_ok-reader.reader c.args.page.now refl x.board c.make_step.new.board x.rows c.make_step.new.rows x.page c.make_step.new.page x.written c.in_err-written.field-0.0 c.in-Some.step _
    (subst (Way n size start c.in_ok-reader.reader c.args.page.now x.board x.rows x.page x.written) left x.invariant) done)
    (of_ok _ c.new.result (λ steps. begun (read_header c.args.trace.now) ≡ Ok steps) _ c.in_ok-reader.ensures.cases c.new.ensures.begun))

pub returns-in_err-written-clause-by_book : goal.returns-in_err-written-clause-by_book
returns-in_err-written-clause-by_book g c =
    let n = g.Q.Queue.means in
    let size = length c.args.page.now in
    let start : Midway g.row.Q.Denot = record { board = c.open.new.self; log = []; rows = c.args.rows.now; output = [] } in
    let x = c.loop-step in
    let left = first_step x.reader c.in-Some.step (sym c.next.ensures.answer ∙ c.in-Some.is) in
    let done = subst (λ r. StepDone n x.board c.make_step.new.board x.rows c.make_step.new.rows x.page c.make_step.new.page x.written r c.in-Some.step) c.in_err-written.was c.make_step.ensures in
    λ s.
    subst (Tells (told_trace (n.capacity c.args.board.now.queue) (length c.args.rows.now) size c.args.trace.now) c.args.page.now c.make_step.new.page) (sym (handed_on c.from_residual-in_err-written.result c.from_residual-in_err-written.ensures.1))
    (booked n c.args.trace.now c.args.board.now c.open.new.self c.make_step.new.board c.args.rows.now c.make_step.new.rows c.args.page.now c.make_step.new.page (Err c.in_err-written.field-0.0) c.in_ok-reader.reader c.open.ensures.adds.happened.1.1
    (ended_step n size start c.in_ok-reader.reader c.args.page.now refl x.board c.make_step.new.board x.rows c.make_step.new.rows x.page c.make_step.new.page x.written c.in_err-written.field-0.0 c.in-Some.step _
    (subst (Way n size start c.in_ok-reader.reader c.args.page.now x.board x.rows x.page x.written) left x.invariant) done)
    (of_ok _ c.new.result (λ steps. walk c.args.trace.now ≡ steps) _ c.in_ok-reader.ensures.cases c.new.ensures.walk) s)
