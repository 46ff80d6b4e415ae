use Rattle.std.proofs.Common.{refl, sym, ◌∙◌, subst}
use Rattle.trace_replay.specs.Steps.{RecordDone}
use Rattle.trace_replay.proofs.Ways.{refused_done}
use Rattle.trace_replay.proofs.record.do_record.Goals as goal

pub returns-in-Refused : goal.returns-in-Refused
returns-in-Refused g c =
    let n = g.Q.Queue.means in
    subst (RecordDone n c.args.board.now c.perform.new.self c.args.rows.now c.perform.new.rows c.args.page.now c.args.page.now c.args.written _ c.args.record) (sym c.in-Some.is ∙ c.call_of.ensures)
    (refused_done n c.args.board.now c.perform.new.self c.in-Some.call c.perform.result c.in-Refused.refusal c.args.rows.now c.perform.new.rows c.args.written c.in-Refused.is c.perform.ensures.adds.happened c.perform.ensures.written, refl)
