use Rattle.std.proofs.Common.{◌≡◌, Ok, refl, sym, ap, ◌∙◌, w16, w32, to_z, of_z, arith}
use Rattle.std.proofs.lemmas.Int.{ints}
use Rattle.board.specs.declared.call.Call.TheVariants.{Enter, Steer}
use Rattle.board.proofs.Performing.{plain_adds}
use Rattle.board.proofs.board.Board.perform.Goals as goal

pub returns-in-Open-clause-adds : goal.returns-in-Open-clause-adds
returns-in-Open-clause-adds g c =
    let laws = g.met.S.Structure in
    plain_adds g.S.Structure.means g.Q.Queue.means laws.ordered laws.leads _ _ _ _ _ (Ok tt) c.args.rows.now c.in-Open.is refl tt c.open.ensures.adds

pub returns-in-Enter-clause-adds : goal.returns-in-Enter-clause-adds
returns-in-Enter-clause-adds g c =
    let p : to_z w32 (of_z w32 c.in-Enter.position) ≡ c.in-Enter.position = omega (arith, ints) in
    let v : to_z w16 (of_z w16 c.in-Enter.speed) ≡ c.in-Enter.speed = omega (arith, ints) in
    let laws = g.met.S.Structure in
    plain_adds g.S.Structure.means g.Q.Queue.means laws.ordered laws.leads _ _ _ _ _ c.enter.result c.args.rows.now (c.in-Enter.is ∙ ap (λ x. Enter c.in-Enter.number x c.in-Enter.speed) (sym p) ∙ ap (λ x. Enter c.in-Enter.number (to_z w32 (of_z w32 c.in-Enter.position)) x) (sym v)) c.outcome_of.ensures tt c.enter.ensures.adds

pub returns-in-Leave-clause-adds : goal.returns-in-Leave-clause-adds
returns-in-Leave-clause-adds g c =
    let laws = g.met.S.Structure in
    plain_adds g.S.Structure.means g.Q.Queue.means laws.ordered laws.leads _ _ _ _ _ c.leave.result c.args.rows.now c.in-Leave.is c.outcome_of-in-Leave.ensures tt c.leave.ensures.adds

pub returns-in-Steer-clause-adds : goal.returns-in-Steer-clause-adds
returns-in-Steer-clause-adds g c =
    let v : to_z w16 (of_z w16 c.in-Steer.speed) ≡ c.in-Steer.speed = omega (arith, ints) in
    let laws = g.met.S.Structure in
    plain_adds g.S.Structure.means g.Q.Queue.means laws.ordered laws.leads _ _ _ _ _ c.steer.result c.args.rows.now (c.in-Steer.is ∙ ap (λ x. Steer c.in-Steer.number x) (sym v)) c.outcome_of-in-Steer.ensures tt c.steer.ensures.adds
