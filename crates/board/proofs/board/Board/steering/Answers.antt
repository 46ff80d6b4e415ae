use Rattle.std.proofs.Common.{◌≤◌, sym, ◌∙◌, subst}
use Rattle.board.proofs.board.Board.steering.Goals as goal

pub at_speed-requires : goal.at_speed-requires
at_speed-requires g c =
    let a = g.met.S.Structure.listed _ _ _ (sym c.course.ensures ∙ c.in-Some.is) in
    (a.in_range, subst (λ s. s ≤ 16777216) (sym c.seconds.ensures) c.args.self.now.clock.bounded)
