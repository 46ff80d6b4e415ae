use Rattle.std.proofs.Common.{◌≡◌, ◌-ℤ◌, SFits, to_z, of_z, ◌∙◌, rules}
use mir.Syntax.{w128}
use Rattle.board.proofs.Lengths.{gap_read, gap_is}
use Rattle.board.proofs.list_questions.gap_of.Goals as goal

pub overflow_sub-result : goal.overflow_sub-result
overflow_sub-result c =
    let p : to_z w128 (of_z w128 c.position.result) ≡ c.position.result = search rules in
    let q : to_z w128 (of_z w128 c.position-2.result) ≡ c.position-2.result = search rules in
    gap_read c.args.at c.args.rear c.args.front _ _ (p ∙ c.position.ensures) (q ∙ c.position-2.ensures) (search rules) (search rules) (search rules) (search rules)

pub returns : goal.returns
returns c =
    let p : to_z w128 (of_z w128 c.position.result) ≡ c.position.result = search rules in
    let q : to_z w128 (of_z w128 c.position-2.result) ≡ c.position-2.result = search rules in
    let f : SFits w128 (to_z w128 (of_z w128 c.position.result) -ℤ to_z w128 (of_z w128 c.position-2.result)) = gap_read c.args.at c.args.rear c.args.front _ _ (p ∙ c.position.ensures) (q ∙ c.position-2.ensures) (search rules) (search rules) (search rules) (search rules) in
    gap_is c.args.at c.args.rear c.args.front _ _ _ (p ∙ c.position.ensures) (q ∙ c.position-2.ensures) c.denominator.ensures f
