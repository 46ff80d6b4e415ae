use Rattle.std.proofs.Common.{Some, None, sym, subst, ◌∙◌}
use Rattle.std.proofs.lemmas.List.{get_or-drop}
use Rattle.tournament.specs.Places.{PlaceOf}
use Rattle.tournament.proofs.structure.TournamentStructure.course.Goals as goal

pub returns : goal.returns
returns c =
    let ns = c.args.self.now.nodes in
    let n = c.args.number in
    let p = c.in_ok-place.place in
    let h = subst (λ l. PlaceOf l n (Some p)) c.places.ensures.value c.in_ok-place.ensures in
    sym (get_or-drop 63 ns p None) ∙ h.1.1 ∙ sym h.1.2
