use Rattle.std.proofs.Common.{◌≡◌, ◌+◌, length, subst, sym, ◌∙◌, length-set}
use Rattle.fairway.specs.Stamps.{time_of}
use Rattle.fairway.specs.StampsLemmas.{proper}
use Rattle.tournament.specs.Places.{taken, Sound}
use Rattle.tournament.proofs.Again.{drawn_but, put_places, put_is}
use Rattle.tournament.proofs.tournament.Tournament.put.Goals as goal

pub play_above-requires-clause-drawn : goal.play_above-requires-clause-drawn
play_above-requires-clause-drawn c = drawn_but c.args.place c.args.entrant c.args.self.now.nodes c.args.self.now.drawn

pub invariant_of-self : goal.invariant_of-self
invariant_of-self c =
    let t = time_of c.args.at in
    let me = c.args.self.now in
    let p = c.args.place in
    let o = c.args.entrant in
    let ns' = c.play_above.new.nodes in
    let again = c.play_above.ensures.played in
    let long : length ns' ≡ 127 = c.play_above.auto.nodes ∙ length-set me.nodes (63 + p) o ∙ me.sized in
    record {
      sized = long;
      sound = subst (λ l. Sound (taken l)) (sym (put_places t (proper c.args.at) p o me.nodes ns' c.play_above.result c.requires.within me.sized long again)) c.requires.sound;
      drawn = λ i h. (again.matches i h).drawn;
    }

pub returns : goal.returns
returns c =
    let t = time_of c.args.at in
    let me = c.args.self.now in
    let p = c.args.place in
    let o = c.args.entrant in
    let ns' = c.play_above.new.nodes in
    let again = c.play_above.ensures.played in
    let long : length ns' ≡ 127 = c.play_above.auto.nodes ∙ length-set me.nodes (63 + p) o ∙ me.sized in
    let sound = subst (λ l. Sound (taken l)) (sym (put_places t (proper c.args.at) p o me.nodes ns' c.play_above.result c.requires.within me.sized long again)) c.requires.sound in
    put_is t (proper c.args.at) p o me.nodes ns' c.play_above.result c.requires.within me.sized long again c.play_above.ensures.named sound
