use Rattle.std.proofs.Common.{◌≡◌, ◌+◌, ◌*◌, true, length, refl, inl, ap, ◌∙◌}
use Rattle.fairway.specs.Stamps.{time_of}
use Rattle.fairway.specs.StampsLemmas.{proper}
use Rattle.fairway.specs.Rosters.{course_of}
use Rattle.kinetic.specs.Structures.{Meaning}
use Rattle.kinetic.proofs.Refused.{mend_accepted}
use Rattle.kinetic.proofs.Tests.{tested}
use Rattle.tournament.specs.Matches.{certificate_at}
use Rattle.tournament.specs.Means.{tournament_meaning}
use Rattle.tournament.specs.declared.tournament.Tournament.{Tournament}
use Rattle.tournament.proofs.Again.{kept}
use Rattle.tournament.proofs.Climbing.{again_from}
use Rattle.tournament.proofs.Mending.{told_due, same_aboard, same_sound, mended_stands, loads_fall}
use Rattle.tournament.proofs.structure.TournamentStructure.mend.Goals as goal

abbrev M : Meaning Tournament
M = tournament_meaning (λ s. s.nodes)

pub invariant_of-self : goal.invariant_of-self
invariant_of-self c =
    let me = c.args.self.now in
    let again = c.play_above.ensures.played in
    let long : length c.play_above.new.nodes ≡ 127 = c.play_above.auto.nodes ∙ me.sized in
    record {
      sized = long;
      sound = same_sound (time_of c.args.at) (proper c.args.at) me.nodes c.play_above.new.nodes c.play_above.result c.args.certificate me.sized long me.sound me.drawn again;
      drawn = λ i h. (again.matches i h).drawn;
    }

pub returns : goal.returns
returns c =
    let t = time_of c.args.at in
    let pr = proper c.args.at in
    let me = c.args.self.now in
    let i = c.args.certificate in
    let ns = me.nodes in
    let ns' = c.play_above.new.nodes in
    let numbers = c.play_above.result in
    let again = c.play_above.ensures.played in
    let long : length ns' ≡ 127 = c.play_above.auto.nodes ∙ me.sized in
    let d = told_due t ns i c.certificate.result me.sized c.if-not-is_certificate_due.ensures c.certificate.ensures in
    record {
      mended = (
        mend_accepted M me t i (tested t c.certificate.result (certificate_at ns i) true c.if-not-is_certificate_due.ensures c.certificate.ensures),
        record {
          roster = λ n. ap (λ l. course_of l n) (same_aboard t pr ns ns' numbers i me.sized long me.sound me.drawn again);
          named = kept t pr (2 * i + 1) ns ns' numbers again me.sized long;
          stands = mended_stands t pr ns ns' numbers i me.sized long me.sound me.drawn again d;
          by = λ r f e. again.places;
        },
      );
      plays = (again_from t (2 * i + 1) i ns ns' numbers (inl refl) d.low again c.play_above.ensures.named, c.play_above.ensures.named i (inl refl));
      falls = loads_fall t pr ns ns' numbers i me.sized long me.sound me.drawn again c.play_above.ensures.named d;
    }
