use Rattle.std.proofs.Common.{◌≡◌, ℕ, Some, None, Option, sym, subst}
use Rattle.std.specs.Option.{ok_or}
use Rattle.std.proofs.Common.{drop}
use Rattle.kinetic.specs.declared.refusal.Refusal.TheVariants.{UnknownVessel}
use Rattle.kinetic.proofs.Refused.{vessel_known, vessel_unknown}
use Rattle.tournament.specs.Places.{PlaceOf}
use Rattle.tournament.specs.Questions.{Placed, nodes_of, means}
use Rattle.tournament.specs.declared.tournament.Tournament.{Tournament}
use Rattle.tournament.proofs.tournament.Tournament.place.Goals as goal

placed : (s : Tournament) (n : ℕ) (o : Option ℕ) → (n ≡ 0 → ⊥) → PlaceOf (drop 63 (nodes_of s)) n o → Placed s n (ok_or o UnknownVessel)
placed s n None z p = vessel_unknown means s n z p
placed s n (Some i) z p = (vessel_known means s n z p.1.0 p.1.2, p)

pub returns : goal.returns
returns c =
    let s = c.args.self.now in
    let n = c.args.number in
    let o = c.place_of.result in
    subst (Placed s n) (sym c.ok_or.ensures.value) (placed s n o c.if-number-eq0.false (subst (λ l. PlaceOf l n o) c.places.ensures.value c.place_of.ensures))
