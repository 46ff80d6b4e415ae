use Rattle.std.proofs.Common.{◌<◌, Some, drop, length-drop, refl, arith, rules}
use Rattle.kinetic.specs.Structures.{Meaning}
use Rattle.tournament.specs.Means.{tournament_meaning}
use Rattle.tournament.specs.declared.tournament.Tournament.{Tournament}
use Rattle.kinetic.proofs.Refused.{steer_accepted}
use Rattle.tournament.specs.Places.{Fits}
use Rattle.tournament.proofs.Calls.{held, seated, sound_in, roster}
use Rattle.tournament.proofs.structure.TournamentStructure.steer.Goals as goal

abbrev M : Meaning Tournament
M = tournament_meaning (λ s. s.nodes)

pub put-requires : goal.put-requires
put-requires c =
    let me = c.args.self.now in
    let x = c.args.course in
    let n : x.number < 65536 = search rules in
    let f : Fits x = record { fits = n; in_range = c.in_ok-check.ensures.2 } in
    let xs = drop 63 me.nodes in
    let o = held xs x.number c.in_ok-place.place me.sound c.in_ok-place.ensures.1 in
    record { within = omega (arith, o.within, length-drop 63 me.nodes, me.sized); sound = sound_in xs x.number c.in_ok-place.place o me.sound x refl f }

pub returns-clause-steered : goal.returns-clause-steered
returns-clause-steered c =
    let me = c.args.self.now in
    let x = c.args.course in
    let k = c.in_ok-check.ensures in
    let xs = drop 63 me.nodes in
    let p = c.in_ok-place.place in
    let h = c.in_ok-place.ensures.1 in
    let r = roster xs x.number p (held xs x.number p me.sound h) (Some x) (drop 63 c.put.new.self.nodes) refl c.put.ensures.played.places in
    (steer_accepted M me x k.0 k.1 h.1.0 h.1.2, record { there = r.0; others = r.1; named = c.put.ensures.certificates; rests = c.put.ensures.rests })

pub returns-clause-plays : goal.returns-clause-plays
returns-clause-plays c = (c.in_ok-place.place, seated c.args.self.now.nodes c.args.course.number c.in_ok-place.place c.in_ok-place.ensures.1, c.put.ensures.played)
