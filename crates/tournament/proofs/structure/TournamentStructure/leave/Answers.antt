use Rattle.std.proofs.Common.{None, drop, length-drop, arith}
use Rattle.tournament.proofs.Calls.{held, seated, sound_out, roster}
use Rattle.tournament.proofs.structure.TournamentStructure.leave.Goals as goal

pub put-requires : goal.put-requires
put-requires c =
    let me = c.args.self.now in
    let xs = drop 63 me.nodes in
    let o = held xs c.args.number c.in_ok-place.place me.sound c.in_ok-place.ensures.1 in
    record { within = omega (arith, o.within, length-drop 63 me.nodes, me.sized); sound = sound_out xs c.args.number c.in_ok-place.place o me.sound }

pub returns-clause-left : goal.returns-clause-left
returns-clause-left c =
    let me = c.args.self.now in
    let xs = drop 63 me.nodes in
    let n = c.args.number in
    let p = c.in_ok-place.place in
    let r = roster xs n p (held xs n p me.sound c.in_ok-place.ensures.1) None (drop 63 c.put.new.self.nodes) tt c.put.ensures.played.places in
    (c.in_ok-place.ensures.0, record { there = r.0; others = r.1; named = c.put.ensures.certificates; rests = c.put.ensures.rests })

pub returns-clause-plays : goal.returns-clause-plays
returns-clause-plays c = (c.in_ok-place.place, seated c.args.self.now.nodes c.args.number c.in_ok-place.place c.in_ok-place.ensures.1, c.put.ensures.played)
