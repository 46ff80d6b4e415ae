use Rattle.std.proofs.Common.{◌<◌, Some, None, drop, length-drop, sym, refl, subst, ◌∙◌, arith, rules}
use Rattle.std.proofs.lemmas.List.{get_or-drop}
use Rattle.kinetic.specs.Structures.{Meaning}
use Rattle.tournament.specs.Means.{tournament_meaning}
use Rattle.tournament.specs.declared.tournament.Tournament.{Tournament}
use Rattle.kinetic.proofs.Refused.{enter_full, enter_accepted}
use Rattle.tournament.specs.Places.{Fits, FreePlace}
use Rattle.tournament.proofs.Taken.{room}
use Rattle.tournament.proofs.Calls.{absent, free, sound_in, roster}
use Rattle.tournament.proofs.structure.TournamentStructure.enter.Goals as goal

abbrev M : Meaning Tournament
M = tournament_meaning (λ s. s.nodes)

pub returns-in_default-clause-entered : goal.returns-in_default-clause-entered
returns-in_default-clause-entered c =
    let me = c.args.self.now in
    let x = c.args.course in
    let k = c.in_ok-check.ensures in
    let a = absent c.places.result.now (drop 63 me.nodes) x.number c.place_of.result c.places.ensures.value c.place_of.ensures (sym c.is_some.ensures ∙ c.if-is_some.false) in
    let h = subst (λ l. FreePlace l None) c.places-2.ensures.value c.in_default.ensures in
    (enter_full M me x k.0 k.1 a (omega (arith, h, length-drop 63 me.nodes, me.sized)), refl)

pub put-requires : goal.put-requires
put-requires c =
    let me = c.args.self.now in
    let x = c.args.course in
    let xs = drop 63 me.nodes in
    let p = c.in-Some.free in
    let n : x.number < 65536 = search rules in
    let f : Fits x = record { fits = n; in_range = c.in_ok-check.ensures.2 } in
    let a = absent c.places.result.now xs x.number c.place_of.result c.places.ensures.value c.place_of.ensures (sym c.is_some.ensures ∙ c.if-is_some.false) in
    let o = free xs x.number p (subst (λ l. FreePlace l (Some p)) c.places-2.ensures.value c.in-Some.ensures) a in
    record { within = omega (arith, o.within, length-drop 63 me.nodes, me.sized); sound = sound_in xs x.number p o me.sound x refl f }

pub returns-clause-entered : goal.returns-clause-entered
returns-clause-entered c =
    let me = c.args.self.now in
    let x = c.args.course in
    let k = c.in_ok-check.ensures in
    let xs = drop 63 me.nodes in
    let p = c.in-Some.free in
    let a = absent c.places.result.now xs x.number c.place_of.result c.places.ensures.value c.place_of.ensures (sym c.is_some.ensures ∙ c.if-is_some.false) in
    let h = subst (λ l. FreePlace l (Some p)) c.places-2.ensures.value c.in-Some.ensures in
    let r = roster xs x.number p (free xs x.number p h a) (Some x) (drop 63 c.put.new.self.nodes) refl c.put.ensures.played.places in (
      enter_accepted M me x k.0 k.1 a (omega (arith, room xs p h.0 h.1, length-drop 63 me.nodes, me.sized)),
      record { there = r.0; others = r.1; named = c.put.ensures.certificates; rests = c.put.ensures.rests },
    )

pub returns-clause-plays : goal.returns-clause-plays
returns-clause-plays c =
    let p = c.in-Some.free in
    let h = subst (λ l. FreePlace l (Some p)) c.places-2.ensures.value c.in-Some.ensures in
    (p, sym (get_or-drop 63 c.args.self.now.nodes p None) ∙ h.1, c.put.ensures.played)
