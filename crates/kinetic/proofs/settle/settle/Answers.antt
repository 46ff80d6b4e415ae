use Rattle.std.proofs.Common.{◌+◌, sym, subst, arith}
use Rattle.fairway.specs.Stamps.{time_of}
use Rattle.fairway.specs.StampsLemmas.{proper}
use Rattle.kinetic.specs.Structures.{NoneDue}
use Rattle.kinetic.proofs.Settling.{Midway, midway_more, settled, unsettled}
use Rattle.kinetic.proofs.settle.settle.Goals as goal
use Rattle.kinetic.proofs.settle.settle.Goals.{else-loop-test, then-loop-test+in_default, then-loop-test+in-Some+else-counter-end}

pub returns : goal.returns
returns g c =
    let m = g.S.Structure.means in
    let t = time_of c.args.at in
    let s = c.args.structure.now in
    let u = c.loop-test.structure in
    let v = c.foremost.result in
    let k = c.loop.counter in
    elim c.loop-test.branch [
      | else-loop-test w ↦ unsettled m t s u k v c.foremost.ensures (subst (λ z. Midway m t s z k) (sym w.structure-is) c.loop.invariant) (omega (arith, c.load-end.ensures))
      | then-loop-test+in_default w ↦
          let laws = g.met.S.Structure in
          settled m laws.leads t (proper c.args.at) s u k v c.foremost.ensures (subst (λ z. Midway m t s z k) (sym w.structure-is) c.loop.invariant) (subst (λ z. NoneDue m t z) (sym w.structure-is) w.in_default.ensures)
      | then-loop-test+in-Some+else-counter-end w ↦
          unsettled m t s u (k + 1) v c.foremost.ensures
          (subst (λ z. Midway m t s z (k + 1)) (sym w.structure-is) (midway_more m t s c.loop.structure w.mend.new.self k w.in-Some.number w.mend.result c.loop.invariant w.in-Some.ensures.0 w.mend.ensures))
          (omega (arith, c.load-end.ensures))
    ]
