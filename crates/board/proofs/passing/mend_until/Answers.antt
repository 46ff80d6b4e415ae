use Rattle.std.proofs.Common.{◌≡◌, ◌+◌, refl, sym, ◌∙◌, subst, arith}
use Rattle.std.proofs.lemmas.List.{take_more_set}
use Rattle.board.specs.Passings.{Arrived}
use Rattle.board.proofs.Arriving.{Way, way_none, way_more, arrives, written_more}
use Rattle.board.proofs.Renewing.{kept_itself, kept_on}
use Rattle.board.proofs.Unloaded.{none_meets}
use Rattle.board.proofs.passing.mend_until.Goals as goal

pub loop-count-init : goal.loop-count-init
loop-count-init g c =
    let m = g.S.Structure.means in
    let n = g.Q.Queue.means in
    (record { size = refl; within = omega arith; beyond = λ k d l. refl }, (λ v. refl), kept_itself n _, λ u to b. way_none m n u to _ _ b.midway b.onward)

pub loop-count-preserved : goal.loop-count-preserved
loop-count-preserved g c =
    let m = g.S.Structure.means in
    let n = g.Q.Queue.means in
    let h = c.loop-count.invariant in
    let a = c.in-Some.ensures in
    let lt = c.loop-count-test.true in (
      written_more c.loop-count.count c.args.rows.now c.loop-count.rows c.in-Some.row lt h.0,
      (λ v. a.roster v ∙ h.1 v),
      kept_on n h.2 a.kept,
      λ u to b.
          subst (Way m n u to c.args.structure.now c.mend_next.new.structure c.mend_next.new.queue (c.loop-count.count + 1)) (sym (take_more_set c.loop-count.rows c.loop-count.count c.in-Some.row lt))
          (way_more m n u to c.args.structure.now c.loop-count.structure c.mend_next.new.structure c.loop-count.queue c.mend_next.new.queue c.loop-count.count _ c.in-Some.row b.none_due (h.3 u to b) a.roster (λ v. a.mend v to b.limit_is)),
    )

pub returns-in_default-clause-arrived : goal.returns-in_default-clause-arrived
returns-in_default-clause-arrived g c =
    let m = g.S.Structure.means in
    let n = g.Q.Queue.means in
    let laws = g.met.S.Structure in
    let h = c.loop-count.invariant in
    λ u to b.
    let w = h.3 u to b in
    let a = c.in_default.ensures.mend w.now to b.limit_is w.midway in
    subst (λ s. Arrived m n u to c.args.structure.now s c.mend_next.new.queue c.loop-count.count c.loop-count.rows) (sym a.0)
    (arrives m n laws.ordered laws.lasting u to c.args.structure.now c.loop-count.structure c.loop-count.queue c.mend_next.new.queue c.loop-count.count c.loop-count.rows w b.below_one a.1 a.2)

-- no row is left, so the load is 0
pub returns-clause-arrived : goal.returns-clause-arrived
returns-clause-arrived g c =
    let m = g.S.Structure.means in
    let n = g.Q.Queue.means in
    let laws = g.met.S.Structure in
    let h = c.loop-count.invariant in
    let size = h.0.size in
    let full = c.loop-count-test.false in
    λ u to b.
    let w = h.3 u to b in
    let s = c.loop-count.structure in
    let before = w.load in
    let enough = b.enough in
    let empty : m.load s ≡ 0 = omega (arith, size, full, before, enough) in
    arrives m n laws.ordered laws.lasting u to c.args.structure.now s c.loop-count.queue c.loop-count.queue c.loop-count.count c.loop-count.rows w b.below_one w.midway
    (λ i r f at c l. absurd (none_meets m laws.ordered laws.lasting laws.loaded laws.certified w.now s w.midway.stands empty i r f at c l))
