use Rattle.std.proofs.Common.{◌≡◌, ℕ, ◌+◌, min, max, ◌<◌, ◌≤◌, length, get_or, refl, sym, ap, subst, inl, inr, ◌∙◌, arith, rules}
use Rattle.std.specs.List.{remove}
use Rattle.std.proofs.lemmas.List.Edits.{length-remove}
use Rattle.fairway.specs.Stamps.{time_of}
use Rattle.fairway.specs.StampsLemmas.{proper}
use Rattle.fairway.proofs.Lists.{nobody}
use Rattle.fairway.specs.Orders.{put}
use Rattle.fairway.specs.Rosters.{without}
use Rattle.kinetic.proofs.Refused.{steer_accepted}
use Rattle.sorted_list.specs.Questions.{means}
use Rattle.sorted_list.specs.Laws.{rests_sorted}
use Rattle.sorted_list.specs.Places.{Between, entry_place, named_from}
use Rattle.sorted_list.specs.RostersLemmas.{Fits}
use Rattle.std.proofs.lemmas.Bool.{both_ways}
use Rattle.sorted_list.proofs.Changes.{placed_at, certs_in, certs_out, certs_after}
use Rattle.sorted_list.proofs.Kept.{set_at, roster_at, kept_put}
use Rattle.sorted_list.proofs.Calls.{between_named, rested_put, rested_without, roster_in, roster_out, length_in}
use Rattle.sorted_list.proofs.structure.SortedListStructure.steer.Goals as goal
use Rattle.sorted_list.specs.Rosters.{certificate_at}

pub replace-requires-clause-new : goal.replace-requires-clause-new
replace-requires-clause-new c =
    let x = c.args.course in
    let xs = c.args.self.now.courses.items in
    let p = placed_at x.number xs c.in_ok-old.old c.in_ok-old.ensures.1 in
    (roster_out x.number xs (remove xs c.in_ok-old.old) c.args.self.now.sound p.1).0

pub returns-then-keeps_place-clause-steered : goal.returns-then-keeps_place-clause-steered
returns-then-keeps_place-clause-steered c =
    let t = time_of c.args.at in
    let x = c.args.course in
    let k = c.in_ok-check.ensures in
    let xs = c.args.self.now.courses.items in
    let ys = c.replace.new.self.courses.items in
    let i = c.in_ok-old.old in
    let zs = remove xs i in
    let p = placed_at x.number xs i c.in_ok-old.ensures.1 in
    let h : i < length xs = p.0 in
    let l : i ≤ length zs = omega (arith, length-remove xs i h) in
    let o = roster_out x.number xs zs c.args.self.now.sound p.1 in
    let q = roster_at x zs ys i o.0 c.replace.ensures in
    let b : Between t (c.as_slice.result.now) i x = c.keeps_place.ensures.0 c.if-keeps_place.true in
    let between : Between t xs i x = subst (λ z. Between t z i x) c.as_slice.ensures.value b in
    let before : (k : ℕ) → k + 1 < i → certificate_at ys k ≡ certificate_at xs k = λ k m.
    certs_in zs ys i x l c.replace.ensures k m ∙ certs_out xs zs nobody i h refl k m in
    let after : (k : ℕ) → i + 1 ≤ k → certificate_at ys k ≡ certificate_at xs k = λ k m.
    certs_after xs zs ys nobody x i i h l refl c.replace.ensures k (omega arith) (omega arith) in (
      steer_accepted means c.args.self.now x k.0 k.1 (get_or xs i nobody) (p.2 nobody),
      record {
        there = q.0;
        others = λ j ne. q.1 j ne ∙ o.1 j ne;
        named = between_named xs ys c.numbers_from.result i (i + 1) c.numbers_from.ensures before after;
        rests = λ s. rested_put t (proper c.args.at) x zs ys o.0 (c.replace.ensures ∙ kept_put t x xs i h (rests_sorted xs t s.0 s.1) p.1 between) (rested_without t x.number xs zs p.1 s);
      },
    )

pub put_in-new-requires-clause-new : goal.put_in-new-requires-clause-new
put_in-new-requires-clause-new c =
    let x = c.args.course in
    let xs = c.args.self.now.courses.items in
    let p = placed_at x.number xs c.in_ok-old.old c.in_ok-old.ensures.1 in
    (roster_out x.number xs c.take_out.new.self.courses.items c.args.self.now.sound (c.take_out.ensures ∙ p.1)).0

pub returns-clause-steered : goal.returns-clause-steered
returns-clause-steered c =
    let t = time_of c.args.at in
    let x = c.args.course in
    let n : x.number < 65536 = search rules in
    let k = c.in_ok-check.ensures in
    let r : Fits x = record { in_range = k.2; number = n } in
    let xs = c.args.self.now.courses.items in
    let zs = c.take_out.new.self.courses.items in
    let ys = c.put_in-new.new.self.courses.items in
    let i = c.in_ok-old.old in
    let p = placed_at x.number xs i c.in_ok-old.ensures.1 in
    let h : i < length xs = p.0 in
    let e : zs ≡ without x.number xs = c.take_out.ensures ∙ p.1 in
    let lz : length zs + 1 ≡ length xs = ap (λ z. length z + 1) c.take_out.ensures ∙ length-remove xs i h in
    let ly : length ys ≡ length zs + 1 = length_in t x zs ys c.put_in-new.ensures.sorted in
    let o = roster_out x.number xs zs c.args.self.now.sound e in
    let q = roster_in t x zs ys r o.0 c.take_out.new.self.sound c.put_in-new.ensures.sorted in
    let new = c.put_in-new.result in
    let first = c.min.result in
    let end = c.max.result + 1 in
    let w : new ≤ length zs = omega (arith, c.put_in-new.ensures.within) in
    let before : (k : ℕ) → k + 1 < first → certificate_at ys k ≡ certificate_at xs k = λ k l.
    certs_in zs ys new x w c.put_in-new.ensures.placed k (omega (arith, c.min.ensures)) ∙ certs_out xs zs nobody i h c.take_out.ensures k (omega (arith, c.min.ensures)) in
    let after : (k : ℕ) → end ≤ k → certificate_at ys k ≡ certificate_at xs k = λ k l.
    certs_after xs zs ys nobody x i new h w c.take_out.ensures c.put_in-new.ensures.placed k (omega (arith, c.max.ensures)) (omega (arith, c.max.ensures)) in (
      steer_accepted means c.args.self.now x k.0 k.1 (get_or xs i nobody) (p.2 nobody),
      record {
        there = q.0;
        others = λ j ne. q.1 j ne ∙ o.1 j ne;
        named = between_named xs ys c.numbers_from-2.result first end c.numbers_from-2.ensures before after;
        rests = λ s. rested_put t (proper c.args.at) x zs ys o.0 c.put_in-new.ensures.sorted (rested_without t x.number xs zs e s);
      },
    )

pub returns-then-keeps_place-clause-moves : goal.returns-then-keeps_place-clause-moves
returns-then-keeps_place-clause-moves c =
    let t = time_of c.args.at in
    let x = c.args.course in
    let xs = c.args.self.now.courses.items in
    let i = c.in_ok-old.old in
    let p = placed_at x.number xs i c.in_ok-old.ensures.1 in
    let between : Between t xs i x = subst (λ z. Between t z i x) c.as_slice.ensures.value (c.keeps_place.ensures.0 c.if-keeps_place.true) in
    (i, c.in_ok-old.ensures.1, inl (record { between = between; courses = c.replace.ensures ∙ sym (set_at xs i x p.0); names = c.numbers_from.ensures }))

pub returns-clause-moves : goal.returns-clause-moves
returns-clause-moves c =
    let t = time_of c.args.at in
    let x = c.args.course in
    let xs = c.args.self.now.courses.items in
    let i = c.in_ok-old.old in
    let p = placed_at x.number xs i c.in_ok-old.ensures.1 in
    let out = c.take_out.ensures ∙ p.1 in
    let new = c.put_in-new.ensures.first ∙ ap (entry_place t x) out in (
      i,
      c.in_ok-old.ensures.1,
      inr (record {
        not_between = λ b. both_ways c.keeps_place.result c.if-keeps_place.false (c.keeps_place.ensures.1 (subst (λ z. Between t z i x) (sym c.as_slice.ensures.value) b));
        courses = c.put_in-new.ensures.sorted ∙ ap (put t x) out;
        names = c.numbers_from-2.ensures ∙ ap (λ k. named_from k (c.max.result + 1)) (c.min.ensures ∙ ap (min i) new) ∙ ap (λ k. named_from (min i (entry_place t x (without x.number xs))) (k + 1)) (c.max.ensures ∙ ap (max i) new);
      }),
    )
