use Rattle.std.proofs.Common.{◌≡◌, ◌+◌, ◌<◌, length, None, sym, refl, ap, ◌∙◌, arith, rules}
use Rattle.fairway.specs.Stamps.{time_of}
use Rattle.fairway.specs.StampsLemmas.{proper}
use Rattle.fairway.specs.Rosters.{course_of}
use Rattle.kinetic.proofs.Refused.{enter_aboard, enter_full, enter_accepted}
use Rattle.sorted_list.specs.Questions.{means}
use Rattle.sorted_list.specs.Places.{place_in, entry_place, named_from}
use Rattle.sorted_list.specs.RostersLemmas.{Fits}
use Rattle.sorted_list.proofs.Changes.{certs_in, there_is, there_is_none}
use Rattle.sorted_list.proofs.Calls.{between_named, past_end, rested_put, roster_in, length_in}
use Rattle.sorted_list.proofs.structure.SortedListStructure.enter.Goals as goal
use Rattle.sorted_list.proofs.structure.SortedListStructure.enter.Goals.{Else-is_some}

pub returns-then-is_some-clause-entered : goal.returns-then-is_some-clause-entered
returns-then-is_some-clause-entered c =
    let x = c.args.course in
    let k = c.in_ok-check.ensures in
    let place = c.place_of.ensures ∙ ap (place_in x.number) c.as_slice.ensures.value in
    let d = there_is x.number c.args.self.now.courses.items c.place_of.result place (sym c.is_some.ensures ∙ c.if-is_some.true) in
    (enter_aboard means c.args.self.now x k.0 k.1 d.0 d.1, refl)

absent : (c : Else-is_some) → course_of c.args.self.now.courses.items c.args.course.number ≡ None
absent c =
    let n = c.args.course.number in
    let place = c.place_of.ensures ∙ ap (place_in n) c.as_slice.ensures.value in
    there_is_none n c.args.self.now.courses.items c.place_of.result place (sym c.is_some.ensures ∙ c.if-is_some.false)

pub returns-then-count-ge-MOST_VESSELS-clause-entered : goal.returns-then-count-ge-MOST_VESSELS-clause-entered
returns-then-count-ge-MOST_VESSELS-clause-entered c =
    let k = c.in_ok-check.ensures in
    let a = absent (goal.at.returns-then-count-ge-MOST_VESSELS-clause-entered c).Else-is_some in
    (enter_full means c.args.self.now c.args.course k.0 k.1 a (omega arith), refl)

pub put_in-place-requires-clause-new : goal.put_in-place-requires-clause-new
put_in-place-requires-clause-new c = absent (goal.at.put_in-place-requires-clause-new c).Else-is_some

pub returns-clause-entered : goal.returns-clause-entered
returns-clause-entered c =
    let t = time_of c.args.at in
    let x = c.args.course in
    let xs = c.args.self.now.courses.items in
    let ys = c.put_in-place.new.self.courses.items in
    let n : x.number < 65536 = search rules in
    let k = c.in_ok-check.ensures in
    let r : Fits x = record { in_range = k.2; number = n } in
    let a = absent (goal.at.returns-clause-entered c).Else-is_some in
    let e = c.put_in-place.ensures.sorted in
    let l : length ys ≡ length xs + 1 = length_in t x xs ys e in
    let i = roster_in t x xs ys r a c.args.self.now.sound e in
    let p = c.put_in-place.result in (
      enter_accepted means c.args.self.now x k.0 k.1 a (omega arith),
      record {
        there = i.0;
        others = i.1;
        named = between_named xs ys c.numbers_from.result p c.len-count.result c.numbers_from.ensures (certs_in xs ys p x (omega (arith, c.put_in-place.ensures.within)) c.put_in-place.ensures.placed) (past_end xs ys c.len-count.result (omega arith) (omega arith));
        rests = rested_put t (proper c.args.at) x xs ys a e;
      },
    )

pub returns-clause-puts : goal.returns-clause-puts
returns-clause-puts c =
    let xs = c.args.self.now.courses.items in
    let count : c.len-count.result ≡ length xs = omega arith in
    let names = c.numbers_from.ensures ∙ ap (λ i. named_from i c.len-count.result) c.put_in-place.ensures.first in
    record {
      courses = c.put_in-place.ensures.sorted;
      names = names ∙ ap (named_from (entry_place (time_of c.args.at) c.args.course xs)) count;
    }
