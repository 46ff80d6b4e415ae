use Rattle.std.proofs.Common.{◌≡◌, ◌+◌, ◌<◌, true, is_ok, sym, ap, ◌∙◌, subst, arith, rules}
use Rattle.std.specs.List.{insert}
use Rattle.std.proofs.lemmas.Bool.{cond-true}
use Rattle.fairway.specs.Orders.{put}
use Rattle.fairway.specs.Orders.{load}
use Rattle.sorted_list.specs.Places.{entry_place}
use Rattle.sorted_list.specs.Rosters.{well}
use Rattle.sorted_list.specs.Loads.{crossed}
use Rattle.fairway.specs.Stamps.{time_of}
use Rattle.sorted_list.specs.LoadsLemmas.{load_inserted, load_bounded}
use Rattle.sorted_list.proofs.Changes.{well_put, put_found}
use Rattle.sorted_list.proofs.list.SortedList.put_in.Goals as goal
use Rattle.sorted_list.proofs.list.SortedList.put_in.Goals.{After-insert}

pub overflow_add-self : goal.overflow_add-self
overflow_add-self c =
    let few = c.args.self.now.few in
    let k = c.args.self.now.counted in
    let m = c.crossings-more.ensures.few in
    let b = load_bounded c.args.self.now.courses.items (omega arith) in
    let s : c.args.self.now.load + c.crossings-more.result < 18446744073709551616 = omega (arith, b) in
    search rules

ok : (c : After-insert) → is_ok c.insert.result ≡ true
ok c = c.insert.ensures.succeeds (omega (arith, c.requires.room, c.args.self.now.room))

items : (c : After-insert) → c.insert.new.self.items ≡ insert c.args.self.now.courses.items c.place_for-place.result c.args.course
items c = c.insert.ensures.items ∙ cond-true (is_ok c.insert.result) _ _ (ok c)

sorted : (c : After-insert) → c.insert.new.self.items ≡ put (time_of c.args.at) c.args.course c.args.self.now.courses.items
sorted c =
    let t = time_of c.args.at in
    let x = c.args.course in
    let xs = c.args.self.now.courses.items in
    let first = c.place_for-place.ensures.first ∙ ap (entry_place t x) c.as_slice.ensures.value in
    items c ∙ ap (λ i. insert xs i x) first ∙ put_found t x xs

pub invariant_of-self : goal.invariant_of-self
invariant_of-self c =
    let xs = c.args.self.now.courses.items in
    let ys = c.insert.new.self.items in
    let i = c.place_for-place.result in
    let x = c.args.course in
    let len : c.insert.new.self.len ≡ c.args.self.now.courses.len + 1 = c.insert.ensures.len ∙ cond-true (is_ok c.insert.result) _ _ (ok c) in
    let more : c.crossings-more.result ≡ crossed xs i x = c.crossings-more.ensures.count ∙ ap (λ l. crossed l i x) c.as_slice-2.ensures.value in
    let load : load ys ≡ load xs + crossed xs i x = ap load (items c) ∙ load_inserted xs i x in
    record {
      few = omega (arith, len, c.requires.room);
      room = omega (arith, c.insert.ensures.capacity, c.args.self.now.room);
      sound = subst (λ l. well l ≡ true) (sym (sorted c)) (well_put (time_of c.args.at) x xs (record { in_range = c.requires.range; number = c.requires.fits }) c.requires.new c.args.self.now.sound);
      counted = omega (arith, load, more, c.args.self.now.counted);
    }

pub returns-clause-sorted : goal.returns-clause-sorted
returns-clause-sorted c = sorted (goal.at.returns-clause-sorted c).After-insert
