use Rattle.std.proofs.Common.{◌≡◌, ◌+◌, ◌<◌, true, set, sym, ap, ◌∙◌, subst, arith, rules}
use Rattle.std.specs.List.{remove}
use Rattle.fairway.specs.Orders.{load}
use Rattle.sorted_list.specs.Rosters.{well}
use Rattle.sorted_list.specs.Loads.{crossed}
use Rattle.sorted_list.specs.LoadsLemmas.{load_bounded}
use Rattle.sorted_list.proofs.Changes.{well_removed}
use Rattle.sorted_list.proofs.Kept.{set_at, well_at, load_with, load_set}
use Rattle.sorted_list.proofs.list.SortedList.replace.Goals as goal
use Rattle.sorted_list.proofs.list.SortedList.replace.Goals.{After-crossings_of_each-lost}

pub returns : goal.returns
returns c = set_at c.args.self.now.courses.items c.args.place c.args.course (omega arith)

before : (c : goal.After-crossings_of_each-lost) → load c.args.self.now.courses.items ≡ load (remove c.args.self.now.courses.items c.args.place) + c.crossings_of_each-lost.result.0
before c =
    let xs = c.args.self.now.courses.items in
    let i = c.args.place in
    let x = c.index-old.result.now in
    let e : c.crossings_of_each-lost.result.0 ≡ crossed (remove xs i) i x = c.crossings_of_each-lost.ensures.one ∙ ap (λ l. crossed (remove l i) i x) c.as_slice.ensures.value in
    omega (arith, e, load_with xs i x (omega arith) c.index-old.ensures)

after : (c : goal.After-crossings_of_each-lost) → load (set c.args.self.now.courses.items c.args.place c.args.course) ≡ load (remove c.args.self.now.courses.items c.args.place) + c.crossings_of_each-lost.result.1
after c =
    let xs = c.args.self.now.courses.items in
    let i = c.args.place in
    let x = c.args.course in
    let e : c.crossings_of_each-lost.result.1 ≡ crossed (remove xs i) i x = c.crossings_of_each-lost.ensures.other ∙ ap (λ l. crossed (remove l i) i x) c.as_slice.ensures.value in
    omega (arith, e, load_set xs i x (omega arith))

pub overflow_sub-self : goal.overflow_sub-self
overflow_sub-self c = omega (arith, before (goal.at.overflow_sub-self c).After-crossings_of_each-lost, c.args.self.now.counted)

pub overflow_add-self : goal.overflow_add-self
overflow_add-self c =
    let few = c.args.self.now.few in
    let k = c.args.self.now.counted in
    let m = c.crossings_of_each-lost.ensures.few.1 in
    let b = load_bounded c.args.self.now.courses.items (omega arith) in
    let s : c.args.self.now.load + c.crossings_of_each-lost.result.1 < 18446744073709551616 = omega (arith, b) in
    search rules

pub invariant_of-self : goal.invariant_of-self
invariant_of-self c =
    let xs = c.args.self.now.courses.items in
    let i = c.args.place in
    let x = c.args.course in
    let k = c.args.self.now.counted in
    let p = (goal.at.invariant_of-self c).After-crossings_of_each-lost in
    record {
      few = omega arith;
      room = omega arith;
      sound = subst (λ l. well l ≡ true) (sym (set_at xs i x (omega arith)))
          (well_at (remove xs i) i x (record { in_range = c.requires.range; number = c.requires.fits }) c.requires.new (well_removed xs i c.args.self.now.sound));
      counted = omega (arith, before p, after p);
    }
