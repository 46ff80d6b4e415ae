use Rattle.std.proofs.Common.{◌≡◌, ◌+◌, true, sym, subst, arith, rules}
use Rattle.fairway.specs.Orders.{load}
use Rattle.sorted_list.specs.Rosters.{well}
use Rattle.sorted_list.specs.Loads.{crossed}
use Rattle.sorted_list.specs.LoadsLemmas.{load_removed}
use Rattle.sorted_list.proofs.Changes.{well_removed}
use Rattle.sorted_list.proofs.list.SortedList.take_out.Goals as goal

parts : (c : goal.After-crossings-fewer) → load c.args.self.now.courses.items ≡ load c.remove-gone.new.self.items + c.crossings-fewer.result
parts c =
    let xs = c.args.self.now.courses.items in
    let ys = c.remove-gone.new.self.items in
    let i = c.args.place in
    let x = c.remove-gone.result in
    let fewer : c.crossings-fewer.result ≡ crossed ys i x = search rules in
    omega (arith, fewer, load_removed xs ys i x (omega arith) c.remove-gone.ensures.items c.remove-gone.ensures.value)

pub overflow_sub-self : goal.overflow_sub-self
overflow_sub-self c = omega (arith, parts c, c.args.self.now.counted)

pub invariant_of-self : goal.invariant_of-self
invariant_of-self c =
    let xs = c.args.self.now.courses.items in
    let k = c.args.self.now.counted in
    record {
      few = omega arith;
      room = omega arith;
      sound = subst (λ l. well l ≡ true) (sym c.remove-gone.ensures.items) (well_removed xs c.args.place c.args.self.now.sound);
      counted = omega (arith, parts c);
    }
