use Rattle.std.proofs.Common.{◌≡◌, ◌+◌, true, arith, rules}
use Rattle.fairway.specs.Orders.{load}
use Rattle.sorted_list.specs.Rosters.{well}
use Rattle.sorted_list.proofs.Changes.{passed}
use Rattle.sorted_list.proofs.list.SortedList.exchange.Goals as goal

after : (c : goal.After-swap) → (well c.swap.new.self.items ≡ true) × (load c.args.self.now.courses.items ≡ load c.swap.new.self.items + 1)
after c = passed c.args.self.now.courses.items c.swap.new.self.items c.args.place (omega arith) (search rules) c.requires.faster c.args.self.now.sound

pub overflow_sub-self : goal.overflow_sub-self
overflow_sub-self c = let p = after c in omega (arith, p.1)

pub invariant_of-self : goal.invariant_of-self
invariant_of-self c = let p = after c in record { few = omega arith; room = omega arith; sound = p.0; counted = omega (arith, p.1) }
