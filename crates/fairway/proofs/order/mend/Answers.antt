use Rattle.std.proofs.Common.{◌≡◌, ℕ, ◌+◌, ◌<◌, List, length, get_or, refl, arith, rules}
use Rattle.std.specs.List.{slice_range}
use Rattle.std.proofs.lemmas.Bool.Decides.{not_from_Decides}
use Rattle.std.proofs.lemmas.Grind.{common_steps}
use Rattle.std.proofs.lemmas.List.{set-get_or, set_comm}
use Rattle.std.proofs.lemmas.List.Edits.{swap_is}
use Rattle.fairway.specs.Stamps.{time_of}
use Rattle.fairway.specs.Courses.{Due}
use Rattle.fairway.specs.declared.course.Course.{Course}
use Rattle.fairway.proofs.Lists.{nobody, NotDue, at_pair, exchanged}
use Rattle.fairway.proofs.order.mend.Goals as goal

-- the first two of what stands from i on
first_two : (xs rest : List Course) (i : ℕ) → rest ≡ slice_range xs i (length xs) → (get_or xs i nobody ≡ get_or rest 0 nobody) × (get_or xs (i + 1) nobody ≡ get_or rest 1 nobody)
first_two xs rest i e = (grind (arith, common_steps), grind (arith, common_steps))

pub returns-in_default : goal.returns-in_default
returns-in_default c =
    let xs = c.args.courses.now in
    let i = c.args.place in
    (refl, λ r f. at_pair (NotDue (time_of c.args.at)) xs i nobody r f (λ h. absurd (search rules)))

pub returns-then-not-is_due : goal.returns-then-not-is_due
returns-then-not-is_due c =
    let xs = c.args.courses.now in
    let i = c.args.place in
    let p = first_two xs c.unwrap_or.result.now i (grind (arith, common_steps)) in
    (refl, λ r f. at_pair (NotDue (time_of c.args.at)) xs i nobody r f (λ h. rw (p.0, p.1) (rw c.new.ensures at (not_from_Decides c.is_due.result c.is_due.ensures c.if-not-is_due.true))))

pub returns : goal.returns
returns c =
    let xs = c.args.courses.now in
    let i = c.args.place in
    let p = first_two xs c.unwrap_or.result.now i (grind (arith, common_steps)) in
    let d : Due (time_of c.args.at) (get_or xs i nobody) (get_or xs (i + 1) nobody) = rw (p.0, p.1) (rw c.new.ensures at (c.is_due.ensures.0 c.if-not-is_due.false)) in
    let l : i + 1 < length xs = search rules in
    (get_or xs i nobody, get_or xs (i + 1) nobody, exchanged (time_of c.args.at) xs _ i nobody l (grind (arith, common_steps, swap_is, set-get_or, set_comm)) d)
