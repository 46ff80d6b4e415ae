use Rattle.std.proofs.Common.{◌≡◌, ℕ, ◌+◌, ◌<◌, true, false, length, get_or, Some, None, rules}
use Rattle.std.proofs.iter.runs.Made.{chains}
use Rattle.fairway.specs.Stamps.{time_of}
use Rattle.std.specs.Bool.{Decides}
use Rattle.fairway.specs.Courses.{Due}
use Rattle.fairway.specs.Lists.{FirstDuePlace}
use Rattle.fairway.proofs.Lists.{nobody, of_window, due_told}
use Rattle.fairway.proofs.order.first_due.Goals as goal

pub returns : goal.returns
returns c =
    let t = time_of c.args.at in
    let xs = c.args.courses.now in
    let none : c.position.result ≡ None → (k : ℕ) → k + 1 < length xs → Decides false (Due t (get_or xs k nobody) (get_or xs (k + 1) nobody)) = search (rules, chains) in
    let p = c.position.ensures.runs.0 in
    let w = c.windows.ensures.runs p p.seen (search rules) in
    let due : (i : ℕ) → c.position.result ≡ Some i → (i + 1 < length xs) × Decides true (Due t (get_or xs i nobody) (get_or xs (i + 1) nobody)) =
    λ i e. let m = rw e at c.position.ensures.runs.2 in
    of_window (λ r f. Decides true (Due t r f)) xs _ _ i (p.at i) (search rules) (search rules) (w.2 i) (m.1 (λ a r f k. search rules)).0 (λ x h. search rules) in
    let before : (i : ℕ) → c.position.result ≡ Some i → (k : ℕ) → k < i → Decides false (Due t (get_or xs k nobody) (get_or xs (k + 1) nobody)) =
    λ i e k l. let m = rw e at c.position.ensures.runs.2 in
    (of_window (λ r f. Decides false (Due t r f)) xs _ _ k (p.at k) (search rules) (search rules) (w.2 k) ((m.1 (λ a r f k. search rules)).1 k l) (λ x h. search rules)).1 in
    let told : FirstDuePlace t xs c.position.result = due_told t xs c.position.result none due before in
    search rules
