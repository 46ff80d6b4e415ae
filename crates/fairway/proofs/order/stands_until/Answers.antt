use Rattle.std.proofs.Common.{◌≡◌, ℕ, ◌+◌, ◌<◌, true, false, length, get_or, rules}
use Rattle.std.proofs.iter.runs.Made.{chains}
use Rattle.fairway.specs.Stamps.{time_of}
use Rattle.fairway.specs.Pairs.{PastLevelAnswer}
use Rattle.fairway.specs.StampsLemmas.{proper}
use Rattle.fairway.proofs.Lists.{nobody, of_window, until_told}
use Rattle.fairway.proofs.order.stands_until.Goals as goal

pub returns : goal.returns
returns c =
    let t = time_of c.args.at in
    let xs = c.args.courses.now in
    let none : c.any.result ≡ false → (k : ℕ) → k + 1 < length xs → PastLevelAnswer t (get_or xs k nobody) (get_or xs (k + 1) nobody) false = search (rules, chains) in
    let p = c.any.ensures.runs.0 in
    let w = c.windows.ensures.runs p p.seen (search rules) in
    let some : c.any.result ≡ true → (k : ℕ) × (k + 1 < length xs) × PastLevelAnswer t (get_or xs k nobody) (get_or xs (k + 1) nobody) true =
    λ e. let m = (rw e at c.any.ensures.runs.2) (λ a r f k. search rules) in
    let h = of_window (λ r f. PastLevelAnswer t r f true) xs _ _ m.0 (p.at m.0) (search rules) (search rules) (w.2 m.0) m.2 (λ x h. search rules) in
    (m.0, h.0, h.1) in
    until_told t (proper c.args.at) xs c.any.result none some
