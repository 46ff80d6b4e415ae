-- A match that is due has a load: its loser is drawn beneath it, and is faster than its winner.
use Rattle.std.proofs.Common.{◌≡◌, ℕ, zero, suc, ◌+◌, ◌*◌, ◌<◌, ◌≤◌, Bool, true, cond, ltb, List, [], ◌∷◌, ◌++◌, length, sum_by, Some, None, Option, sym, ap, ◌∙◌, subst, inl, inr, ⊎_elim, arith}
use Rattle.std.proofs.lemmas.Bool.{cases_eq, cond-true, lt-ltb}
use Rattle.std.proofs.lemmas.List.Sums.{sum_by-cons}
use Rattle.std.specs.List.{range_with_len}
use Rattle.event_queue.proofs.Options.{none_some, some_same}
use Rattle.fairway.specs.Times.{Time}
use Rattle.fairway.specs.Courses.{faster, Due}
use Rattle.fairway.specs.Orders.{Holds, faster_than}
use Rattle.fairway.specs.declared.course.Course.{Course}
use Rattle.fairway.proofs.Advance.{due_faster}
use Rattle.tournament.specs.Places.{taken}
use Rattle.tournament.specs.Matches.{node_at, winner, certificate_of, certificate_at, won_by_second, AllDrawn}
use Rattle.tournament.specs.Loads.{beneath, faster_than_winner, match_load, load}
use Rattle.tournament.specs.Laws.{certificate_parts, within}
use Rattle.tournament.specs.NodesLemmas.{holds_left, holds_right, descend_beneath}

-- a term is at most the sum
term_le : (n a : ℕ) (g : ℕ → ℕ) (m : ℕ) → a ≤ m → m < a + n → g m ≤ sum_by g (range_with_len a n)
term_le zero a g m k l = absurd (omega arith)
term_le (suc n) a g m k l =
    let sum = sum_by-cons g a (range_with_len (a + 1) n) in
    ⊎_elim
    (λ (e : m ≡ a). let here : g m ≡ g a = ap g e in omega (arith, sum, here))
    (λ (e : m ≡ a → ⊥). omega (arith, sum, term_le n (a + 1) g m (omega arith) (omega arith)))
    (cases_eq m a)

-- whoever is faster is counted
counted_in : (w v : Course) (vs : List Course) → Holds vs v → faster v w ≡ true → 0 < faster_than w vs
counted_in w v [] k f = absurd k
counted_in w v (x ∷ xs) (inl e) f =
    let one = cond-true {A = ℕ} (faster x w) 1 0 (ap (λ z. faster z w) e ∙ f) in
    omega (arith, sum_by-cons (λ y. cond (faster y w) 1 0) x xs, one)
counted_in w v (x ∷ xs) (inr k) f = omega (arith, sum_by-cons (λ y. cond (faster y w) 1 0) x xs, counted_in w v xs k f)

-- the front of a certificate is the winner
front_won : (r : Bool) (a b : Option Course) (x y : Course) → certificate_of r a b ≡ Some (x, y) → winner r a b ≡ Some y
front_won r None b x y e = absurd (none_some e)
front_won r (Some u) None x y e = absurd (none_some e)
front_won r (Some u) (Some v) x y e = ap (λ z. Some z.1) (some_same e)

pub loaded : (ns : List (Option Course)) → length ns ≡ 127 → AllDrawn ns → (t : Time) (i : ℕ) (r f : Course) → certificate_at ns i ≡ Some (r, f) → Due t r f → 0 < load ns
unfolding load
loaded ns sized drawn t i r f e d =
    let low : i < 63 = within ns sized i r f e in
    let xs = beneath 5 ns (2 * i + 1) in
    let ys = beneath 5 ns (2 * i + 2) in
    let won : node_at ns i ≡ Some f = drawn i low ∙ front_won (won_by_second ns i) (node_at ns (2 * i + 1)) (node_at ns (2 * i + 2)) r f e in
    let there : Holds (beneath 6 ns i) r =
    subst (λ l. Holds l r) (sym (cond-true (ltb i 63) (xs ++ ys) (taken (node_at ns i ∷ [])) (lt-ltb i 63 low)))
    (⊎_elim
    (λ q. holds_left xs ys r (descend_beneath ns drawn 5 (2 * i + 1) r (omega arith) q))
    (λ q. holds_right xs ys r (descend_beneath ns drawn 5 (2 * i + 2) r (omega arith) q))
    (certificate_parts (won_by_second ns i) (node_at ns (2 * i + 1)) (node_at ns (2 * i + 2)) r f e).0) in
    let some : 0 < match_load ns i =
    subst (λ z. 0 < faster_than_winner z (beneath 6 ns i)) (sym won) (counted_in f r (beneath 6 ns i) there (due_faster t r f d)) in
    omega (arith, some, term_le 63 0 (match_load ns) i (omega arith) low)
