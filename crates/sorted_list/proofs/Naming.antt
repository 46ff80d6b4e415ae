-- Certificate numbers, one after the other.
use Rattle.std.proofs.Common.{◌≡◌, ℕ, zero, suc, ◌+◌, ◌-◌, ◌<◌, ◌≤◌, true, false, List, [], ◌∷◌, ◌++◌, sym, ap, ◌∙◌, ⊎_elim, arith}
use Rattle.std.specs.List.{range_with_len}
use Rattle.std.proofs.lemmas.Bool.{cases_lt, both_ways}
use Rattle.std.proofs.lemmas.Bool.Decides.{nat_tests}
use Rattle.kinetic.specs.Numbers.{among}
use Rattle.sorted_list.specs.Places.{named_from}

one_longer : (a n : ℕ) → range_with_len a (suc n) ≡ range_with_len a n ++ (a + n) ∷ []
one_longer a zero = let e : a ≡ a + 0 = omega arith in ap (λ x. x ∷ []) e
one_longer a (suc n) =
    let e : a + 1 + n ≡ a + suc n = omega arith in
    ap (λ l. a ∷ l) (one_longer (a + 1) n ∙ ap (λ x. range_with_len (a + 1) n ++ x ∷ []) e)

-- the next number added behind those from first on
pub next_named : (first number : ℕ) (ns ms : List ℕ) → first ≤ number → ms ≡ ns ++ number ∷ [] → ns ≡ range_with_len first (number - first) →
    ms ≡ range_with_len first (number + 1 - first)
next_named first number ns ms h e i =
    let last : number ≡ first + (number - first) = omega arith in
    let more : suc (number - first) ≡ number + 1 - first = omega arith in
    e ∙ ap (λ l. l ++ number ∷ []) i ∙ ap (λ k. range_with_len first (number - first) ++ k ∷ []) last
    ∙ sym (one_longer first (number - first)) ∙ ap (range_with_len first) more

among_them : (n a i : ℕ) → a ≤ i → i < a + n → among i (range_with_len a n) ≡ true
among_them zero a i h l = absurd (omega arith)
among_them (suc n) a i h l =
    ⊎_elim
    (λ (m : a < i). let rest = among_them n (a + 1) i (omega arith) (omega arith) in grind (arith, nat_tests))
    (λ (m : i ≤ a). grind (arith, nat_tests))
    (cases_lt a i)

-- below the end, those that are not named are further behind than the place
pub unnamed : (place end k : ℕ) (named : List ℕ) → named ≡ named_from place end → among k named ≡ false → k < end → k + 1 < place
unnamed place end k named e m l =
    ⊎_elim
    (λ (h : k + 1 < place). h)
    (λ (h : place ≤ k + 1). absurd (both_ways (among k named) m (ap (among k) e ∙ among_them (end - (place - 1)) (place - 1) k (omega arith) (omega arith))))
    (cases_lt (k + 1) place)
