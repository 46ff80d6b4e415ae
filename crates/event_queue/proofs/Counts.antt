-- How many numbers below n pass a test, as the test changes at one of them.
use Rattle.std.proofs.Common.{◌≡◌, ℕ, zero, suc, ◌+◌, ◌<◌, ◌≤◌, Bool, true, false, cond, refl, ap, ◌∙◌, ⊎_elim, arith}
use Rattle.std.proofs.lemmas.Bool.{cases_eq}
use Rattle.event_queue.specs.Queues.{count_below}

abbrev bit : Bool → ℕ
bit b = cond b 1 0

one_at_most : (b : Bool) → bit b ≤ 1
one_at_most true = omega arith
one_at_most false = omega arith

-- two tests that agree below n
pub count_same : (f g : ℕ → Bool) (n : ℕ) → ((i : ℕ) → i < n → f i ≡ g i) → count_below f n ≡ count_below g n
count_same f g zero e = refl
count_same f g (suc n) e = omega (arith, ap bit (e n (omega arith)), count_same f g n (λ i h. e i (omega arith)))

pub count_none : (f : ℕ → Bool) (n : ℕ) → ((i : ℕ) → i < n → f i ≡ false) → count_below f n ≡ 0
count_none f zero e = refl
count_none f (suc n) e = omega (arith, ap bit (e n (omega arith)), count_none f n (λ i h. e i (omega arith)))

pub count_le : (f : ℕ → Bool) (n : ℕ) → count_below f n ≤ n
count_le f zero = omega arith
count_le f (suc n) = omega (arith, one_at_most (f n), count_le f n)

-- g passes k, which f does not, and else they agree
pub count_more : (f g : ℕ → Bool) (n k : ℕ) → k < n → f k ≡ false → g k ≡ true → ((i : ℕ) → (i ≡ k → ⊥) → g i ≡ f i) → count_below g n ≡ count_below f n + 1
count_more f g zero k h ef eg e = absurd (omega arith)
count_more f g (suc n) k h ef eg e =
    ⊎_elim
    (λ here. omega (arith, ap (λ i. bit (f i)) here ∙ ap bit ef, ap (λ i. bit (g i)) here ∙ ap bit eg, count_same g f n (λ i l. e i (λ z. omega arith))))
    (λ there. omega (arith, ap bit (e n there), count_more f g n k (omega arith) ef eg e))
    (cases_eq n k)

-- a number that does not pass leaves room for one that does
pub count_room : (f : ℕ → Bool) (n k : ℕ) → k < n → f k ≡ false → count_below f n < n
count_room f zero k h e = absurd (omega arith)
count_room f (suc n) k h e =
    ⊎_elim
    (λ here. omega (arith, ap (λ i. bit (f i)) here ∙ ap bit e, count_le f n))
    (λ there. omega (arith, one_at_most (f n), count_room f n k (omega arith) e))
    (cases_eq n k)

-- a number that passes is counted
pub count_some : (f : ℕ → Bool) (n k : ℕ) → k < n → f k ≡ true → 0 < count_below f n
count_some f zero k h e = absurd (omega arith)
count_some f (suc n) k h e =
    ⊎_elim
    (λ here. omega (arith, ap (λ i. bit (f i)) here ∙ ap bit e))
    (λ there. omega (arith, count_some f n k (omega arith) e))
    (cases_eq n k)
