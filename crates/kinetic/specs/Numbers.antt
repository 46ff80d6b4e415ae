-- Certificate numbers that a change answers.
use Rattle.std.specs.Prelude.{◌≡◌, ℕ, ◌-◌, ◌<◌, ◌≤◌, Bool, List, [], ◌∷◌, ◌++◌, length, take, drop, replicate, ◌==◌}
use Rattle.std.specs.List.{list_any}
use Rattle.std.proofs.Common.{sym, ap, ◌∙◌, arith}
use Rattle.std.proofs.lemmas.List.{take-append-drop, length-take-le}

-- the number is added behind the others where there is room
pub record Pushed (ns ns' : List ℕ) (number : ℕ) : Type 0 where
  pub value : length ns < 64 → ns' ≡ ns ++ (number ∷ [])
  pub full : 64 ≤ length ns → ns' ≡ ns

-- whether i is one of the numbers
abbrev pub among : ℕ → List ℕ → Bool
among i ns = list_any (λ n. n == i) ns

-- ---- the buffer that holds them
-- 64 places, and zeros from the count on
pub record Padded (count : ℕ) (buffer : List ℕ) : Type 0 where
  pub few : count ≤ 64
  pub long : length buffer ≡ 64
  pub zeros : drop count buffer ≡ replicate (64 - count) 0

-- the numbers, and zeros behind them up to 64
abbrev pub padded : List ℕ → List ℕ
padded ns = ns ++ replicate (64 - length ns) 0

-- the numbers give the count and the buffer back
pub padded_back : (count : ℕ) (buffer : List ℕ) → Padded count buffer → (length (take count buffer) ≡ count) × (padded (take count buffer) ≡ buffer)
padded_back count buffer h =
    let ns = take count buffer in
    let l : length ns ≡ count = length-take-le count buffer (omega (arith, h.few, h.long)) in
    (l, ap (λ k. ns ++ replicate (64 - k) 0) l ∙ ap (λ zs. ns ++ zs) (sym h.zeros) ∙ take-append-drop count buffer)
