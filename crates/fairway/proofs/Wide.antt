-- Positions fit 128 bits.
use Rattle.std.proofs.Common.{ℕ, ◌*◌, ◌^◌, ◌<◌, ◌≤◌, ℤ, pos, ◌+ℤ◌, ◌*ℤ◌, mul-le-mul, arith, w16, w64, SFits}
use Rattle.std.proofs.lemmas.Int.{ints}
use borrow.Author.Differences.{up, down}
use mir.Syntax.{w128}

pub record Sized (k : ℕ) (s : ℤ) (t : ℕ) : Type 0 where
  pub high : up s * t ≤ k
  pub low : down s * t ≤ k

pub sized : (a b : ℕ) (s : ℤ) (t : ℕ) → up s ≤ a → down s ≤ a → t ≤ b → Sized (a * b) s t
sized a b s t i j h = record { high = mul-le-mul i h; low = mul-le-mul j h }

pub base_fits : (z : ℤ) (d : ℕ) → SFits w64 z → d ≤ 65536 → SFits w128 (z *ℤ pos d)
base_fits z d f h = let s = sized 9223372036854775808 65536 z d (omega (arith, ints)) (omega (arith, ints)) h in omega (arith, ints)

pub speed_fits : (z : ℤ) (d : ℕ) → SFits w16 z → d < 2 ^ 81 → SFits w128 (z *ℤ pos d)
speed_fits z d f h = let s = sized 32768 2417851639229258349412352 z d (omega (arith, ints)) (omega (arith, ints)) (omega arith) in omega (arith, ints)

pub place_fits : (x y : ℤ) (d n : ℕ) → SFits w64 x → SFits w16 y → d ≤ 65536 → n < 2 ^ 81 → SFits w128 ((x *ℤ pos d) +ℤ (y *ℤ pos n))
place_fits x y d n f g h k =
    let s = sized 9223372036854775808 65536 x d (omega (arith, ints)) (omega (arith, ints)) h in
    let t = sized 32768 2417851639229258349412352 y n (omega (arith, ints)) (omega (arith, ints)) (omega arith) in
    omega (arith, ints)
