-- The bytes of a number give it back, and the number of some bytes gives those back.
use Rattle.std.proofs.Common.{◌≡◌, ℕ, zero, suc, ◌^◌, ◌<◌, List, [], ◌∷◌, ◌++◌, get_or, w16, w32, ℤ, SFits, to_z, of_z, refl, sym, ap, ◌∙◌, arith}
use Rattle.std.specs.Int.{to_be_bytes, from_be_bytes}
use Rattle.std.proofs.lemmas.Nat.{be_bytes_2, be_bytes_4, from_be_bytes-to_be_bytes_2, from_be_bytes-to_be_bytes_4}
use Rattle.std.proofs.lemmas.Int.{to_z-of_z, of_z-to_z}
use Rattle.std.proofs.Math.Facts.{sfits_to_z, Fits-of_z}
use Rattle.trace.specs.Layout.{u16_of, u32_of}

abbrev pub IsBytes : List ℕ → Type 0
IsBytes bytes = (i : ℕ) → get_or bytes i 0 < 256

pub IsBytes-rest : (b : ℕ) (bytes : List ℕ) → IsBytes (b ∷ bytes) → IsBytes bytes
IsBytes-rest b bytes h i = h (suc i)

pub IsBytes-behind : (front bytes : List ℕ) → IsBytes (front ++ bytes) → IsBytes bytes
IsBytes-behind [] bytes h = h
IsBytes-behind (b ∷ front) bytes h = IsBytes-behind front bytes (IsBytes-rest b (front ++ bytes) h)

module _ (b1 b0 : ℕ) (h1 : b1 < 256) (h0 : b0 < 256) where
  two : IsBytes (b1 ∷ b0 ∷ [])
  two zero = h1
  two (suc zero) = h0
  two (suc (suc i)) = omega arith

  pub u16_below : u16_of b1 b0 < 2 ^ 16
  u16_below = omega arith

  pub i16_fits : SFits w16 (to_z w16 (u16_of b1 b0))
  i16_fits = sfits_to_z (record { fits = u16_below })

  pub u16_bytes : b1 ∷ b0 ∷ [] ≡ to_be_bytes w16 (u16_of b1 b0)
  u16_bytes = sym (be_bytes_2 (b1 ∷ b0 ∷ []) (u16_of b1 b0) refl two refl)

  pub i16_bytes : b1 ∷ b0 ∷ [] ≡ to_be_bytes w16 (of_z w16 (to_z w16 (u16_of b1 b0)))
  i16_bytes = u16_bytes ∙ sym (ap (to_be_bytes w16) (of_z-to_z w16 (u16_of b1 b0) u16_below))

module _ (b3 b2 b1 b0 : ℕ) (h3 : b3 < 256) (h2 : b2 < 256) (h1 : b1 < 256) (h0 : b0 < 256) where
  four : IsBytes (b3 ∷ b2 ∷ b1 ∷ b0 ∷ [])
  four zero = h3
  four (suc zero) = h2
  four (suc (suc zero)) = h1
  four (suc (suc (suc zero))) = h0
  four (suc (suc (suc (suc i)))) = omega arith

  pub u32_below : u32_of b3 b2 b1 b0 < 2 ^ 32
  u32_below = omega arith

  pub i32_fits : SFits w32 (to_z w32 (u32_of b3 b2 b1 b0))
  i32_fits = sfits_to_z (record { fits = u32_below })

  pub u32_bytes : b3 ∷ b2 ∷ b1 ∷ b0 ∷ [] ≡ to_be_bytes w32 (u32_of b3 b2 b1 b0)
  u32_bytes = sym (be_bytes_4 (b3 ∷ b2 ∷ b1 ∷ b0 ∷ []) (u32_of b3 b2 b1 b0) refl four refl)

  pub i32_bytes : b3 ∷ b2 ∷ b1 ∷ b0 ∷ [] ≡ to_be_bytes w32 (of_z w32 (to_z w32 (u32_of b3 b2 b1 b0)))
  i32_bytes = u32_bytes ∙ sym (ap (to_be_bytes w32) (of_z-to_z w32 (u32_of b3 b2 b1 b0) u32_below))

pub u16_again : (n : ℕ) → n < 2 ^ 16 → from_be_bytes w16 (to_be_bytes w16 n) ≡ n
u16_again n h = from_be_bytes-to_be_bytes_2 n h

pub u32_again : (n : ℕ) → n < 2 ^ 32 → from_be_bytes w32 (to_be_bytes w32 n) ≡ n
u32_again n h = from_be_bytes-to_be_bytes_4 n h

pub i16_again : (z : ℤ) → SFits w16 z → to_z w16 (from_be_bytes w16 (to_be_bytes w16 (of_z w16 z))) ≡ z
i16_again z h = ap (to_z w16) (from_be_bytes-to_be_bytes_2 (of_z w16 z) (Fits-of_z h).fits) ∙ to_z-of_z w16 z h

pub i32_again : (z : ℤ) → SFits w32 z → to_z w32 (from_be_bytes w32 (to_be_bytes w32 (of_z w32 z))) ≡ z
i32_again z h = ap (to_z w32) (from_be_bytes-to_be_bytes_4 (of_z w32 z) (Fits-of_z h).fits) ∙ to_z-of_z w32 z h
