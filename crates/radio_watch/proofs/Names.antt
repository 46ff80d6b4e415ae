-- Whether a word is a name.
use Rattle.std.proofs.Common.{◌≡◌, ℕ, eqb, true, false, ◌&&◌, List, [], ◌∷◌, length, get_or, refl, arith}
use Rattle.std.proofs.lemmas.Bool.{ne_eqb}
use Rattle.radio_watch.specs.Script.{same_bytes}

-- a word of another length is another word
pub other_length : (name w : List ℕ) → (length name ≡ length w → ⊥) → same_bytes name w ≡ false
other_length [] [] h = absurd (h refl)
other_length [] (y ∷ ys) h = refl
other_length (x ∷ xs) [] h = refl
other_length (x ∷ xs) (y ∷ ys) h =
    let more = other_length xs ys (λ e. h (omega arith)) in
    elim (eqb x y) as (λ v. (v && same_bytes xs ys) ≡ false) [ true ↦ more | false ↦ refl ]

-- and so is one that begins otherwise
pub other_first : (name : List ℕ) (b : ℕ) (w : List ℕ) → (get_or name 0 0 ≡ b → ⊥) → same_bytes name (b ∷ w) ≡ false
other_first [] b w h = refl
other_first (x ∷ xs) b w h = rw (ne_eqb x b h) refl
