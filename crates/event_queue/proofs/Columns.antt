-- One field of every cell, as a list, through a write of a whole cell.
use Rattle.std.proofs.Common.{◌≡◌, ℕ, zero, suc, ◌+◌, ◌<◌, ◌≤◌, List, [], ◌∷◌, ◌++◌, map, length, get_or, set, take, drop, sym, refl, ap, ap₂, ◌∙◌}
use Rattle.std.proofs.lemmas.List.{set_past, length-map, take_all, drop_all, append-nil}
use Rattle.std.proofs.lemmas.List.Edits.{map_over_more}

-- a field that the write keeps
pub map_kept : {X Y : Type 0} (f : X → Y) (xs : List X) (i : ℕ) (d y : X) → f y ≡ f (get_or xs i d) → map f (set xs i y) ≡ map f xs
map_kept f [] i d y e = refl
map_kept f (x ∷ xs) zero d y e = ap (λ v. v ∷ map f xs) e
map_kept f (x ∷ xs) (suc i) d y e = ap (λ v. f x ∷ v) (map_kept f xs i d y e)

-- a write past the cells does nothing
pub map_past : {X Y : Type 0} (f : X → Y) (xs : List X) (i : ℕ) (v : Y) → length xs ≤ i → map f xs ≡ set (map f xs) i v
map_past f xs i v h = sym (set_past (map f xs) i v (simp length-map h))

-- every cell written over, one after the other: one more, and all
module _ {X : Type 0} (f : X → X) (xs ys : List X) (i : ℕ) (written : ys ≡ map f (take i xs) ++ drop i xs) where
  pub over_more : (x y : X) → i < length xs → x ≡ get_or ys i x → y ≡ f (get_or ys i x) → set ys i y ≡ map f (take (i + 1) xs) ++ drop (i + 1) xs
  over_more x y h there e = ap (set ys i) (e ∙ ap f (sym there)) ∙ map_over_more f xs ys i x h written there

  pub over_all : length xs ≤ i → ys ≡ map f xs
  over_all h = written ∙ ap₂ (λ front rest. map f front ++ rest) (take_all i xs h) (drop_all i xs h) ∙ append-nil (map f xs)
