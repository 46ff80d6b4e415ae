-- Sums over lists and over the pairs of a list.
use Rattle.std.proofs.Common.{◌≡◌, ℕ, ◌+◌, Bool, true, false, cond, List, [], ◌∷◌, ◌++◌, map, length, sum_by, filter, refl, ap, ◌∙◌, arith}
use Rattle.std.specs.List.{flat_map, AllByRecursion}
use Rattle.std.proofs.lemmas.List.Sums.{sum_by-cons}

abbrev pub over : {X : Type 0} → (X → ℕ) → List X → ℕ
over f [] = 0
over f (x ∷ xs) = f x + over f xs

-- a pair for each two places
abbrev pub tri : {X : Type 0} → (X → X → ℕ) → List X → ℕ
tri g [] = 0
tri g (x ∷ xs) = over (g x) xs + tri g xs

-- a pair for each two elements, either way round
abbrev pub full : {X : Type 0} → (X → X → ℕ) → List X → List X → ℕ
full g xs ys = over (λ x. over (g x) ys) xs

module _ {X : Type 0} where
  pub over_is : (f : X → ℕ) (xs : List X) → sum_by f xs ≡ over f xs
  over_is f [] = refl
  over_is f (x ∷ xs) = sum_by-cons f x xs ∙ ap (λ n. f x + n) (over_is f xs)

  pub over_append : (f : X → ℕ) (xs ys : List X) → over f (xs ++ ys) ≡ over f xs + over f ys
  over_append f [] ys = omega arith
  over_append f (x ∷ xs) ys = omega (arith, over_append f xs ys)

  pub over_map : {Y : Type 0} (f : X → ℕ) (h : Y → X) (ys : List Y) → over f (map h ys) ≡ over (λ y. f (h y)) ys
  over_map f h [] = refl
  over_map f h (y ∷ ys) = ap (λ n. f (h y) + n) (over_map f h ys)

  pub over_same : (f g : X → ℕ) (xs : List X) → AllByRecursion (λ x. f x ≡ g x) xs → over f xs ≡ over g xs
  over_same f g [] h = refl
  over_same f g (x ∷ xs) h = omega (arith, h.0, over_same f g xs h.1)

  pub over_all : (f g : X → ℕ) → ((x : X) → f x ≡ g x) → (xs : List X) → over f xs ≡ over g xs
  over_all f g h [] = refl
  over_all f g h (x ∷ xs) = omega (arith, h x, over_all f g h xs)

  pub over_none : (f : X → ℕ) (xs : List X) → AllByRecursion (λ x. f x ≡ 0) xs → over f xs ≡ 0
  over_none f [] h = refl
  over_none f (x ∷ xs) h = omega (arith, h.0, over_none f xs h.1)

  pub over_add : (f g : X → ℕ) (xs : List X) → over (λ x. f x + g x) xs ≡ over f xs + over g xs
  over_add f g [] = refl
  over_add f g (x ∷ xs) = omega (arith, over_add f g xs)

  pub over_kept : (f : X → ℕ) (p : X → Bool) (xs : List X) → over f (filter p xs) ≡ over (λ x. cond (p x) (f x) 0) xs
  over_kept f p [] = refl
  over_kept f p (x ∷ xs) =
      let ih = over_kept f p xs in
      elim (p x) as (λ b. over f (cond b (x ∷ filter p xs) (filter p xs)) ≡ cond b (f x) 0 + over (λ y. cond (p y) (f y) 0) xs)
      [ true ↦ omega (arith, ih) | false ↦ omega (arith, ih) ]

  pub over_joined : {Y : Type 0} (f : X → ℕ) (h : Y → List X) (ys : List Y) → over f (flat_map h ys) ≡ over (λ y. over f (h y)) ys
  over_joined f h [] = refl
  over_joined f h (y ∷ ys) = over_append f (h y) (flat_map h ys) ∙ ap (λ n. over f (h y) + n) (over_joined f h ys)

  pub length_over : (xs : List X) → length xs ≡ over (λ x. 1) xs
  length_over [] = refl
  length_over (x ∷ xs) = omega (arith, length_over xs)

  pub full_same : (g h : X → X → ℕ) → ((x y : X) → g x y ≡ h x y) → (xs ys : List X) → full g xs ys ≡ full h xs ys
  full_same g h e xs ys = over_all (λ x. over (g x) ys) (λ x. over (h x) ys) (λ x. over_all (g x) (h x) (e x) ys) xs

  pub full_add : (g h : X → X → ℕ) (xs ys : List X) → full (λ x y. g x y + h x y) xs ys ≡ full g xs ys + full h xs ys
  full_add g h xs ys =
      over_all (λ x. over (λ y. g x y + h x y) ys) (λ x. over (g x) ys + over (h x) ys) (λ x. over_add (g x) (h x) ys) xs
      ∙ over_add (λ x. over (g x) ys) (λ x. over (h x) ys) xs
