-- The first 64 of a list of cells, lent as a part and written back.
use Rattle.std.proofs.Common.{◌≡◌, ℕ, min, List, ◌++◌, length, take, drop, sym, ap, ◌∙◌, subst, ⊎_elim, arith}
use Rattle.std.proofs.lemmas.Slice.{drop-append-drop}
use Rattle.std.proofs.lemmas.Bool.{cases_lt}
use Rattle.std.proofs.lemmas.List.{length-take, take_all, take_at, drop_all, append-nil}

module _ {X : Type 0} (xs ys : List X) (k : ℕ) (ek : k ≡ min (length xs) 64) (ey : length ys ≡ length (take k xs)) where
  front_length : length ys ≡ k
  front_length = ey ∙ length-take k xs ∙ omega arith

  -- what lies past them stays
  pub front_past : drop 64 (ys ++ drop k xs) ≡ drop 64 xs
  front_past = drop-append-drop k xs ys 64 (omega arith) front_length

  front_after : take 64 (ys ++ drop k xs) ≡ ys
  front_after =
      ⊎_elim
      (λ h. ap (λ zs. take 64 (ys ++ zs)) (drop_all k xs (omega arith)) ∙ ap (take 64) (append-nil ys) ∙ take_all 64 ys (omega (arith, front_length)))
      (λ h. take_at ys (drop k xs) 64 (omega (arith, front_length)))
      (cases_lt (length xs) 64)

  front_before : take k xs ≡ take 64 xs
  front_before =
      ⊎_elim
      (λ h. take_all k xs (omega arith) ∙ sym (take_all 64 xs (omega arith)))
      (λ h. let e : k ≡ 64 = omega arith in ap (λ n. take n xs) e)
      (cases_lt (length xs) 64)

  -- what holds of the part before and after holds of the first 64 before and after
  pub front_holds : (R : List X → List X → Type 0) → R (take k xs) ys → R (take 64 xs) (take 64 (ys ++ drop k xs))
  front_holds R h = subst (R (take 64 xs)) (sym front_after) (subst (λ part. R part ys) front_before h)

pub length_64 : {X : Type 0} (xs : List X) → length (take 64 xs) ≡ min (length xs) 64
length_64 xs = length-take 64 xs ∙ omega arith
