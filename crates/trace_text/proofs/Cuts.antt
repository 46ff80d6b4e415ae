-- A text in two parts, before and after the first of a byte.
use Rattle.std.proofs.Common.{◌≡◌, ℕ, Bool, true, false, cond, not, ◌&&◌, eqb, List, [], ◌∷◌, ◌++◌, Some, None, Option, refl, ap, subst, arith}
use Rattle.std.proofs.lemmas.Bool.{eqb-true}
use Rattle.trace_text.specs.Parsing.{put_first, cut}

-- bytes in front of the first part
abbrev pub put_front : List ℕ → Option (List ℕ × List ℕ) → Option (List ℕ × List ℕ)
put_front front None = None
put_front front (Some parts) = Some (front ++ parts.0, parts.1)

abbrev pub lacks : ℕ → List ℕ → Bool
lacks at [] = true
lacks at (b ∷ bytes) = not (eqb b at) && lacks at bytes

lacks_step : (t more all : Bool) → (more ≡ true → all ≡ true) → (not t && more) ≡ true → (not t && all) ≡ true
lacks_step true more all go p = absurd cc
lacks_step false more all go p = go p

pub lacks-append : (at : ℕ) (a b : List ℕ) → lacks at a ≡ true → lacks at b ≡ true → lacks at (a ++ b) ≡ true
lacks-append at [] b p q = q
lacks-append at (x ∷ a) b p q = lacks_step (eqb x at) (lacks at a) (lacks at (a ++ b)) (λ more. lacks-append at a b more q) p

same : (n : ℕ) → eqb n n ≡ true
same n = grind arith

again_step : (t more : Bool) (x : ℕ) (a b bytes : List ℕ) (rest : Option (List ℕ × List ℕ)) → (more ≡ true → rest ≡ Some (a, b)) → (not t && more) ≡ true → cond t (Some ([], bytes)) (put_first x rest) ≡ Some (x ∷ a, b)
again_step true more x a b bytes rest go p = absurd cc
again_step false more x a b bytes rest go p = ap (put_first x) (go p)

-- a part without the byte is what stands before it
pub cut_again : (at : ℕ) (a b : List ℕ) → lacks at a ≡ true → cut at (a ++ (at ∷ b)) ≡ Some (a, b)
cut_again at [] b p = ap (λ (t : Bool). cond t (Some ([], b)) (put_first at (cut at b))) (same at)
cut_again at (x ∷ a) b p = again_step (eqb x at) (lacks at a) x a b (a ++ (at ∷ b)) (cut at (a ++ (at ∷ b))) (cut_again at a b) p

abbrev Joins : ℕ → List ℕ → List ℕ × List ℕ → Type 0
Joins at bytes parts = bytes ≡ parts.0 ++ (at ∷ parts.1)

rest_parts : (at b : ℕ) (bytes : List ℕ) (parts : List ℕ × List ℕ) (rest : Option (List ℕ × List ℕ)) → ((found : List ℕ × List ℕ) → rest ≡ Some found → Joins at bytes found) → put_first b rest ≡ Some parts → Joins at (b ∷ bytes) parts
rest_parts at b bytes parts None go e = absurd cc
rest_parts at b bytes parts (Some found) go e =
    let is : (b ∷ found.0, found.1) ≡ parts = cc in
    subst (Joins at (b ∷ bytes)) is (ap (λ (x : List ℕ). b ∷ x) (go found refl))

test_parts : (at b : ℕ) (bytes : List ℕ) (parts : List ℕ × List ℕ) (t : Bool) → eqb b at ≡ t → ((found : List ℕ × List ℕ) → cut at bytes ≡ Some found → Joins at bytes found) → cond t (Some ([], bytes)) (put_first b (cut at bytes)) ≡ Some parts → Joins at (b ∷ bytes) parts
test_parts at b bytes parts true t go e =
    let is : ([], bytes) ≡ parts = cc in
    subst (Joins at (b ∷ bytes)) is (ap (λ (x : ℕ). x ∷ bytes) (eqb-true b at t))
test_parts at b bytes parts false t go e = rest_parts at b bytes parts (cut at bytes) go e

-- what was cut apart
pub cut_parts : (at : ℕ) (bytes : List ℕ) (parts : List ℕ × List ℕ) → cut at bytes ≡ Some parts → bytes ≡ parts.0 ++ (at ∷ parts.1)
cut_parts at [] parts e = absurd cc
cut_parts at (b ∷ bytes) parts e = test_parts at b bytes parts (eqb b at) refl (cut_parts at bytes) e
