-- The numbers of the vessels from the front, as the courses are gone through from the rear.
use Rattle.std.proofs.Common.{◌≡◌, ℕ, ◌+◌, ◌<◌, ◌≤◌, List, [], ◌∷◌, ◌++◌, length, map, reverse, take, drop, get_or, sym, ap, ◌∙◌, arith, length-append}
use Rattle.std.proofs.lemmas.List.{append-nil, take_more, take-append-drop, map-append, reverse-append}
use Rattle.std.proofs.lemmas.Grind.{flat_map-append}
use Rattle.fairway.specs.declared.course.Course.{Course}
use Rattle.lines.specs.Lines.{vessel_text, vessel_texts, from_front}

-- courses in front of others come first
front_first : (xs ys : List Course) → vessel_texts (from_front (xs ++ ys)) ≡ vessel_texts (from_front ys) ++ vessel_texts (from_front xs)
front_first xs ys =
    ap vessel_texts (ap reverse (map-append (λ c. c.number) xs ys) ∙ reverse-append (map (λ c. c.number) xs) (map (λ c. c.number) ys))
    ∙ flat_map-append vessel_text (from_front ys) (from_front xs)

-- the next course, of number n, comes before those behind it
pub one_more : (cs : List Course) (i : ℕ) {n : ℕ} (c : Course) → i < length cs → n ≡ (get_or cs i c).number → vessel_texts (from_front (take (i + 1) cs)) ≡ vessel_text n ++ vessel_texts (from_front (take i cs))
one_more cs i {n} c h e =
    ap (λ xs. vessel_texts (from_front xs)) (take_more cs i c h)
    ∙ front_first (take i cs) (get_or cs i c ∷ [])
    ∙ ap (λ t. t ++ vessel_texts (from_front (take i cs))) (append-nil (vessel_text (get_or cs i c).number) ∙ ap vessel_text (sym e))

rear_shorter : (cs : List Course) (i : ℕ) → length (vessel_texts (from_front (take i cs))) ≤ length (vessel_texts (from_front cs))
rear_shorter cs i =
    let e = ap (λ xs. length (vessel_texts (from_front xs))) (take-append-drop i cs) in
    omega (arith, ap length (front_first (take i cs) (drop i cs)), length-append (vessel_texts (from_front (drop i cs))) (vessel_texts (from_front (take i cs))), e)

-- the number of the next course and its blank are no longer than what is left of the text
pub fits : (cs : List Course) (i : ℕ) {n : ℕ} (c : Course) → i < length cs → n ≡ (get_or cs i c).number → length (vessel_text n) + length (vessel_texts (from_front (take i cs))) ≤ length (vessel_texts (from_front cs))
fits cs i {n} c h e =
    omega (arith, rear_shorter cs (i + 1), ap length (one_more cs i c h e), length-append (vessel_text n) (vessel_texts (from_front (take i cs))))
