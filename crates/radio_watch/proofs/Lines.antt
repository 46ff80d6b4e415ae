-- What the lines of a script ask for, by the parts that its line feeds cut it into.
use Rattle.std.proofs.Common.{◌≡◌, ℕ, ◌+◌, Bool, true, false, cond, not, eqb, List, [], ◌∷◌, ◌++◌, length, map, Some, None, Ok, Err, Bor, ◌⊎◌, inl, inr, refl, ap, ◌∙◌, ⊎_elim, arith}
use Rattle.std.specs.List.{onto_first, slice_split, enumerate_from, filter}
use Rattle.std.proofs.lemmas.List.{map_push}
use Rattle.radio_watch.specs.Script.{lines, reading, item, items_from, items, Item, Reading}

abbrev pub line_feed : ℕ → Bool
line_feed b = eqb b 10

-- a numbered line, the first as 0
abbrev pub Numbered : Type 0
Numbered = ℕ × List ℕ

abbrev pub seen : ℕ × Bor (List ℕ) → Numbered
seen p = (p.0, p.1.now)

-- what numbered lines ask for
abbrev pub asked : List Numbered → List Item
asked [] = []
asked (line ∷ more) = item (line.0 + 1) (reading line.1) (asked more)

item_append : (n : ℕ) (said : Reading) (xs ys : List Item) → item n said (xs ++ ys) ≡ item n said xs ++ ys
item_append n (Ok None) xs ys = refl
item_append n (Ok (Some call)) xs ys = refl
item_append n (Err unknown) xs ys = refl

asked_more : (xs : List Numbered) (x : Numbered) → asked (xs ++ x ∷ []) ≡ asked xs ++ item (x.0 + 1) (reading x.1) []
asked_more [] x = refl
asked_more (y ∷ ys) x = ap (item (y.0 + 1) (reading y.1)) (asked_more ys x) ∙ item_append (y.0 + 1) (reading y.1) (asked ys) (item (x.0 + 1) (reading x.1) [])

-- one line more was read
pub read_more : (found now : List Item) (xs : List (ℕ × Bor (List ℕ))) (x : ℕ × Bor (List ℕ)) (said : Reading) → found ≡ asked (map seen xs) → said ≡ reading x.1.now → now ≡ found ++ item (x.0 + 1) said [] → now ≡ asked (map seen (xs ++ x ∷ []))
read_more found now xs x said inv e put =
    let more = asked_more (map seen xs) (seen x) in
    let pushed : map seen (xs ++ x ∷ []) ≡ map seen xs ++ seen x ∷ [] = map_push seen xs x in
    let all : asked (map seen (xs ++ x ∷ [])) ≡ asked (map seen xs ++ seen x ∷ []) = ap asked pushed in
    cc

-- a line that is not empty
abbrev pub filled : List ℕ → Bool
filled [] = false
filled (b ∷ bs) = true

pub filled_is : (line : List ℕ) (r : Bool) → r ≡ not (eqb (length line) 0) → r ≡ filled line
filled_is [] r e = e
filled_is (b ∷ bs) r e = grind arith

-- an empty line asks for nothing
asked_filled : (xs : List Numbered) → asked (filter (λ x. filled x.1) xs) ≡ asked xs
asked_filled [] = refl
asked_filled ((n, []) ∷ xs) = asked_filled xs
asked_filled ((n, b ∷ bs) ∷ xs) = ap (item (n + 1) (reading (b ∷ bs))) (asked_filled xs)

asked_from : (n : ℕ) (parts : List (List ℕ)) → asked (enumerate_from n parts) ≡ items_from (n + 1) parts
asked_from n [] = refl
asked_from n (part ∷ parts) = ap (item (n + 1) (reading part)) (asked_from (n + 1) parts)

-- the parts are the lines, and then maybe an empty one
abbrev Parts : List (List ℕ) → List (List ℕ) → Type 0
Parts parts ls = (parts ≡ ls) ⊎ (parts ≡ ls ++ [] ∷ [])

onto : (b : ℕ) (parts ls : List (List ℕ)) → Parts parts ls → Parts (onto_first b parts) (onto_first b ls)
onto b parts ls (inl e) = inl (ap (onto_first b) e)
onto b parts [] (inr e) = inl (ap (onto_first b) e)
onto b parts (l ∷ ls) (inr e) = inr (ap (onto_first b) e)

parts_are : (s : List ℕ) → Parts (slice_split line_feed s) (lines s)
parts_are [] = inr refl
parts_are (b ∷ bs) =
    let A : List (List ℕ) = slice_split line_feed bs in
    let L : List (List ℕ) = lines bs in
    let more = parts_are bs in
    let cut : Parts ([] ∷ A) ([] ∷ L) = ⊎_elim (λ e. inl (ap (λ (ps : List (List ℕ)). [] ∷ ps) e)) (λ e. inr (ap (λ (ps : List (List ℕ)). [] ∷ ps) e)) more in
    elim (eqb b 10) as (λ v. Parts (cond v ([] ∷ A) (onto_first b A)) (cond v ([] ∷ L) (onto_first b L))) [ true ↦ cut | false ↦ onto b A L more ]

last_empty : (n : ℕ) (ls : List (List ℕ)) → items_from n (ls ++ [] ∷ []) ≡ items_from n ls
last_empty n [] = refl
last_empty n (l ∷ ls) = ap (item n (reading l)) (last_empty (n + 1) ls)

pub all_asked : (s : List ℕ) → asked (filter (λ x. filled x.1) (enumerate_from 0 (slice_split line_feed s))) ≡ items s
all_asked s = asked_filled (enumerate_from 0 (slice_split line_feed s)) ∙ asked_from 0 (slice_split line_feed s) ∙ ⊎_elim
    (λ e. ap (items_from 1) e)
    (λ e. ap (items_from 1) e ∙ last_empty 1 (lines s))
    (parts_are s)
