-- The vessels beneath a node are those of a block of places.
use Rattle.std.proofs.Common.{◌≡◌, ℕ, zero, suc, ◌+◌, ◌*◌, ◌<◌, ◌≤◌, List, ◌++◌, length, take, drop, None, Option, sym, refl, ap, ◌∙◌, arith}
use Rattle.std.proofs.lemmas.List.{drop-drop, drop_more, take_all, length-drop}
use Rattle.std.proofs.Math.Seq.{take-add}
use Rattle.std.proofs.lemmas.List.Elements.{filter_map-append}
use Rattle.fairway.specs.declared.course.Course.{Course}
use Rattle.tournament.specs.Places.{taken}
use Rattle.tournament.specs.Loads.{beneath, AllBeneath}
use Rattle.tournament.specs.NodesLemmas.{reach}
use Rattle.tournament.proofs.Again.{first_below, end_of, end_low}
use Rattle.tournament.proofs.Beneath.{match_beneath, twice}

first_next : (f k : ℕ) → first_below f (k + 1) ≡ first_below f k + twice f
first_next zero k = refl
first_next (suc f) k =
    let e : 2 * (k + 1) + 1 ≡ 2 * k + 1 + 1 + 1 = omega arith in
    ap (first_below f) e ∙ omega (arith, first_next f (2 * k + 1 + 1), first_next f (2 * k + 1))

block : (ns : List (Option Course)) → length ns ≡ 127 → (f k : ℕ) → reach f ≤ k → k < end_of f → beneath f ns k ≡ taken (take (twice f) (drop (first_below f k) ns))
block ns h zero k r c = sym (ap (λ l. taken (take 1 l)) (drop_more ns k None (omega arith)))
block ns h (suc f) k r c =
    let l : k < 63 = omega (arith, end_low f) in
    let a : ℕ = first_below f (2 * k + 1) in
    let w : ℕ = twice f in
    let e : 2 * k + 2 ≡ 2 * k + 1 + 1 = omega arith in
    let n : first_below f (2 * k + 2) ≡ a + w = ap (first_below f) e ∙ first_next f (2 * k + 1) in
    match_beneath ns f k l
    ∙ ap (λ z. z ++ beneath f ns (2 * k + 2)) (block ns h f (2 * k + 1) (omega arith) (omega arith))
    ∙ ap (λ z. taken (take w (drop a ns)) ++ z) (block ns h f (2 * k + 2) (omega arith) (omega arith) ∙ ap (λ z. taken (take w (drop z ns))) n ∙ ap (λ z. taken (take w z)) (sym (drop-drop w a ns)))
    ∙ sym (filter_map-append (λ place. place) (take w (drop a ns)) (take w (drop w (drop a ns))))
    ∙ ap taken (sym (take-add w w (drop a ns)))

pub all_beneath : AllBeneath
all_beneath ns h = block ns h 6 0 (omega arith) (omega arith) ∙ ap taken (take_all 64 (drop 63 ns) (omega (arith, length-drop 63 ns)))
