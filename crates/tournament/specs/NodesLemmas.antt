-- Down the nodes: who is at a node has a place beneath it.
use Rattle.std.proofs.Common.{◌≡◌, ℕ, zero, suc, ◌+◌, ◌-◌, ◌*◌, ◌/◌, ◌<◌, ◌≤◌, Bool, true, false, ltb, ◌⊎◌, List, [], ◌∷◌, ◌++◌, length, get_or, drop, Some, None, Option, sym, refl, ap, ◌∙◌, subst, inl, inr, ⊎_elim, arith}
use Rattle.std.proofs.lemmas.List.{get_or-drop, length-drop}
use Rattle.std.proofs.lemmas.Bool.{cases_lt, cond-true, cond-false, lt-ltb, le-ltb}
use Rattle.event_queue.proofs.Options.{none_some, some_same}
use Rattle.fairway.specs.Orders.{Holds}
use Rattle.fairway.specs.declared.course.Course.{Course}
use Rattle.tournament.specs.Places.{taken}
use Rattle.tournament.specs.Matches.{aboard, node_at, winner, won_by_second, AllDrawn}
use Rattle.tournament.specs.Loads.{beneath}
use Rattle.tournament.specs.Playing.{OneOf}

-- ---- the match above a node
halves : (k q : ℕ) → 0 < k → q ≡ (k - 1) / 2 → OneOf k q
halves k q h e = ⊎_elim (λ (p : k < 2 * q + 2). inl (omega arith)) (λ (p : 2 * q + 2 ≤ k). inr (omega arith)) (cases_lt k (2 * q + 2))

pub above : (k : ℕ) → 0 < k → OneOf k ((k - 1) / 2)
above k h = halves k ((k - 1) / 2) h refl

-- ---- places
pub holds_taken : (xs : List (Option Course)) (i : ℕ) (c : Course) → get_or xs i None ≡ Some c → Holds (taken xs) c
holds_taken [] i c e = absurd (none_some e)
holds_taken (None ∷ xs) zero c e = absurd (none_some e)
holds_taken (Some x ∷ xs) zero c e = inl (some_same e)
holds_taken (None ∷ xs) (suc i) c e = holds_taken xs i c e
holds_taken (Some x ∷ xs) (suc i) c e = inr (holds_taken xs i c e)

pub taken_holds : (xs : List (Option Course)) (c : Course) → Holds (taken xs) c →
    (i : ℕ) × (i < length xs) × (get_or xs i None ≡ Some c)
taken_holds [] c h = absurd h
taken_holds (None ∷ xs) c h = let k = taken_holds xs c h in (suc k.0, omega (arith, k.1), k.2)
taken_holds (Some x ∷ xs) c (inl e) = (0, omega arith, ap Some e)
taken_holds (Some x ∷ xs) c (inr h) = let k = taken_holds xs c h in (suc k.0, omega (arith, k.1), k.2)

pub length_taken : (xs : List (Option Course)) → length (taken xs) ≤ length xs
length_taken [] = omega arith
length_taken (None ∷ xs) = omega (arith, length_taken xs)
length_taken (Some x ∷ xs) = omega (arith, length_taken xs)

pub at_place : (ns : List (Option Course)) (k : ℕ) → 63 ≤ k → get_or (drop 63 ns) (k - 63) None ≡ node_at ns k
at_place ns k h = let e : 63 + (k - 63) ≡ k = omega arith in get_or-drop 63 ns (k - 63) None ∙ ap (node_at ns) e

pub holds_place : (ns : List (Option Course)) (k : ℕ) (c : Course) → 63 ≤ k → node_at ns k ≡ Some c →
    Holds (aboard ns) c
holds_place ns k c h e = holds_taken (drop 63 ns) (k - 63) c (at_place ns k h ∙ e)

pub place_holds : (ns : List (Option Course)) (c : Course) → length ns ≡ 127 → Holds (aboard ns) c →
    (k : ℕ) × (k < 127) × (63 ≤ k) × (node_at ns k ≡ Some c)
place_holds ns c l h =
    let s = taken_holds (drop 63 ns) c h in
    let i : ℕ = s.0 in
    let n = length-drop 63 ns in
    (63 + i, omega (arith, s.1), omega arith, sym (get_or-drop 63 ns i None) ∙ s.2)

-- ---- down
pub winner_from : (r : Bool) (a b : Option Course) (c : Course) → winner r a b ≡ Some c → (a ≡ Some c) ⊎ (b ≡ Some c)
winner_from r None b c e = inr e
winner_from r (Some x) None c e = inl e
winner_from true (Some x) (Some y) c e = inr e
winner_from false (Some x) (Some y) c e = inl e

-- the first node so many rounds above the places
abbrev pub reach : ℕ → ℕ
reach zero = 63
reach (suc f) = reach f / 2

pub below : (f k : ℕ) → reach (suc f) ≤ k → (reach f ≤ 2 * k + 1) × (reach f ≤ 2 * k + 2)
below f k h = (omega arith, omega arith)

pub holds_left : (xs ys : List Course) (c : Course) → Holds xs c → Holds (xs ++ ys) c
holds_left [] ys c h = absurd h
holds_left (x ∷ xs) ys c (inl e) = inl e
holds_left (x ∷ xs) ys c (inr h) = inr (holds_left xs ys c h)

pub holds_right : (xs ys : List Course) (c : Course) → Holds ys c → Holds (xs ++ ys) c
holds_right [] ys c h = h
holds_right (x ∷ xs) ys c h = inr (holds_right xs ys c h)

module _ (ns : List (Option Course)) (drawn : AllDrawn ns) where
  pub descend : (f k : ℕ) (c : Course) → reach f ≤ k → node_at ns k ≡ Some c → Holds (aboard ns) c
  descend zero k c h e = holds_place ns k c h e
  descend (suc f) k c h e =
      ⊎_elim
      (λ (p : k < 63).
      ⊎_elim (λ q. descend f (2 * k + 1) c (below f k h).0 q) (λ q. descend f (2 * k + 2) c (below f k h).1 q)
      (winner_from (won_by_second ns k) (node_at ns (2 * k + 1)) (node_at ns (2 * k + 2)) c (sym (drawn k p) ∙ e)))
      (λ (p : 63 ≤ k). holds_place ns k c p e)
      (cases_lt k 63)

  pub descend_beneath : (f k : ℕ) (c : Course) → reach f ≤ k → node_at ns k ≡ Some c → Holds (beneath f ns k) c
  descend_beneath zero k c h e = holds_taken (node_at ns k ∷ []) 0 c e
  descend_beneath (suc f) k c h e =
      let xs = beneath f ns (2 * k + 1) in
      let ys = beneath f ns (2 * k + 2) in
      ⊎_elim
      (λ (p : k < 63).
      subst (λ l. Holds l c) (sym (cond-true (ltb k 63) (xs ++ ys) (taken (node_at ns k ∷ [])) (lt-ltb k 63 p)))
      (⊎_elim
      (λ q. holds_left xs ys c (descend_beneath f (2 * k + 1) c (below f k h).0 q))
      (λ q. holds_right xs ys c (descend_beneath f (2 * k + 2) c (below f k h).1 q))
      (winner_from (won_by_second ns k) (node_at ns (2 * k + 1)) (node_at ns (2 * k + 2)) c (sym (drawn k p) ∙ e))))
      (λ (p : 63 ≤ k).
      subst (λ l. Holds l c) (sym (cond-false (ltb k 63) (xs ++ ys) (taken (node_at ns k ∷ [])) (le-ltb k 63 p)))
      (holds_taken (node_at ns k ∷ []) 0 c e))
      (cases_lt k 63)
