-- What matches that are played again do to certificates and to standing.
use Rattle.std.proofs.Common.{◌≡◌, ℕ, zero, suc, ◌+◌, ◌-◌, ◌*◌, ◌/◌, ◌<◌, ◌≤◌, Bool, true, false, cond, ◌≢◌, ◌⊎◌, List, length, drop, set, Some, None, Option, sym, refl, ap, ◌∙◌, subst, inl, inr, ⊎_elim, length-set, get_or-set_other, arith}
use Rattle.std.proofs.lemmas.List.{drop-set-add}
use Rattle.std.proofs.lemmas.Bool.{cases_lt, cases_Bool, both_ways}
use Rattle.event_queue.proofs.Options.{none_some, some_same}
use Rattle.fairway.specs.Times.{Time, Proper}
use Rattle.fairway.specs.Behind.{behind}
use Rattle.fairway.specs.declared.course.Course.{Course}
use Rattle.fairway.proofs.Sorting.{other}
use Rattle.fairway.proofs.Standings.{not_due}
use Rattle.kinetic.specs.Numbers.{among}
use Rattle.tournament.specs.Places.{Sound}
use Rattle.tournament.specs.Matches.{aboard, node_at, second_wins, winner, is_second, certificate_of, certificate_at, won_by_second, AllDrawn}
use Rattle.tournament.specs.Standing.{Each, StandsAt, NoneDueAt}
use Rattle.tournament.specs.Playing.{match_of}
use Rattle.tournament.specs.Rounds.{DrawnBut, PlayedAbove, NamedAbove, Put}
use Rattle.tournament.specs.NodesLemmas.{reach, winner_from, at_place}
use Rattle.tournament.specs.Laws.{certificate_past}
use Rattle.tournament.proofs.Taken.{apart_at}
use Rattle.tournament.proofs.Paths.{certificate_again}
use Rattle.tournament.proofs.Climbing.{again_from, place_match, match_low}

-- ---- the two of one match are two vessels
-- the first and the last place so many rounds below k
abbrev pub first_below : ℕ → ℕ → ℕ
first_below zero k = k
first_below (suc f) k = first_below f (2 * k + 1)

abbrev last_below : ℕ → ℕ → ℕ
last_below zero k = k
last_below (suc f) k = last_below f (2 * k + 2)

first_le : (f k m : ℕ) → k ≤ m → first_below f k ≤ first_below f m
first_le zero k m h = h
first_le (suc f) k m h = first_le f (2 * k + 1) (2 * m + 1) (omega arith)

last_le : (f k m : ℕ) → k ≤ m → last_below f k ≤ last_below f m
last_le zero k m h = h
last_le (suc f) k m h = last_le f (2 * k + 2) (2 * m + 2) (omega arith)

last_first : (f k m : ℕ) → k < m → last_below f k < first_below f m
last_first zero k m h = h
last_first (suc f) k m h = last_first f (2 * k + 2) (2 * m + 1) (omega arith)

-- the node after the last so many rounds above the places
abbrev pub end_of : ℕ → ℕ
end_of zero = 127
end_of (suc f) = (end_of f - 1) / 2

pub end_low : (f : ℕ) → end_of f ≤ 127
end_low zero = omega arith
end_low (suc f) = omega (arith, end_low f)

module _ (ns : List (Option Course)) (drawn : AllDrawn ns) where
  abbrev Beneath : ℕ → ℕ → Course → Type 0
  Beneath f k c = (i : ℕ) × (63 ≤ i) × (first_below f k ≤ i) × (i ≤ last_below f k) × (node_at ns i ≡ Some c)

  -- whoever is at a node has a place below it
  place_below : (f k : ℕ) (c : Course) → reach f ≤ k → k < end_of f → node_at ns k ≡ Some c → Beneath f k c
  place_below zero k c h l e = (k, h, omega arith, omega arith, e)
  place_below (suc f) k c h l e =
      let p : k < 63 = omega (arith, end_low f) in
      ⊎_elim
      (λ q. let b = place_below f (2 * k + 1) c (omega arith) (omega arith) q in (b.0, b.1, b.2, omega (arith, b.3, last_le f (2 * k + 1) (2 * k + 2) (omega arith)), b.4))
      (λ q. let b = place_below f (2 * k + 2) c (omega arith) (omega arith) q in (b.0, b.1, omega (arith, b.2, first_le f (2 * k + 1) (2 * k + 2) (omega arith)), b.3, b.4))
      (winner_from (won_by_second ns k) (node_at ns (2 * k + 1)) (node_at ns (2 * k + 2)) c (sym (drawn k p) ∙ e))

  module _ (sound : Sound (aboard ns)) where
    two_of : (f j : ℕ) (x y : Course) → reach f ≤ 2 * j + 1 → 2 * j + 2 < end_of f → node_at ns (2 * j + 1) ≡ Some x → node_at ns (2 * j + 2) ≡ Some y → x.number ≢ y.number
    two_of f j x y h l p q =
        let a = place_below f (2 * j + 1) x h (omega arith) p in
        let b = place_below f (2 * j + 2) y (omega arith) l q in
        let i : ℕ = a.0 in
        let k : ℕ = b.0 in
        let lt : i < k = omega (arith, a.3, b.2, last_first f (2 * j + 1) (2 * j + 2) (omega arith)) in
        apart_at (drop 63 ns) (i - 63) (k - 63) x y sound.apart (omega (arith, a.1)) (at_place ns i a.1 ∙ a.4) (at_place ns k b.1 ∙ b.4)

    -- by the round that the match is in
    pub distinct : (j : ℕ) (x y : Course) → j < 63 → node_at ns (2 * j + 1) ≡ Some x → node_at ns (2 * j + 2) ≡ Some y → x.number ≢ y.number
    distinct j x y h =
        ⊎_elim (λ (p : j < 31).
        ⊎_elim (λ (p : j < 15).
        ⊎_elim (λ (p : j < 7).
        ⊎_elim (λ (p : j < 3).
        ⊎_elim (λ (p : j < 1). two_of 5 j x y (omega arith) (omega arith)) (λ (q : 1 ≤ j). two_of 4 j x y (omega arith) (omega arith)) (cases_lt j 1))
        (λ (q : 3 ≤ j). two_of 3 j x y (omega arith) (omega arith)) (cases_lt j 3))
        (λ (q : 7 ≤ j). two_of 2 j x y (omega arith) (omega arith)) (cases_lt j 7))
        (λ (q : 15 ≤ j). two_of 1 j x y (omega arith) (omega arith)) (cases_lt j 15))
        (λ (q : 31 ≤ j). two_of 0 j x y (omega arith) (omega arith)) (cases_lt j 31)

-- ---- a match that was played is in order
module _ (t : Time) (pr : Proper t) where
  sided : (s : Bool) (u v : Course) → u.number ≢ v.number → behind t u v ≡ s → behind t (cond s u v) (cond s v u) ≡ true
  sided true u v n e = e
  sided false u v n e = other t pr u v n e

  played_pair : (a b : Option Course) (x y : Course) → ((u v : Course) → a ≡ Some u → b ≡ Some v → u.number ≢ v.number) → certificate_of (second_wins t a b) a b ≡ Some (x, y) → behind t x y ≡ true
  played_pair None b x y n e = absurd (none_some e)
  played_pair (Some u) None x y n e = absurd (none_some e)
  played_pair (Some u) (Some v) x y n e =
      let q = some_same e in
      subst (λ (z : Course × Course). behind t z.0 z.1 ≡ true) q (sided (behind t u v) u v (n u v refl refl) refl)

  module _ (from : ℕ) (ns ns' : List (Option Course)) (numbers : List ℕ) (again : PlayedAbove t from ns ns' numbers) (long : length ns ≡ 127) (long' : length ns' ≡ 127) where
    -- a certificate whose number is not answered
    pub kept : (i : ℕ) → among i numbers ≡ false → certificate_at ns' i ≡ certificate_at ns i
    kept i e =
        ⊎_elim
        (λ (p : i < 63).
        let n = again.matches i p in
        let a = node_at ns (2 * i + 1) in
        let a' = node_at ns' (2 * i + 1) in
        let b' = node_at ns' (2 * i + 2) in
        ap (λ z. certificate_of (is_second z b') a' b') (n.same_winner e)
        ∙ ap (λ z. certificate_of (is_second (node_at ns i) b') z b') (n.same_first e)
        ∙ ap (λ z. certificate_of (is_second (node_at ns i) z) a z) (n.same_second e))
        (λ (p : 63 ≤ i). certificate_past ns' i long' p ∙ sym (certificate_past ns i long p))
        (cases_lt i 63)

    module _ (sound : Sound (aboard ns')) where
      all_drawn : AllDrawn ns'
      all_drawn j l = (again.matches j l).drawn

      -- each certificate is in order, or was there before
      pub after : (i : ℕ) (x y : Course) → certificate_at ns' i ≡ Some (x, y) → (behind t x y ≡ true) ⊎ (among i numbers ≡ false)
      after i x y c =
          ⊎_elim
          (λ (p : i < 63).
          let n = again.matches i p in
          let a' = node_at ns' (2 * i + 1) in
          let b' = node_at ns' (2 * i + 2) in
          ⊎_elim
          (λ h. inl (played_pair a' b' x y (λ u v q r. distinct ns' all_drawn sound i u v p q r)
          (sym (certificate_again (second_wins t a' b') a' b') ∙ ap (λ z. certificate_of (is_second z b') a' b') (sym (n.played h)) ∙ c)))
          inr
          (cases_Bool (among i numbers)))
          (λ (p : 63 ≤ i). absurd (none_some (sym (certificate_past ns' i long' p) ∙ c)))
          (cases_lt i 63)

      pub stands : StandsAt t ns → StandsAt t ns'
      stands s i x y c = ⊎_elim (λ b. inl b) (λ h. s i x y (sym (kept i h) ∙ c)) (after i x y c)

  -- ---- one place is written
  module _ (p : ℕ) (o : Option Course) (ns ns' : List (Option Course)) (numbers : List ℕ) (low : p < 64) (long : length ns ≡ 127) (long' : length ns' ≡ 127) (again : PlayedAbove t (63 + p) (set ns (63 + p) o) ns' numbers) where
    pub put_places : drop 63 ns' ≡ set (drop 63 ns) p o
    put_places = again.places ∙ drop-set-add 63 ns p o

    long_set : length (set ns (63 + p) o) ≡ 127
    long_set = length-set ns (63 + p) o ∙ long

    certificates : (i : ℕ) → among i numbers ≡ false → certificate_at ns' i ≡ certificate_at ns i
    certificates i e =
        ⊎_elim
        (λ (h : i < 63).
        let ms = set ns (63 + p) o in
        kept (63 + p) ms ns' numbers again long_set long' i e
        ∙ ap (λ z. certificate_of (is_second z (node_at ms (2 * i + 2))) (node_at ms (2 * i + 1)) (node_at ms (2 * i + 2))) (get_or-set_other ns (63 + p) i o None (λ z. omega arith))
        ∙ ap (λ z. certificate_of (is_second (node_at ns i) (node_at ms (2 * i + 2))) z (node_at ms (2 * i + 2))) (get_or-set_other ns (63 + p) (2 * i + 1) o None (λ z. both_ways (among i numbers) e (again.above i (inl (sym z)))))
        ∙ ap (λ z. certificate_of (is_second (node_at ns i) z) (node_at ns (2 * i + 1)) z) (get_or-set_other ns (63 + p) (2 * i + 2) o None (λ z. both_ways (among i numbers) e (again.above i (inr (sym z))))))
        (λ (h : 63 ≤ i). certificate_past ns' i long' h ∙ sym (certificate_past ns i long h))
        (cases_lt i 63)

    module _ (named : NamedAbove (63 + p) numbers) (sound : Sound (aboard ns')) where
      in_order : StandsAt t ns × NoneDueAt t ns → Each ns' (λ x y. behind t x y ≡ true)
      in_order s i x y c =
          ⊎_elim (λ b. b)
          (λ h. ⊎_elim (λ b. b) (λ d. absurd (s.1 i x y (sym (certificates i h) ∙ c) d)) (s.0 i x y (sym (certificates i h) ∙ c)))
          (after (63 + p) (set ns (63 + p) o) ns' numbers again long_set long' sound i x y c)

      pub put_is : Put t p o ns ns' numbers
      put_is =
          record {
            played = record { within = low; places = put_places; again = again_from t (63 + p) (match_of p) (set ns (63 + p) o) ns' numbers (place_match p) (match_low p low) again named; names = named (match_of p) (place_match p) };
            certificates = certificates;
            rests = λ s. ((λ i x y c. inl (in_order s i x y c)), (λ i x y c d. not_due t x y (in_order s i x y c) d));
          }

-- what is drawn stays so, but for the match above the place that is written
pub drawn_but : (p : ℕ) (o : Option Course) (ns : List (Option Course)) → AllDrawn ns → DrawnBut (63 + p) (set ns (63 + p) o)
drawn_but p o ns d i h x y =
    let ms = set ns (63 + p) o in
    let w : node_at ms i ≡ node_at ns i = get_or-set_other ns (63 + p) i o None (λ z. omega arith) in
    let a : node_at ms (2 * i + 1) ≡ node_at ns (2 * i + 1) = get_or-set_other ns (63 + p) (2 * i + 1) o None (λ z. x (sym z)) in
    let b : node_at ms (2 * i + 2) ≡ node_at ns (2 * i + 2) = get_or-set_other ns (63 + p) (2 * i + 2) o None (λ z. y (sym z)) in
    w ∙ d i h
    ∙ ap (λ z. winner (is_second z (node_at ns (2 * i + 2))) (node_at ns (2 * i + 1)) (node_at ns (2 * i + 2))) (sym w)
    ∙ ap (λ z. winner (is_second (node_at ms i) (node_at ns (2 * i + 2))) z (node_at ns (2 * i + 2))) (sym a)
    ∙ ap (λ z. winner (is_second (node_at ms i) z) (node_at ms (2 * i + 1)) z) (sym b)
