-- The laws of a kinetic structure, for the nodes of a tournament.
use Rattle.std.proofs.Common.{◌≡◌, ℕ, ◌+◌, ◌*◌, ◌<◌, ◌≤◌, Bool, true, false, ◌⊎◌, List, length, drop, Some, None, Option, sym, refl, ap, ◌∙◌, subst, inl, inr, ⊎_elim, arith}
use Rattle.std.proofs.lemmas.List.{length-drop, get_or_past}
use Rattle.std.proofs.lemmas.Bool.{cases_lt}
use Rattle.event_queue.proofs.Options.{none_some, some_same}
use Rattle.fairway.specs.Times.{Time, Proper, ◌≤ᵗ◌}
use Rattle.fairway.specs.Behind.{behind}
use Rattle.fairway.specs.Rosters.{course_of}
use Rattle.fairway.specs.Standing.{NotLevelBefore}
use Rattle.fairway.specs.declared.course.Course.{Course}
use Rattle.fairway.proofs.Rosters.{found, of_found}
use Rattle.fairway.proofs.Sorting.{held}
use Rattle.fairway.proofs.Standings.{pair_lasts}
use Rattle.kinetic.specs.Structures.{Aboard, Front, vessels}
use Rattle.kinetic.proofs.Counts.{vessels_listed}
use Rattle.tournament.specs.Places.{Sound, Fits}
use Rattle.tournament.specs.Matches.{aboard, node_at, certificate_of, certificate_at, won_by_second, AllDrawn}
use Rattle.tournament.specs.Standing.{Each, StandsAt, NoneDueAt}
use Rattle.tournament.specs.Means.{number_of}
use Rattle.tournament.specs.NodesLemmas.{descend, place_holds, length_taken}
use Rattle.tournament.specs.FinalLemmas.{climb}

-- the two of a certificate are those of the match
pub certificate_parts : (r : Bool) (a b : Option Course) (x y : Course) → certificate_of r a b ≡ Some (x, y) →
    ((a ≡ Some x) ⊎ (b ≡ Some x)) × ((a ≡ Some y) ⊎ (b ≡ Some y))
certificate_parts r None b x y e = absurd (none_some e)
certificate_parts r (Some v) None x y e = absurd (none_some e)
certificate_parts true (Some v) (Some w) x y e = let q = some_same e in (inl (ap (λ z. Some z.0) q), inr (ap (λ z. Some z.1) q))
certificate_parts false (Some v) (Some w) x y e = let q = some_same e in (inr (ap (λ z. Some z.0) q), inl (ap (λ z. Some z.1) q))

pub no_first : (r : Bool) (a b : Option Course) → a ≡ None → certificate_of r a b ≡ None
no_first r None b e = refl
no_first r (Some x) b e = absurd (none_some (sym e))

pub certificate_past : (ns : List (Option Course)) (i : ℕ) → length ns ≡ 127 → 63 ≤ i → certificate_at ns i ≡ None
certificate_past ns i l h = no_first (won_by_second ns i) (node_at ns (2 * i + 1)) (node_at ns (2 * i + 2)) (get_or_past ns (2 * i + 1) None (omega arith))

module _ (ns : List (Option Course)) where
  pub lasts : (t u : Time) → Proper t → Proper u → t ≤ᵗ u → StandsAt t ns → Each ns (NotLevelBefore u) → StandsAt u ns
  lasts t u pt pu l s n i r f e = pair_lasts t u pt pu l r f (s i r f e) (n i r f e)

  pub in_order : (t : Time) → StandsAt t ns → NoneDueAt t ns → Each ns (λ r f. behind t r f ≡ true)
  in_order t s n i r f e = ⊎_elim (λ b. b) (λ d. absurd (n i r f e d)) (s i r f e)

  pub few : length ns ≡ 127 → length (aboard ns) ≤ 64
  few sized = omega (arith, length_taken (drop 63 ns), length-drop 63 ns)

  pub within : length ns ≡ 127 → (i : ℕ) (r f : Course) → certificate_at ns i ≡ Some (r, f) → i < 63
  within sized i r f e = ⊎_elim (λ (p : i < 63). p) (λ (p : 63 ≤ i). absurd (none_some (sym (certificate_past ns i sized p) ∙ e))) (cases_lt i 63)

  pub listed : Sound (aboard ns) → (n : ℕ) (c : Course) → course_of (aboard ns) n ≡ Some c → Aboard n c
  listed sound n c e =
      let k = of_found (aboard ns) n c e in
      let f = held Fits (aboard ns) c sound.fit k.0 in
      record { number = k.1; fits = subst (λ m. m < 65536) k.1 f.fits; in_range = f.in_range }

  module _ (sized : length ns ≡ 127) (sound : Sound (aboard ns)) (drawn : AllDrawn ns) where
    held_at : (k : ℕ) (c : Course) → node_at ns k ≡ Some c → course_of (aboard ns) c.number ≡ Some c
    held_at k c e = found (aboard ns) c sound.apart (descend ns drawn 6 k c (omega arith) e)

    pub certified : (i : ℕ) (r f : Course) → certificate_at ns i ≡ Some (r, f) →
        (i < 64) × (course_of (aboard ns) r.number ≡ Some r) × (course_of (aboard ns) f.number ≡ Some f)
    certified i r f e =
        let p = within sized i r f e in
        let q = certificate_parts (won_by_second ns i) (node_at ns (2 * i + 1)) (node_at ns (2 * i + 2)) r f e in
        (omega arith, ⊎_elim (held_at (2 * i + 1) r) (held_at (2 * i + 2) r) q.0, ⊎_elim (held_at (2 * i + 1) f) (held_at (2 * i + 2) f) q.1)

    none_of : (o : Option Course) (xs : List Course) (n : ℕ) → course_of xs n ≡ o →
        ((d : Course) → course_of xs n ≡ Some d → ⊥) → course_of xs n ≡ None
    none_of None xs n e h = e
    none_of (Some d) xs n e h = absurd (h d e)

    front_of : (t : Time) → Each ns (λ r f. behind t r f ≡ true) → (o : Option Course) → node_at ns 0 ≡ o →
        Front t (course_of (aboard ns)) (number_of o)
    front_of t good None e = λ n. none_of (course_of (aboard ns) n) (aboard ns) n refl (λ d h.
        let k = place_holds ns d sized (of_found (aboard ns) n d h).0 in
        let w = climb t ns drawn good k.0 k.0 d (omega arith) k.1 k.3 in
        none_some (sym e ∙ w.1))
    front_of t good (Some v) e = (
      v,
      held_at 0 v e,
      (λ n d ne h.
          let o = of_found (aboard ns) n d h in
          let k = place_holds ns d sized o.0 in
          let w = climb t ns drawn good k.0 k.0 d (omega arith) k.1 k.3 in
          let q : w.0 ≡ v = some_same (sym w.1 ∙ e) in
          ⊎_elim (λ g. absurd (ne (sym o.1 ∙ ap (λ z. z.number) (g ∙ q)))) (λ g. subst (λ z. behind t d z ≡ true) q g) w.2),
    )

    pub front : (t : Time) → StandsAt t ns → NoneDueAt t ns → Front t (course_of (aboard ns)) (number_of (node_at ns 0))
    front t s n = front_of t (in_order t s n) (node_at ns 0) refl

pub counted : (ns : List (Option Course)) → Sound (aboard ns) → length (aboard ns) ≡ vessels (course_of (aboard ns))
counted ns s = vessels_listed {P = Fits} (λ c f. f.fits) (aboard ns) s.apart s.fit
