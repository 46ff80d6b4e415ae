-- What enter, leave and steer promise, for the places of a tournament.
use Rattle.std.proofs.Common.{◌≡◌, ℕ, ◌+◌, ◌<◌, true, false, List, length, drop, get_or, set, is_some, Some, None, Option, sym, refl, ap, subst, ◌∙◌}
use Rattle.std.proofs.lemmas.Bool.{both_ways}
use Rattle.std.proofs.lemmas.List.{get_or-drop}
use Rattle.fairway.specs.Rosters.{course_of}
use Rattle.fairway.specs.declared.course.Course.{Course}
use Rattle.fairway.proofs.Rosters.{of_found}
use Rattle.tournament.specs.Matches.{node_at}
use Rattle.tournament.specs.Places.{taken, Fits, Sound, PlaceOf, FreePlace}
use Rattle.tournament.proofs.Taken.{Numbered, Alone, sound_set, roster_at, roster_other, alone_free, alone_held}

-- ---- a search that did not find the vessel
pub absent : (xs ys : List (Option Course)) (n : ℕ) (o : Option ℕ) → xs ≡ ys → PlaceOf xs n o → is_some o ≡ false → course_of (taken ys) n ≡ None
absent xs ys n None e p q = ap (λ l. course_of (taken l) n) (sym e) ∙ p
absent xs ys n (Some i) e p q = absurd (both_ways true q refl)

-- ---- the course in the place of a vessel
pub seated : (ns : List (Option Course)) (n p : ℕ) → PlaceOf (drop 63 ns) n (Some p) → (c : Course) × (node_at ns (63 + p) ≡ Some c) × (c.number ≡ n)
seated ns n p h = (h.1.0, sym (get_or-drop 63 ns p None) ∙ h.1.1, (of_found (taken (drop 63 ns)) n h.1.0 h.1.2).1)

-- ---- the place p may be written for the vessel n
pub record Open (xs : List (Option Course)) (n p : ℕ) : Type 0 where
  pub within : p < length xs
  pub numbered : Numbered n (get_or xs p None)
  pub alone : Alone n p xs

pub held : (xs : List (Option Course)) (n p : ℕ) → Sound (taken xs) → PlaceOf xs n (Some p) → Open xs n p
held xs n p s h =
    let k = (of_found (taken xs) n h.1.0 h.1.2).1 in
    record {
      within = h.0;
      numbered = subst (Numbered n) (sym h.1.1) k;
      alone = alone_held n xs p h.1.0 h.1.1 k s.apart;
    }

pub free : (xs : List (Option Course)) (n p : ℕ) → FreePlace xs (Some p) → course_of (taken xs) n ≡ None → Open xs n p
free xs n p h a = record { within = h.0; numbered = subst (Numbered n) (sym h.1) tt; alone = alone_free n xs p h.1 a }

module _ (xs : List (Option Course)) (n p : ℕ) (ready : Open xs n p) where
  pub sound_in : Sound (taken xs) → (c : Course) → c.number ≡ n → Fits c → Sound (taken (set xs p (Some c)))
  sound_in s c k f = sound_set n xs p (Some c) k f ready.alone s

  pub sound_out : Sound (taken xs) → Sound (taken (set xs p None))
  sound_out s = sound_set n xs p None tt tt ready.alone s

  pub roster : (o : Option Course) (ys : List (Option Course)) → Numbered n o → ys ≡ set xs p o →
      (course_of (taken ys) n ≡ o) × ((k : ℕ) → (k ≡ n → ⊥) → course_of (taken ys) k ≡ course_of (taken xs) k)
  roster o ys k e = (
    ap (λ l. course_of (taken l) n) e ∙ roster_at n xs p o ready.within k ready.alone,
    (λ j ne. ap (λ l. course_of (taken l) j) e ∙ roster_other n j xs p o ne k ready.numbered),
  )
