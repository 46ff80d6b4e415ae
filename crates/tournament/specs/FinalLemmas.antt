-- Up the nodes: where every certificate is in order, each vessel is the winner of the final or behind it.
use Rattle.std.proofs.Common.{◌≡◌, ℕ, zero, suc, ◌+◌, ◌-◌, ◌*◌, ◌/◌, ◌<◌, ◌≤◌, Bool, true, false, ◌⊎◌, List, Some, None, Option, sym, refl, ap, ◌∙◌, subst, inl, inr, ⊎_elim, arith}
use Rattle.std.proofs.lemmas.Bool.{cases_eq}
use Rattle.event_queue.proofs.Options.{none_some, some_same}
use Rattle.fairway.specs.Times.{Time}
use Rattle.fairway.specs.Behind.{behind}
use Rattle.fairway.specs.declared.course.Course.{Course}
use Rattle.fairway.proofs.Laws.{transitive}
use Rattle.tournament.specs.Matches.{node_at, winner, certificate_of, won_by_second, AllDrawn}
use Rattle.tournament.specs.Standing.{Each}
use Rattle.tournament.specs.NodesLemmas.{above}

module _ (t : Time) where
  -- d is w or behind it
  abbrev Beaten : Course → Course → Type 0
  Beaten d w = (d ≡ w) ⊎ (behind t d w ≡ true)

  beaten : (c d w : Course) → Beaten c d → Beaten d w → Beaten c w
  beaten c d w (inl e) h = subst (λ z. Beaten z w) (sym e) h
  beaten c d w (inr e) (inl q) = inr (subst (λ z. behind t c z ≡ true) q e)
  beaten c d w (inr e) (inr q) = inr (transitive t c d w e q)

  abbrev CertificateInOrder : Bool → Option Course → Option Course → Type 0
  CertificateInOrder r a b = (x y : Course) → certificate_of r a b ≡ Some (x, y) → behind t x y ≡ true

  abbrev LostTo : Bool → Option Course → Option Course → Course → Type 0
  LostTo r a b d = (w : Course) × (winner r a b ≡ Some w) × Beaten d w

  from_left : (r : Bool) (a b : Option Course) (d : Course) → a ≡ Some d → CertificateInOrder r a b → LostTo r a b d
  from_left r None b d e h = absurd (none_some e)
  from_left r (Some x) None d e h = (x, refl, inl (sym (some_same e)))
  from_left true (Some x) (Some y) d e h = (y, refl, inr (subst (λ z. behind t z y ≡ true) (some_same e) (h x y refl)))
  from_left false (Some x) (Some y) d e h = (x, refl, inl (sym (some_same e)))

  from_right : (r : Bool) (a b : Option Course) (d : Course) → b ≡ Some d → CertificateInOrder r a b → LostTo r a b d
  from_right r None b d e h = (d, e, inl refl)
  from_right r (Some x) None d e h = absurd (none_some e)
  from_right true (Some x) (Some y) d e h = (y, refl, inl (sym (some_same e)))
  from_right false (Some x) (Some y) d e h = (x, refl, inr (subst (λ z. behind t z x ≡ true) (some_same e) (h y x refl)))

  module _ (ns : List (Option Course)) (drawn : AllDrawn ns) (good : Each ns (λ x y. behind t x y ≡ true)) where
    pub climb : (n k : ℕ) (d : Course) → k ≤ n → k < 127 → node_at ns k ≡ Some d →
        (w : Course) × (node_at ns 0 ≡ Some w) × Beaten d w
    climb zero k d h l e = let z : k ≡ 0 = omega arith in (d, ap (node_at ns) (sym z) ∙ e, inl refl)
    climb (suc n) k d h l e =
        ⊎_elim
        (λ (z : k ≡ 0). (d, ap (node_at ns) (sym z) ∙ e, inl refl))
        (λ (z : k ≡ 0 → ⊥).
        let j : ℕ = (k - 1) / 2 in
        let p : (k ≡ 2 * j + 1) ⊎ (k ≡ 2 * j + 2) = above k (omega arith) in
        let b : j < 63 = omega arith in
        let a = node_at ns (2 * j + 1) in
        let o = node_at ns (2 * j + 2) in
        let r = won_by_second ns j in
        let up : LostTo r a o d =
        ⊎_elim (λ (q : k ≡ 2 * j + 1). from_left r a o d (ap (node_at ns) (sym q) ∙ e) (good j)) (λ (q : k ≡ 2 * j + 2). from_right r a o d (ap (node_at ns) (sym q) ∙ e) (good j)) p in
        let ih = climb n j up.0 (omega arith) (omega arith) (drawn j b ∙ up.1) in
        (ih.0, ih.1, beaten d up.0 ih.0 up.2 ih.2))
        (cases_eq k 0)
