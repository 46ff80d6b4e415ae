-- The tables of refusals, line by line, for whoever implements or calls a structure.
use Rattle.std.proofs.Common.{◌≡◌, ℕ, ◌<◌, ◌≤◌, true, false, is_some, Some, None, Option, refl, arith}
use Rattle.std.proofs.lemmas.Bool.Decides.{nat_tests}
use Rattle.std.proofs.lemmas.Bool.{false≢true}
use Rattle.fairway.specs.Times.{Time}
use Rattle.fairway.specs.declared.course.Course.{Course}
use Rattle.kinetic.specs.Limits.{out_of_range, due}
use Rattle.kinetic.specs.Structures.{Meaning, enter_refusal, vessel_refusal, steer_refusal, mend_refusal}
use Rattle.kinetic.specs.declared.refusal.Refusal.TheVariants.{NumberZero, OutOfRange, AlreadyAboard, Full, UnknownVessel, NotDue}

module _ {S : Type 0} (m : Meaning S) (s : S) where
  module _ (c : Course) where
    pub enter_zero : c.number ≡ 0 → enter_refusal m s c ≡ Some NumberZero
    enter_zero h = grind (arith, nat_tests)

    pub steer_zero : c.number ≡ 0 → steer_refusal m s c ≡ Some NumberZero
    steer_zero h = grind (arith, nat_tests)

    module _ (n : c.number ≡ 0 → ⊥) where
      pub enter_range : out_of_range c ≡ true → enter_refusal m s c ≡ Some OutOfRange
      enter_range o = grind (arith, nat_tests)

      pub steer_range : out_of_range c ≡ true → steer_refusal m s c ≡ Some OutOfRange
      steer_range o = grind (arith, nat_tests)

      module _ (o : out_of_range c ≡ false) where
        pub enter_aboard : (d : Course) → m.roster s c.number ≡ Some d → enter_refusal m s c ≡ Some AlreadyAboard
        enter_aboard d e = grind (arith, nat_tests)

        pub steer_unknown : m.roster s c.number ≡ None → steer_refusal m s c ≡ Some UnknownVessel
        steer_unknown e = grind (arith, nat_tests)

        pub steer_accepted : (d : Course) → m.roster s c.number ≡ Some d → steer_refusal m s c ≡ None
        steer_accepted d e = grind (arith, nat_tests)

        module _ (e : m.roster s c.number ≡ None) where
          pub enter_full : 64 ≤ m.count s → enter_refusal m s c ≡ Some Full
          enter_full h = grind (arith, nat_tests)

          pub enter_accepted : m.count s < 64 → enter_refusal m s c ≡ None
          enter_accepted h = grind (arith, nat_tests)

  module _ (n : ℕ) where
    pub vessel_zero : n ≡ 0 → vessel_refusal m s n ≡ Some NumberZero
    vessel_zero h = grind (arith, nat_tests)

    pub vessel_unknown : (n ≡ 0 → ⊥) → m.roster s n ≡ None → vessel_refusal m s n ≡ Some UnknownVessel
    vessel_unknown h e = grind (arith, nat_tests)

    pub vessel_known : (n ≡ 0 → ⊥) → (d : Course) → m.roster s n ≡ Some d → vessel_refusal m s n ≡ None
    vessel_known h d e = grind (arith, nat_tests)

  pub mend_not_due : (t : Time) (i : ℕ) → due t (m.certificate s i) ≡ false → mend_refusal m t s i ≡ Some NotDue
  mend_not_due t i e = grind (arith, nat_tests)

  pub mend_accepted : (t : Time) (i : ℕ) → due t (m.certificate s i) ≡ true → mend_refusal m t s i ≡ None
  mend_accepted t i e = grind (arith, nat_tests)

-- ---- what is known of an accepted call
some_of : (o : Option Course) → is_some o ≡ true → (c : Course) × (o ≡ Some c)
some_of None e = absurd (false≢true e)
some_of (Some c) e = (c, refl)

module _ {S : Type 0} (m : Meaning S) (s : S) where
  pub record Enterable (c : Course) : Type 0 where
    pub numbered : c.number ≡ 0 → ⊥
    pub within : out_of_range c ≡ false
    pub absent : m.roster s c.number ≡ None
    pub room : m.count s < 64

  pub enterable : (c : Course) → enter_refusal m s c ≡ None → Enterable c
  enterable c e =
      record {
        numbered = grind (arith, nat_tests);
        within = grind (arith, nat_tests);
        absent = grind (arith, nat_tests);
        room = grind (arith, nat_tests);
      }

  -- the vessel that leaves, or that a question is on
  pub vessel_aboard : (n : ℕ) → vessel_refusal m s n ≡ None → (c : Course) × (m.roster s n ≡ Some c)
  vessel_aboard n e = some_of (m.roster s n) (grind (arith, nat_tests))

  -- the vessel that is steered
  pub steered_aboard : (c : Course) → steer_refusal m s c ≡ None → (d : Course) × (m.roster s c.number ≡ Some d)
  steered_aboard c e = some_of (m.roster s c.number) (grind (arith, nat_tests))
