-- What a mend leaves.
use Rattle.std.proofs.Common.{◌≡◌, ℕ, ◌+◌, ◌*◌, ◌<◌, true, List, length, Some, Option, refl, ap, subst, sym, inl, ⊎_elim}
use Rattle.std.proofs.lemmas.Bool.{cases_Bool}
use Rattle.fairway.specs.Times.{Time, Proper}
use Rattle.fairway.specs.Courses.{Due}
use Rattle.fairway.specs.declared.course.Course.{Course}
use Rattle.kinetic.specs.Limits.{due}
use Rattle.kinetic.specs.Numbers.{among}
use Rattle.kinetic.proofs.Tests.{due_pair, tested}
use Rattle.tournament.specs.Places.{taken, Sound}
use Rattle.tournament.specs.Matches.{aboard, certificate_at, AllDrawn}
use Rattle.tournament.specs.Standing.{StandsAt}
use Rattle.tournament.specs.Loads.{load, LoadsFall}
use Rattle.tournament.specs.Rounds.{PlayedAbove, NamedAbove}
use Rattle.tournament.specs.Laws.{within}
use Rattle.tournament.proofs.Again.{stands}
use Rattle.tournament.proofs.Falls.{match_same, match_less, match_falls, falls}

-- the certificate i is due at t
pub record DueAt (t : Time) (ns : List (Option Course)) (i : ℕ) : Type 0 where
  pub rear : Course
  pub front : Course
  pub is : certificate_at ns i ≡ Some (rear, front)
  pub due : Due t rear front
  pub low : i < 63

pub told_due : (t : Time) (ns : List (Option Course)) (i : ℕ) (o : Option (Course × Course)) → length ns ≡ 127 → true ≡ due t o → o ≡ certificate_at ns i → DueAt t ns i
told_due t ns i o l e q =
    let p = due_pair t (certificate_at ns i) (tested t o (certificate_at ns i) true e q) in
    record { rear = p.0; front = p.1; is = p.2; due = p.3; low = within ns l i p.0 p.1 p.2 }

module _ (t : Time) (pr : Proper t) (ns ns' : List (Option Course)) (numbers : List ℕ) (i : ℕ) (sized : length ns ≡ 127) (sized' : length ns' ≡ 127) (sound : Sound (aboard ns)) (drawn : AllDrawn ns) (again : PlayedAbove t (2 * i + 1) ns ns' numbers) where
  pub same_aboard : aboard ns' ≡ aboard ns
  same_aboard = ap taken again.places

  pub same_sound : Sound (aboard ns')
  same_sound = subst Sound (sym same_aboard) sound

  pub mended_stands : DueAt t ns i → StandsAt t ns → StandsAt t ns' × (load ns' < load ns)
  mended_stands d s = (
    stands t pr (2 * i + 1) ns ns' numbers again sized sized' same_sound s,
    falls t ns ns' numbers (2 * i + 1) drawn again s i d.low (again.above i (inl refl)) d.rear d.front d.is d.due,
  )

  pub loads_fall : NamedAbove (2 * i + 1) numbers → DueAt t ns i → StandsAt t ns → LoadsFall i ns ns'
  loads_fall named d s =
      record {
        mended = match_falls t ns ns' numbers (2 * i + 1) drawn again s i d.low (again.above i (inl refl)) d.rear d.front d.is d.due;
        none_rises = match_less t ns ns' numbers (2 * i + 1) drawn again s;
        others = λ j no. match_same t ns ns' numbers (2 * i + 1) drawn again s j (⊎_elim (λ e. absurd (no (((named i (inl refl)).those j).0 e))) (λ e. e) (cases_Bool (among j numbers)));
      }
