-- Mending until none is due, on any structure.
use Rattle.std.specs.Prelude.{◌≡◌, ℕ, ◌<◌, true, false, Some, None, Option}
use Rattle.fairway.specs.Times.{Time}
use Rattle.kinetic.specs.Limits.{due}
use Rattle.kinetic.specs.Structures.{Meaning, NoneDue, Rests, Front}

module _ {S : Type 0} (m : Meaning S) where
  -- the least number of a certificate that is due
  abbrev pub FirstDue : Time → S → Option ℕ → Type 0
  FirstDue t s (Some i) = (due t (m.certificate s i) ≡ true) × ((k : ℕ) → k < i → due t (m.certificate s k) ≡ false)
  FirstDue t s None = NoneDue m t s

  -- The roster is as it was, and the answer is what foremost answers then. Of a structure that stood, nothing is due
  -- any more, and the answer is the roster's foremost at t.
  pub record Settled (t : Time) (s s' : S) (answer : Option ℕ) : Type 0 where
    pub roster : (n : ℕ) → m.roster s' n ≡ m.roster s n
    pub answer_is : answer ≡ m.foremost s'
    pub rests : m.standing t s → Rests m t s'
    pub front : m.standing t s → Front t (m.roster s) answer
