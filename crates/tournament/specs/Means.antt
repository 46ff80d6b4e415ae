-- What the nodes of a tournament mean as a kinetic structure.
use Rattle.std.specs.Prelude.{◌≡◌, ℕ, List, length, drop, Some, None, Option}
use Rattle.fairway.specs.Rosters.{course_of}
use Rattle.fairway.specs.declared.course.Course.{Course}
use Rattle.kinetic.specs.Structures.{Meaning}
use Rattle.tournament.specs.Matches.{aboard, node_at, certificate_at}
use Rattle.tournament.specs.Standing.{StandsAt}
use Rattle.tournament.specs.Loads.{load}

-- the number of a winner, if there is one
abbrev pub number_of : Option Course → Option ℕ
number_of None = None
number_of (Some c) = Some c.number

-- It stands where each certificate is in order or due, and its foremost is the winner of the final. A mend moves no
-- vessel to another place.
abbrev pub tournament_meaning : {S : Type 0} → (S → List (Option Course)) → Meaning S
tournament_meaning nodes =
    record {
      standing = λ t s. StandsAt t (nodes s);
      roster = λ s n. course_of (aboard (nodes s)) n;
      count = λ s. length (aboard (nodes s));
      foremost = λ s. number_of (node_at (nodes s) 0);
      load = λ s. load (nodes s);
      certificate = λ s i. certificate_at (nodes s) i;
      mended = λ rear front s s'. drop 63 (nodes s') ≡ drop 63 (nodes s);
    }
