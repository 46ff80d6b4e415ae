-- What a list of courses, from rear to front, means as a kinetic structure.
use Rattle.std.specs.Prelude.{List, length}
use Rattle.fairway.specs.Rosters.{course_of}
use Rattle.fairway.specs.Orders.{load, Exchange}
use Rattle.fairway.specs.Standing.{Stands}
use Rattle.fairway.specs.declared.course.Course.{Course}
use Rattle.kinetic.specs.Structures.{Meaning}
use Rattle.sorted_list.specs.Rosters.{last_number}
use Rattle.sorted_list.specs.Rosters.{certificate_at}

-- It stands where every two, neighbours or not, are in order or due: neighbours alone would not do. A mend
-- exchanges the two.
abbrev pub list_meaning : {S : Type 0} → (S → List Course) → Meaning S
list_meaning courses =
    record {
      standing = λ t s. Stands t (courses s);
      roster = λ s n. course_of (courses s) n;
      count = λ s. length (courses s);
      foremost = λ s. last_number (courses s);
      load = λ s. load (courses s);
      certificate = λ s i. certificate_at (courses s) i;
      mended = λ rear front s s'. Exchange rear front (courses s) (courses s');
    }
