-- A roster as a list of courses, in which no number stands twice.
use Rattle.std.specs.Prelude.{ℕ, cond, List, [], ◌∷◌, Some, None, Option, ◌==◌}
use Rattle.fairway.specs.declared.course.Course.{Course}

-- the course with the number
abbrev pub course_of : List Course → ℕ → Option Course
course_of [] n = None
course_of (x ∷ xs) n = cond (x.number == n) (Some x) (course_of xs n)

-- the courses without the vessel n
abbrev pub without : ℕ → List Course → List Course
without n [] = []
without n (x ∷ xs) = cond (x.number == n) xs (x ∷ without n xs)

-- the courses with another course for the vessel n
abbrev pub altered : (Course → Course) → ℕ → List Course → List Course
altered change n [] = []
altered change n (x ∷ xs) = cond (x.number == n) (change x ∷ xs) (x ∷ altered change n xs)

-- the changed course, where there is one
abbrev pub changed_by : (Course → Course) → Option Course → Option Course
changed_by change None = None
changed_by change (Some c) = Some (change c)
