-- A list of courses as a roster, and its neighbours as certificates.
use Rattle.std.specs.Prelude.{ℕ, zero, suc, Bool, true, cond, not, ◌&&◌, List, [], ◌∷◌, Some, None, Option, ◌==◌, nat_lt}
use Rattle.fairway.specs.declared.course.Course.{Course}
use Rattle.kinetic.specs.Limits.{out_of_range}

-- the number of the last
abbrev pub last_of : Course → List Course → Course
last_of x [] = x
last_of x (y ∷ ys) = last_of y ys

abbrev pub last_number : List Course → Option ℕ
last_number [] = None
last_number (x ∷ xs) = Some (last_of x xs).number

-- the i-th of the list and the next: the certificate of the number i, rear first
abbrev pub certificate_at : List Course → ℕ → Option (Course × Course)
certificate_at [] i = None
certificate_at (x ∷ []) i = None
certificate_at (x ∷ y ∷ ys) zero = Some (x, y)
certificate_at (x ∷ y ∷ ys) (suc i) = certificate_at (y ∷ ys) i

-- the course that stands next after that of the vessel n, and next before it
abbrev pub next_after : ℕ → List Course → Option Course
next_after n [] = None
next_after n (x ∷ []) = None
next_after n (x ∷ y ∷ ys) = cond (x.number == n) (Some y) (next_after n (y ∷ ys))

abbrev pub next_before : ℕ → List Course → Option Course
next_before n [] = None
next_before n (x ∷ []) = None
next_before n (x ∷ y ∷ ys) = cond (y.number == n) (Some x) (next_before n (y ∷ ys))

-- number, speed and base within their limits
abbrev pub allowed : Course → Bool
allowed c = nat_lt 0 c.number && (nat_lt c.number 65536 && not (out_of_range c))

-- no vessel has the number
abbrev pub fresh : ℕ → List Course → Bool
fresh n [] = true
fresh n (y ∷ ys) = not (y.number == n) && fresh n ys

-- all within their limits, no number twice
abbrev pub well : List Course → Bool
well [] = true
well (x ∷ xs) = (allowed x && fresh x.number xs) && well xs
