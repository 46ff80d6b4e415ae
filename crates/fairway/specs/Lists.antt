-- What the calls on a list of courses, from rear to front, answer.
use Rattle.std.specs.Prelude.{◌≡◌, ℕ, zero, suc, ◌+◌, ◌*◌, ◌<◌, ◌≤◌, Bool, true, false, List, [], ◌∷◌, length, swap, Some, None, Option}
use Rattle.std.specs.Bool.{Decides}
use Rattle.fairway.specs.Times.{Time, Proper, ◌≤ᵗ◌}
use Rattle.fairway.specs.Courses.{Due}
use Rattle.fairway.specs.declared.pair.Pair.{Pair}
use Rattle.fairway.specs.Orders.{load, Same, Apart, Sorted, order, pair, turned, Exchange}
use Rattle.fairway.specs.Runs.{OneOrder, LoadFalls, Fewest, MendsTurned, LosesOne}
use Rattle.fairway.specs.Standing.{Stands, Neighbours, NotLevelBefore}
use Rattle.fairway.specs.declared.course.Course.{Course}

-- the i-th of the list and the next
abbrev pub pair_at : List Course → ℕ → Option Pair
pair_at [] i = None
pair_at (x ∷ []) i = None
pair_at (x ∷ y ∷ ys) zero = Some (pair x y)
pair_at (x ∷ y ∷ ys) (suc i) = pair_at (y ∷ ys) i

-- whether the list is in order; if so, it is the order of every roster with these vessels, each number once
pub record SortedAnswer (t : Time) (xs : List Course) (answer : Bool) : Type 0 where
  pub value : Decides answer (Sorted t xs)
  pub is_order : answer ≡ true → (roster : List Course) → Apart roster → Same xs roster → xs ≡ order t roster
  pub one_order : Apart xs → OneOrder t xs

-- the load of the list; of n courses it is at most n (n - 1) / 2
pub record LoadCount (xs : List Course) (answer : ℕ) : Type 0 where
  pub value : answer ≡ load xs
  pub most : (n : ℕ) → length xs ≤ n → answer + answer + n ≤ n * n

-- how many pairs an advance turns, and what that number is good for
pub record TurnedCount (t u : Time) (xs : List Course) (answer : ℕ) : Type 0 where
  pub value : answer ≡ length (turned t u xs)
  pub load_falls : LoadFalls t u xs
  pub fewest : Fewest t u xs
  pub mends : MendsTurned t u xs

-- the i-th and the next are due, and no neighbours before them
pub record DueAt (t : Time) (xs : List Course) (i : ℕ) : Type 0 where
  pub rear : Course
  pub front : Course
  pub there : pair_at xs i ≡ Some (pair rear front)
  pub due : Due t rear front
  pub first : (k : ℕ) (r f : Course) → k < i → pair_at xs k ≡ Some (pair r f) → Due t r f → ⊥

-- the first neighbours that are due; where there are none, a list that stands is in order
abbrev pub FirstDuePlace : Time → List Course → Option ℕ → Type 0
FirstDuePlace t xs (Some i) = DueAt t xs i
FirstDuePlace t xs None = Neighbours (λ r f. Due t r f → ⊥) xs × (Stands t xs → Sorted t xs)

-- whether no neighbours draw level before u; if so, the list stands until u
pub record StandsUntil (u : Time) (xs : List Course) (answer : Bool) : Type 0 where
  pub value : Decides answer (Neighbours (NotLevelBefore u) xs)
  pub stands_on : answer ≡ true → (t : Time) → Proper t → t ≤ᵗ u → Stands t xs → Stands u xs

-- the i-th and the next were r and f, were due, and are exchanged; every other place is as it was
pub record Exchanged (t : Time) (xs ys : List Course) (i : ℕ) (r f : Course) : Type 0 where
  pub were : pair_at xs i ≡ Some (pair r f)
  pub due : Due t r f
  pub value : ys ≡ swap xs i (i + 1)
  -- what that is good for
  pub exchange : Exchange r f xs ys
  pub loses : LosesOne r f xs ys
  pub stands : Stands t xs → Stands t ys

-- a mend of the i-th and the next: they were due, and just these two are exchanged; or they were not, or there are no
-- two there, and nothing changed
abbrev pub MendAnswer : Time → List Course → List Course → ℕ → Bool → Type 0
MendAnswer t xs ys i true = (r : Course) × (f : Course) × Exchanged t xs ys i r f
MendAnswer t xs ys i false = (ys ≡ xs) × ((r f : Course) → pair_at xs i ≡ Some (pair r f) → Due t r f → ⊥)
