-- The pairs with a faster rear that one course makes with others.
use Rattle.std.specs.Prelude.{ℕ, ◌+◌, List, take, drop}
use Rattle.fairway.specs.Orders.{slower_than, faster_than}
use Rattle.fairway.specs.declared.course.Course.{Course}

-- with those before and after the place i
abbrev pub crossed : List Course → ℕ → Course → ℕ
crossed xs i x = faster_than x (take i xs) + slower_than x (drop i xs)
