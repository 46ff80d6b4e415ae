-- Counts over the items of a slice.
use Rattle.std.proofs.Common.{◌≡◌, ℕ, ◌+◌, ◌<◌, ◌≤◌, ◌^◌, Bor, Bool, List, length, arith}
use Rattle.std.specs.Fn.{Mut, Called}
use Rattle.std.specs.Iterator.Adapters.{map_source, map_callee, map_steps}
use Rattle.std.specs.Iterator.Runs.{EachRunFrom}
use Rattle.std.specs.List.{fold, count_by}
use Rattle.std.specs.Slice.Iter.{iter_rest}
use Rattle.std.proofs.iter.Yields.{fronts}
use Rattle.std.proofs.lemmas.Iterator.{YieldsList-from_slice}
use Rattle.std.proofs.lemmas.Iterator.Adapters.{at_most_from_yields_List, fits_from_length}
use Rattle.std.proofs.lemmas.List.Sums.{count_by-le-length}

-- the sum of what gives 1 at most for each item fits in 64 bits
pub ones_fit : {A F : Type 0} {s : _} (g : Mut F (Bor A × Unit {0}) ℕ) (f : F) (xs : List A) → iter_rest (map_source s) ≡ xs → length xs ≤ 2 ^ 63 → map_callee s ≡ f →
    ((x : Bor A) (r : ℕ) (q : F) → Called g f (x, tt) r q → (q ≡ f) × (r ≤ 1)) → EachRunFrom (map_steps fronts g) s (λ p. fold (λ a x. a + x) 0 p.items < 2 ^ 64)
ones_fit g f xs e n h k = fits_from_length g f (2 ^ 63) (2 ^ 64) (at_most_from_yields_List (YieldsList-from_slice xs e) n) h (omega arith) k

-- a count of the items that pass a test is at most the number of all
pub count_fits : {X : Type 0} (p : X → Bool) (xs : List X) {n : ℕ} → n ≡ count_by p xs → n ≤ length xs
count_fits p xs e = rw e (count_by-le-length p xs)
