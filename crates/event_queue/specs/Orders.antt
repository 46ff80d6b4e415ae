-- The order of keys, carried over to tickets that may hold none: no key comes last.
use Rattle.std.specs.Prelude.{Bool, true, false, Some, None, Option}

abbrev pub sooner : {K : Type 0} → (K → K → Bool) → Option K → Option K → Bool
sooner before (Some a) (Some b) = before a b
sooner before (Some a) None = true
sooner before None b = false
