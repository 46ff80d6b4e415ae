-- The fraction of an instant.
use Rattle.std.proofs.Common.{◌≡◌, ◌≢◌, ◌+◌, ◌-◌, ◌<◌, ◌∷◌, ◌++◌, decimal, arith}
use Rattle.std.proofs.lemmas.Bool.{ne_eqb}
use Rattle.fairway.specs.Instants.{stamp_of}
use Rattle.fairway.specs.declared.instant.Instant.{Instant}
use Rattle.lines.specs.Lines.{fraction_text}

-- of an instant that is not whole
pub fraction : (i : Instant) → i.numerator ≢ 0 → i.numerator < i.denominator → 32 ∷ (decimal i.numerator ++ 47 ∷ decimal i.denominator) ≡ fraction_text (stamp_of i)
fraction i part below =
    let e : i.denominator ≡ i.denominator - 1 + 1 = omega arith in
    rw (ne_eqb i.numerator 0 part, ← e)
