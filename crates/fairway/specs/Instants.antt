-- Instants of the clock: their values, which numbers make one, and that a value has one.
use Rattle.std.specs.Prelude.{◌≡◌, ℕ, ◌-◌, ◌*◌, Bool, ◌&&◌, ◌||◌, [], ◌∷◌, Some, None, Ok, Err, Option, Result, ◌==◌, nat_eq, nat_le, nat_lt}
use Rattle.std.specs.Ordering.{ordering_then, nat_cmp}
use Rattle.std.specs.declared.cmp.Ordering.{Ordering}
use Rattle.event_queue.specs.Refusals.{◌when◌, topmost}
use Rattle.fairway.specs.Times.{Time, whole_and, ◌=ᵗ◌}
use Rattle.std.specs.Bool.{Decides}
use Rattle.fairway.specs.declared.instant.Instant.{Instant}
use Rattle.fairway.specs.declared.refusal.Refusal.{Refusal}
use Rattle.fairway.specs.declared.refusal.Refusal.TheVariants.{NoSuchInstant}
use Rattle.fairway.specs.declared.stamp.Stamp.{Stamp}

-- the time that an instant is
abbrev pub value : Instant → Time
value i = whole_and i.seconds i.numerator i.denominator

-- an instant as a plain triple
abbrev pub stamp_of : Instant → Stamp
stamp_of i = record { seconds = i.seconds; numerator = i.numerator; denominator_less_one = i.denominator - 1 }

-- later than the clock's last second, 16,777,216
abbrev pub past_last : ℕ → ℕ → Bool
past_last s n = nat_lt 16777216 s || (s == 16777216 && nat_lt 0 n)

-- the refusals of s seconds and n / d
abbrev pub instant_refusal : ℕ → ℕ → ℕ → Option Refusal
instant_refusal s n d =
    topmost (
    NoSuchInstant when nat_eq d 0 ∷
    NoSuchInstant when nat_lt 1000 d ∷
    NoSuchInstant when nat_le d n ∷
    NoSuchInstant when past_last s n ∷ [])

-- by each numerator times the other's denominator
abbrev pub fraction_order : Instant → Instant → Ordering
fraction_order a b = nat_cmp (a.numerator * b.denominator) (b.numerator * a.denominator)

-- by whole seconds, and then by the fractions
abbrev pub time_order : Instant → Instant → Ordering
time_order a b = ordering_then (nat_cmp a.seconds b.seconds) (fraction_order a b)

-- what the making answers: refused, or the instant of that value
abbrev pub Made : ℕ → ℕ → ℕ → Result Instant Refusal → Type 0
Made s n d (Ok i) = (instant_refusal s n d ≡ None) × (value i =ᵗ whole_and s n d)
Made s n d (Err e) = instant_refusal s n d ≡ Some e

-- two instants have the same three numbers
abbrev pub SameNumbers : Instant → Instant → Type 0
SameNumbers a b = (a.seconds ≡ b.seconds) × (a.numerator ≡ b.numerator) × (a.denominator ≡ b.denominator)

-- two instants of equal value are the same three numbers, and the answer tells whether they are
pub record SameInstant (a b : Instant) (answer : Bool) : Type 0 where
  pub by_value : Decides answer (value a =ᵗ value b)
  pub by_numbers : Decides answer (SameNumbers a b)
  pub one_form : value a =ᵗ value b → SameNumbers a b
