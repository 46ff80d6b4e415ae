-- A walk does not depend on how many records it was bounded by, so it goes on from each place as one that begins there.
use Rattle.std.proofs.Common.{◌≡◌, ℕ, zero, suc, ◌+◌, ◌-◌, ◌<◌, ◌≤◌, Bool, false, cond, List, [], ◌∷◌, length, Ok, Err, refl, sym, ap, ◌∙◌, arith}
use Rattle.trace.specs.declared.records.Record.{Record}
use Rattle.trace.specs.declared.records.Record.TheVariants.{Enter, Leave, Steer, Advance, Order, End}
use Rattle.trace.specs.Layout.{bytes_of, Taken, read_record}
use Rattle.trace.specs.Walks.{Step, is_end, ended, walk_on, walk_of, walk_at}
use Rattle.trace.proofs.Layouts.{record_length}

-- a record has a byte
pub has_byte : (r : Record) → 0 < length (bytes_of r)
has_byte (Enter number position speed) = omega arith
has_byte (Leave number) = omega arith
has_byte (Steer number speed) = omega arith
has_byte (Advance seconds numerator denominator) = omega arith
has_byte Order = omega arith
has_byte End = omega arith

-- fewer bytes are left behind a record
pub fewer_left : (bytes : List ℕ) (taken : Record × List ℕ) → read_record bytes ≡ Ok taken → length taken.1 < length bytes
fewer_left bytes taken e =
    let parts = record_length bytes taken e in
    let some = has_byte taken.0 in
    omega arith

-- two ways on that agree at what is left
on_alike : (f g : ℕ → List ℕ → List Step) (place : ℕ) (bytes : List ℕ) (read : Taken) → read_record bytes ≡ read
    → ((taken : Record × List ℕ) → read_record bytes ≡ Ok taken → f (place + length (bytes_of taken.0)) taken.1 ≡ g (place + length (bytes_of taken.0)) taken.1)
    → walk_on f place read ≡ walk_on g place read
on_alike f g place bytes (Err fault) e same = refl
on_alike f g place bytes (Ok taken) e same = ap (λ (w : List Step). cond (is_end taken.0) (ended place taken.1) (Ok (place, taken.0) ∷ w)) (same taken e)

pub bound_is_free : (m n : ℕ) (place : ℕ) (bytes : List ℕ) → length bytes ≤ m → length bytes ≤ n → walk_of m place bytes ≡ walk_of n place bytes
bound_is_free zero zero place bytes le le' = refl
bound_is_free zero (suc n) place [] le le' = refl
bound_is_free zero (suc n) place (b ∷ bytes) le le' = absurd (omega arith)
bound_is_free (suc m) zero place [] le le' = refl
bound_is_free (suc m) zero place (b ∷ bytes) le le' = absurd (omega arith)
bound_is_free (suc m) (suc n) place bytes le le' =
    on_alike (walk_of m) (walk_of n) place bytes (read_record bytes) refl
    (λ taken e.
    let fewer = fewer_left bytes taken e in
    bound_is_free m n (place + length (bytes_of taken.0)) taken.1 (omega arith) (omega arith))

-- a walk, by what is read at its place
pub walk_step : (place : ℕ) (bytes : List ℕ) → walk_at place bytes ≡ walk_on walk_at place (read_record bytes)
walk_step place [] = refl
walk_step place (b ∷ bytes) =
    on_alike (walk_of (length bytes)) walk_at place (b ∷ bytes) (read_record (b ∷ bytes)) refl
    (λ taken e.
    let fewer = fewer_left (b ∷ bytes) taken e in
    bound_is_free (length bytes) (length taken.1) (place + length (bytes_of taken.0)) taken.1 (omega arith) (omega arith))

other_kind : (r : Record) → (r ≡ End → ⊥) → is_end r ≡ false
other_kind End other = absurd (other refl)
other_kind (Enter number position speed) other = refl
other_kind (Leave number) other = refl
other_kind (Steer number speed) other = refl
other_kind (Advance seconds numerator denominator) other = refl
other_kind Order other = refl

-- where a record that is no end record is read, the walk goes on behind it
pub walk_next : (place : ℕ) (bytes : List ℕ) (taken : Record × List ℕ) → read_record bytes ≡ Ok taken → (taken.0 ≡ End → ⊥)
    → walk_at place bytes ≡ Ok (place, taken.0) ∷ walk_at (place + (length bytes - length taken.1)) taken.1
walk_next place bytes taken e other =
    let parts = record_length bytes taken e in
    let size : length bytes - length taken.1 ≡ length (bytes_of taken.0) = omega arith in
    walk_step place bytes ∙ rw (e, other_kind taken.0 other, size) refl

-- the same of a reader that has not made its last step
pub step_made : (steps : List Step) (over : Bool) (place : ℕ) (bytes : List ℕ) (taken : Record × List ℕ)
    → cond over [] (walk_at place bytes) ≡ steps → over ≡ false → read_record bytes ≡ Ok taken → (taken.0 ≡ End → ⊥)
    → (later : List Step) × (steps ≡ Ok (place, taken.0) ∷ later) × (cond over [] (walk_at (place + (length bytes - length taken.1)) taken.1) ≡ later)
step_made steps over place bytes taken is going e other =
    let on = walk_next place bytes taken e other in
    (walk_at (place + (length bytes - length taken.1)) taken.1, sym is ∙ rw going on, rw going refl)
