-- How a line is taken apart.
use Rattle.std.specs.Prelude.{ℕ, ◌^◌, ◌&&◌, List, [], ◌∷◌, Some, None, Option, codes, decimal, ◌==◌, nat_lt, ℤ, if◌then◌else◌}
use Rattle.std.specs.Fmt.{signed_decimal}
use Rattle.std.specs.Int.Signed.{mag}
use Rattle.std.specs.Str.{bytes_eq}
use Rattle.std.specs.Str.Parse.{digits_value, signed_digits_value}
use Rattle.trace.specs.declared.records.Record.{Record}
use Rattle.trace.specs.declared.records.Record.TheVariants.{Enter, Leave, Steer, Advance, Order, End}

infixl 10 ◌>>=◌
abbrev pub ◌>>=◌ : {A B : Type 0} → Option A → (A → Option B) → Option B
(Some x) >>= f = f x
None >>= f = None

abbrev pub put_first : ℕ → Option (List ℕ × List ℕ) → Option (List ℕ × List ℕ)
put_first b None = None
put_first b (Some parts) = Some (b ∷ parts.0, parts.1)

-- the bytes before and after the first of this byte
abbrev pub cut : ℕ → List ℕ → Option (List ℕ × List ℕ)
cut at [] = None
cut at (b ∷ bytes) = if b == at then Some ([], bytes) else put_first b (cut at bytes)

-- the number below this limit that a word spells as it is printed
abbrev pub natural : ℕ → List ℕ → Option ℕ
natural limit word =
    if nat_lt (digits_value 10 word) limit && bytes_eq word (decimal (digits_value 10 word)) then Some (digits_value 10 word)
    else None

-- the number from -half to half - 1 that a word spells as it is printed; mag z is z, and -1 - z where z is negative
abbrev pub integer : ℕ → List ℕ → Option ℤ
integer half word =
    if nat_lt (mag (signed_digits_value 10 word)) half && bytes_eq word (signed_decimal (signed_digits_value 10 word)) then Some (signed_digits_value 10 word)
    else None

-- the records of these fields
abbrev pub enter_of : List ℕ → Option Record
enter_of fields = do
  a ← cut 32 fields
  b ← cut 32 a.1
  number ← natural (2 ^ 16) a.0
  position ← integer (2 ^ 31) b.0
  speed ← integer (2 ^ 15) b.1
  Some (Enter number position speed)

abbrev pub leave_of : List ℕ → Option Record
leave_of fields = do
  number ← natural (2 ^ 16) fields
  Some (Leave number)

abbrev pub steer_of : List ℕ → Option Record
steer_of fields = do
  a ← cut 32 fields
  number ← natural (2 ^ 16) a.0
  speed ← integer (2 ^ 15) a.1
  Some (Steer number speed)

abbrev pub advance_of : List ℕ → Option Record
advance_of fields = do
  a ← cut 32 fields
  b ← cut 47 a.1
  seconds ← natural (2 ^ 32) a.0
  numerator ← natural (2 ^ 16) b.0
  denominator ← natural (2 ^ 16) b.1
  Some (Advance seconds numerator denominator)

-- the record of this name with these fields
abbrev pub named : List ℕ → List ℕ → Option Record
named name fields =
    if bytes_eq name (codes "enter") then enter_of fields
    else if bytes_eq name (codes "leave") then leave_of fields
    else if bytes_eq name (codes "steer") then steer_of fields
    else if bytes_eq name (codes "advance") then advance_of fields
    else None

-- the record of a line without its line feed
abbrev pub record_of : List ℕ → Option Record
record_of line =
    if bytes_eq line (codes "order") then Some Order
    else if bytes_eq line (codes "end") then Some End
    else (cut 32 line >>= (λ a. named a.0 a.1))

-- the record that a text begins with, and the text after its line
abbrev pub line_at : List ℕ → Option (Record × List ℕ)
line_at text = do
  a ← cut 10 text
  r ← record_of a.0
  Some (r, a.1)
