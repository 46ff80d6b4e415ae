-- The text of records: a line for each, that ends with a line feed.
use Rattle.std.specs.Prelude.{◌≡◌, ℕ, ◌+◌, List, [], ◌∷◌, ◌++◌, length, Ok, Err, Result, codes, decimal}
use Rattle.std.specs.Fmt.{signed_decimal}
use Rattle.std.specs.Global.{Vec}
use Rattle.std.specs.List.{flat_map, AllByRecursion}
use Rattle.trace.specs.declared.records.Record.{Record}
use Rattle.trace.specs.declared.records.Record.TheVariants.{Enter, Leave, Steer, Advance, Order, End}
use Rattle.trace.specs.Layout.{FieldsFit}
use Rattle.trace_text.specs.declared.text.TextError.{TextError}
use Rattle.trace_text.specs.declared.text.TextError.TheVariants.{Memory, Unreadable}

-- the line of a record, without its line feed: the record's name, and its fields, with a space (32) before each, but a slash (47) in a fraction
abbrev pub line_of : Record → List ℕ
line_of (Enter number position speed) = codes "enter " ++ (decimal number ++ (32 ∷ (signed_decimal position ++ (32 ∷ signed_decimal speed))))
line_of (Leave number) = codes "leave " ++ decimal number
line_of (Steer number speed) = codes "steer " ++ (decimal number ++ (32 ∷ signed_decimal speed))
line_of (Advance seconds numerator denominator) = codes "advance " ++ (decimal seconds ++ (32 ∷ (decimal numerator ++ (47 ∷ decimal denominator))))
line_of Order = codes "order"
line_of End = codes "end"

-- a line with its line feed (10)
abbrev pub whole_line : Record → List ℕ
whole_line r = line_of r ++ (10 ∷ [])

abbrev pub text_of : List Record → List ℕ
text_of records = flat_map whole_line records

-- The line of this number, from 1, is none of a record: the lines before it are those of records, and there is more text, which does not
-- begin with the whole line of a record.
pub record IsUnreadable (text : List ℕ) (number : ℕ) : Type 0 where
  pub before : List Record
  pub rest : List ℕ
  pub fit : AllByRecursion FieldsFit before
  pub parts : text ≡ text_of before ++ rest
  pub counted : number ≡ length before + 1
  pub more : rest ≡ [] → ⊥
  pub no_line : (r : Record) (others : List ℕ) → FieldsFit r → rest ≡ line_of r ++ (10 ∷ others) → ⊥

-- What reading a text answers: the records that it is the text of, or the number of the first line that is none of a
-- record, unless memory was wanting.
abbrev pub Answers : List ℕ → Result (Vec Record) TextError → Type 0
Answers text (Ok records) = AllByRecursion FieldsFit records.items × (text ≡ text_of records.items)
Answers text (Err (Unreadable number)) = IsUnreadable text number
Answers text (Err Memory) = Unit {0}

-- it is these records, unless memory was wanting
abbrev pub Reads : Result (Vec Record) TextError → List Record → Type 0
Reads (Ok records) wanted = records.items ≡ wanted
Reads (Err (Unreadable number)) wanted = ⊥
Reads (Err Memory) wanted = Unit {0}
