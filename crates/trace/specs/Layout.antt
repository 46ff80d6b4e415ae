-- The layout of a trace: the bytes of each record, and which record some bytes begin with. Numbers are
-- big-endian, and signed ones in two's complement.
use Rattle.std.specs.Prelude.{◌≡◌, ℕ, ◌<◌, ◌^◌, not, ◌&&◌, List, [], ◌∷◌, ◌++◌, Ok, Err, Result, ◌==◌, if◌then◌else◌}
use Rattle.std.specs.Int.{w16, w32, to_be_bytes, from_be_bytes, cast_signed, cast_unsigned}
use Rattle.std.specs.Int.RustNames.{FitsSigned}
use Rattle.std.specs.List.{flat_map}
use Rattle.trace.specs.declared.fault.Fault.{Fault}
use Rattle.trace.specs.declared.fault.Fault.TheVariants.{Short, BadMark, BadVersion, UnknownKind}
use Rattle.trace.specs.declared.records.Record.{Record}
use Rattle.trace.specs.declared.records.Record.TheVariants.{Enter, Leave, Steer, Advance, Order, End}

-- ---- what is written

-- the mark FWT, and the version 1 in two bytes
abbrev pub header : List ℕ
header = 70 ∷ 87 ∷ 84 ∷ 0 ∷ 1 ∷ []

-- the bytes of a record: the letter of its kind, E L S A Q Z, and its fields
abbrev pub bytes_of : Record → List ℕ
bytes_of (Enter number position speed) = 69 ∷ (to_be_bytes w16 number ++ (to_be_bytes w32 (cast_unsigned w32 position) ++ to_be_bytes w16 (cast_unsigned w16 speed)))
bytes_of (Leave number) = 76 ∷ to_be_bytes w16 number
bytes_of (Steer number speed) = 83 ∷ (to_be_bytes w16 number ++ to_be_bytes w16 (cast_unsigned w16 speed))
bytes_of (Advance seconds numerator denominator) = 65 ∷ (to_be_bytes w32 seconds ++ (to_be_bytes w16 numerator ++ to_be_bytes w16 denominator))
bytes_of Order = 81 ∷ []
bytes_of End = 90 ∷ []

-- a trace: the header, and the bytes of each record
abbrev pub trace_of : List Record → List ℕ
trace_of records = header ++ flat_map bytes_of records

-- ---- what is read

-- the numbers that bytes write
abbrev pub u16_of : ℕ → ℕ → ℕ
u16_of b1 b0 = from_be_bytes w16 (b1 ∷ b0 ∷ [])

abbrev pub u32_of : ℕ → ℕ → ℕ → ℕ → ℕ
u32_of b3 b2 b1 b0 = from_be_bytes w32 (b3 ∷ b2 ∷ b1 ∷ b0 ∷ [])

-- a record, or the fault that stands in its place, with the bytes after it
abbrev pub Taken : Type 0
Taken = Result (Record × List ℕ) Fault

-- the fields of each kind
abbrev pub enter_fields : List ℕ → Taken
enter_fields (n1 ∷ n0 ∷ p3 ∷ p2 ∷ p1 ∷ p0 ∷ s1 ∷ s0 ∷ rest) = Ok (Enter (u16_of n1 n0) (cast_signed w32 (u32_of p3 p2 p1 p0)) (cast_signed w16 (u16_of s1 s0)), rest)
enter_fields fewer = Err Short

abbrev pub leave_fields : List ℕ → Taken
leave_fields (n1 ∷ n0 ∷ rest) = Ok (Leave (u16_of n1 n0), rest)
leave_fields fewer = Err Short

abbrev pub steer_fields : List ℕ → Taken
steer_fields (n1 ∷ n0 ∷ s1 ∷ s0 ∷ rest) = Ok (Steer (u16_of n1 n0) (cast_signed w16 (u16_of s1 s0)), rest)
steer_fields fewer = Err Short

abbrev pub advance_fields : List ℕ → Taken
advance_fields (t3 ∷ t2 ∷ t1 ∷ t0 ∷ n1 ∷ n0 ∷ d1 ∷ d0 ∷ rest) = Ok (Advance (u32_of t3 t2 t1 t0) (u16_of n1 n0) (u16_of d1 d0), rest)
advance_fields fewer = Err Short

-- the fields of the kind with this letter
abbrev pub fields_of : ℕ → List ℕ → Taken
fields_of kind fields =
    if kind == 69 then enter_fields fields
    else if kind == 76 then leave_fields fields
    else if kind == 83 then steer_fields fields
    else if kind == 65 then advance_fields fields
    else if kind == 81 then Ok (Order, fields)
    else if kind == 90 then Ok (End, fields)
    else Err UnknownKind

-- the record that some bytes begin with
abbrev pub read_record : List ℕ → Taken
read_record [] = Err Short
read_record (kind ∷ fields) = fields_of kind fields

-- the bytes after the header
abbrev pub read_header : List ℕ → Result (List ℕ) Fault
read_header (m2 ∷ m1 ∷ m0 ∷ v1 ∷ v0 ∷ rest) =
    if not (m2 == 70 && (m1 == 87 && m0 == 84)) then Err BadMark
    else if not (v1 == 0 && v0 == 1) then Err BadVersion
    else Ok rest
read_header fewer = Err Short

-- ---- both ways

-- the fields of a record are in the ranges of their types
abbrev pub FieldsFit : Record → Type 0
FieldsFit (Enter number position speed) = (number < 2 ^ 16) × FitsSigned w32 position × FitsSigned w16 speed
FieldsFit (Leave number) = number < 2 ^ 16
FieldsFit (Steer number speed) = (number < 2 ^ 16) × FitsSigned w16 speed
FieldsFit (Advance seconds numerator denominator) = (seconds < 2 ^ 32) × (numerator < 2 ^ 16) × (denominator < 2 ^ 16)
FieldsFit Order = Unit {0}
FieldsFit End = Unit {0}

-- The bytes are read as a record just where they begin with that record's bytes.
pub record ReadsAsWritten (bytes : List ℕ) : Type 0 where
  pub written : (taken : Record × List ℕ) → read_record bytes ≡ Ok taken → FieldsFit taken.0 × (bytes ≡ bytes_of taken.0 ++ taken.1)
  pub again : (taken : Record × List ℕ) → FieldsFit taken.0 → bytes ≡ bytes_of taken.0 ++ taken.1 → read_record bytes ≡ Ok taken
