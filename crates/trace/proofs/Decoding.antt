-- The records of a whole trace are those that it was written of, and what was written of whole records is decoded again.
use Rattle.std.proofs.Common.{◌≡◌, ℕ, zero, suc, ◌+◌, ◌≤◌, Bool, true, false, cond, not, ◌&&◌, eqb, List, [], ◌∷◌, ◌++◌, length, Result, Ok, Err, refl, ap, subst, ◌∙◌, arith, length-append}
use Rattle.std.proofs.lemmas.Bool.{eqb-true, and_parts}
use Rattle.std.specs.List.{flat_map, AllByRecursion}
use Rattle.trace.specs.declared.fault.Fault.{Fault}
use Rattle.trace.specs.declared.fault.Fault.TheVariants.{BadMark, BadVersion}
use Rattle.trace.specs.declared.fault.Stop.{Stop}
use Rattle.trace.specs.declared.records.Record.{Record}
use Rattle.trace.specs.declared.records.Record.TheVariants.{Enter, Leave, Steer, Advance, Order, End}
use Rattle.trace.specs.Layout.{header, bytes_of, trace_of, Taken, read_record, read_header, FieldsFit}
use Rattle.trace.specs.Walks.{Step, is_end, ended, walk_on, walk_of, behind_header, in_front, records_of, decode, is_whole, DecodesAsWritten}
use Rattle.trace.proofs.Bytes.{IsBytes, IsBytes-behind}
use Rattle.trace.proofs.Layouts.{record_takes, record_again}
use Rattle.trace.proofs.WalkLemmas.{has_byte}

-- ---- the header

tests_passed : (mark version : Bool) (rest bytes : List ℕ) → cond (not mark) (Err BadMark) (cond (not version) (Err BadVersion) (Ok rest)) ≡ Ok bytes → (mark ≡ true) × (version ≡ true) × (rest ≡ bytes)
tests_passed false version rest bytes e = absurd cc
tests_passed true false rest bytes e = absurd cc
tests_passed true true rest bytes e = (refl, refl, cc)

pub header_takes : (trace bytes : List ℕ) → read_header trace ≡ Ok bytes → trace ≡ header ++ bytes
header_takes (m2 ∷ m1 ∷ m0 ∷ v1 ∷ v0 ∷ rest) bytes e =
    let t = tests_passed (eqb m2 70 && (eqb m1 87 && eqb m0 84)) (eqb v1 0 && eqb v0 1) rest bytes e in
    let f = and_parts (eqb m2 70) (eqb m1 87 && eqb m0 84) t.0 in
    let w = and_parts (eqb m1 87) (eqb m0 84) f.1 in
    let v = and_parts (eqb v1 0) (eqb v0 1) t.1 in
    λ i. eqb-true m2 70 f.0 i ∷ eqb-true m1 87 w.0 i ∷ eqb-true m0 84 w.1 i ∷ eqb-true v1 0 v.0 i ∷ eqb-true v0 1 v.1 i ∷ t.2 i
header_takes fewer bytes e = absurd cc

-- ---- from the bytes to the records

-- what a walk's records say of its bytes
abbrev Says : List ℕ → List Record → Type 0
Says bytes records = AllByRecursion FieldsFit records × (is_whole records ≡ true) × (bytes ≡ flat_map bytes_of records)

in_front_ok : (r : Record) (later : Result (List Record) Stop) (records : List Record) → in_front r later ≡ Ok records → (more : List Record) × (later ≡ Ok more) × (r ∷ more ≡ records)
in_front_ok r (Ok more) records e = (more, refl, cc)
in_front_ok r (Err stop) records e = absurd cc

end_is : (r : Record) → is_end r ≡ true → r ≡ End
end_is End e = refl
end_is (Enter number position speed) e = absurd cc
end_is (Leave number) e = absurd cc
end_is (Steer number speed) e = absurd cc
end_is (Advance seconds numerator denominator) e = absurd cc
end_is Order e = absurd cc

whole_behind : (r : Record) (more : List Record) → is_end r ≡ false → is_whole more ≡ true → is_whole (r ∷ more) ≡ true
whole_behind r [] other whole = absurd cc
whole_behind r (s ∷ more) other whole = rw other whole

-- an end record with nothing after it
ended_takes : (place : ℕ) (bytes rest : List ℕ) (records : List Record) → bytes ≡ bytes_of End ++ rest → records_of (ended place rest) ≡ Ok records → Says bytes records
ended_takes place bytes [] records parts e =
    let is : End ∷ [] ≡ records = cc in
    subst (Says bytes) is ((tt, tt), refl, parts)
ended_takes place bytes (b ∷ rest) records parts e = absurd cc

on_takes : (later : ℕ → List ℕ → List Step) (place : ℕ) (bytes : List ℕ) (read : Taken) (records : List Record)
    → ((place : ℕ) (rest : List ℕ) (more : List Record) → IsBytes rest → records_of (later place rest) ≡ Ok more → Says rest more)
    → IsBytes bytes → read_record bytes ≡ read → records_of (walk_on later place read) ≡ Ok records → Says bytes records
on_takes later place bytes (Err fault) records next h is e = absurd cc
on_takes later place bytes (Ok taken) records next h is e = by_kind (is_end taken.0) refl e
  where
    parts : FieldsFit taken.0 × (bytes ≡ bytes_of taken.0 ++ taken.1)
    parts = record_takes bytes taken is h

    by_kind : (b : Bool) → is_end taken.0 ≡ b → records_of (cond b (ended place taken.1) (Ok (place, taken.0) ∷ later (place + length (bytes_of taken.0)) taken.1)) ≡ Ok records → Says bytes records
    by_kind true kind e = ended_takes place bytes taken.1 records (parts.1 ∙ ap (λ (r : Record). bytes_of r ++ taken.1) (end_is taken.0 kind)) e
    by_kind false kind e =
        let more = in_front_ok taken.0 (records_of (later (place + length (bytes_of taken.0)) taken.1)) records e in
        let rest = IsBytes-behind (bytes_of taken.0) taken.1 (subst IsBytes parts.1 h) in
        let said = next (place + length (bytes_of taken.0)) taken.1 more.0 rest more.1 in
        subst (Says bytes) more.2 ((parts.0, said.0), whole_behind taken.0 more.0 kind said.1, parts.1 ∙ ap (λ (x : List ℕ). bytes_of taken.0 ++ x) said.2)

walk_takes : (most place : ℕ) (bytes : List ℕ) (records : List Record) → IsBytes bytes → records_of (walk_of most place bytes) ≡ Ok records → Says bytes records
walk_takes zero place bytes records h e = absurd cc
walk_takes (suc most) place bytes records h e = on_takes (walk_of most) place bytes (read_record bytes) records (walk_takes most) h refl e

-- ---- from the records to the bytes

whole_parts : (b whole : Bool) → cond b false whole ≡ true → (b ≡ false) × (whole ≡ true)
whole_parts true whole e = absurd cc
whole_parts false whole e = (refl, e)

walk_again : (records : List Record) (most place : ℕ) → AllByRecursion FieldsFit records → is_whole records ≡ true → length (flat_map bytes_of records) ≤ most → records_of (walk_of most place (flat_map bytes_of records)) ≡ Ok records
walk_again [] most place fits whole le = absurd cc
walk_again (r ∷ []) zero place fits whole le = absurd (omega (arith, has_byte r, length-append (bytes_of r) []))
walk_again (r ∷ []) (suc most) place fits whole le =
    let is : r ≡ End = end_is r whole in
    rw is refl
walk_again (r ∷ s ∷ more) zero place fits whole le = absurd (omega (arith, has_byte r, length-append (bytes_of r) (flat_map bytes_of (s ∷ more))))
walk_again (r ∷ s ∷ more) (suc most) place fits whole le =
    let parts = whole_parts (is_end r) (is_whole (s ∷ more)) whole in
    let rest : List ℕ = flat_map bytes_of (s ∷ more) in
    let read : read_record (bytes_of r ++ rest) ≡ Ok (r, rest) = record_again r rest fits.0 in
    let later = walk_again (s ∷ more) most (place + length (bytes_of r)) fits.1 parts.1 (omega (arith, has_byte r, length-append (bytes_of r) rest, le)) in
    rw (read, parts.0, later) refl

-- ---- both

behind_takes : (trace : List ℕ) (read : Result (List ℕ) Fault) (records : List Record) → IsBytes trace → read_header trace ≡ read → records_of (behind_header read) ≡ Ok records → AllByRecursion FieldsFit records × (is_whole records ≡ true) × (trace ≡ trace_of records)
behind_takes trace (Err fault) records h is e = absurd cc
behind_takes trace (Ok bytes) records h is e =
    let front = header_takes trace bytes is in
    let said = walk_takes (length bytes) 5 bytes records (IsBytes-behind header bytes (subst IsBytes front h)) e in
    (said.0, said.1, front ∙ ap (λ (x : List ℕ). header ++ x) said.2)

pub decodes_as_written : (trace : List ℕ) → IsBytes trace → DecodesAsWritten trace
decodes_as_written trace h = record {
  written = λ records e. behind_takes trace (read_header trace) records h refl e;
  again = λ records fits whole e. ap decode e ∙ walk_again records (length (flat_map bytes_of records)) 5 fits whole (omega arith);
}
