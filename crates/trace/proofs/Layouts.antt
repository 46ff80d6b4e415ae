-- What is read is what was written, and what was written is read again.
use Rattle.std.proofs.Common.{◌≡◌, ℕ, ◌+◌, Bool, true, false, cond, eqb, List, [], ◌∷◌, ◌++◌, length, Ok, Err, refl, sym, ap, subst, ◌∙◌, arith}
use Rattle.std.proofs.lemmas.Bool.{eqb-true}
use Rattle.trace.specs.declared.fault.Fault.TheVariants.{UnknownKind}
use Rattle.trace.specs.declared.records.Record.{Record}
use Rattle.trace.specs.declared.records.Record.TheVariants.{Enter, Leave, Steer, Advance, Order, End}
use Rattle.trace.specs.Layout.{bytes_of, Taken, enter_fields, leave_fields, steer_fields, advance_fields, read_record, FieldsFit, ReadsAsWritten}
use Rattle.trace.proofs.Bytes.{IsBytes, u16_below, u32_below, i16_fits, i32_fits, u16_bytes, u32_bytes, i16_bytes, i32_bytes, u16_again, u32_again, i16_again, i32_again}

-- what was taken from the front of some bytes
abbrev Takes : List ℕ → Record × List ℕ → Type 0
Takes bytes taken = FieldsFit taken.0 × (bytes ≡ bytes_of taken.0 ++ taken.1)

abbrev TakesBytes : List ℕ → Record × List ℕ → Type 0
TakesBytes bytes taken = IsBytes bytes → Takes bytes taken

-- how many bytes it was taken from
abbrev HasLength : List ℕ → Record × List ℕ → Type 0
HasLength bytes taken = length bytes ≡ length (bytes_of taken.0) + length taken.1

taken_is : (a b : Record × List ℕ) (f : Taken) → f ≡ Ok b → f ≡ Ok a → a ≡ b
taken_is a b f p q = cc

-- what holds of all that is read behind a letter
abbrev Says : (List ℕ → Record × List ℕ → Type 0) → ℕ → (List ℕ → Taken) → Type 0
Says P kind fields_at = (fields : List ℕ) (taken : Record × List ℕ) → fields_at fields ≡ Ok taken → P (kind ∷ fields) taken

enter_takes : Says TakesBytes 69 enter_fields
enter_takes (n1 ∷ n0 ∷ p3 ∷ p2 ∷ p1 ∷ p0 ∷ s1 ∷ s0 ∷ rest) taken e h =
    subst (Takes (69 ∷ n1 ∷ n0 ∷ p3 ∷ p2 ∷ p1 ∷ p0 ∷ s1 ∷ s0 ∷ rest)) (taken_is _ taken _ e refl) (
      (u16_below n1 n0 (h 1) (h 2), i32_fits p3 p2 p1 p0 (h 3) (h 4) (h 5) (h 6), i16_fits s1 s0 (h 7) (h 8)),
      (λ i. 69 ∷ (u16_bytes n1 n0 (h 1) (h 2) i ++ (i32_bytes p3 p2 p1 p0 (h 3) (h 4) (h 5) (h 6) i ++ i16_bytes s1 s0 (h 7) (h 8) i)) ++ rest),
    )
enter_takes fewer taken e h = absurd cc

leave_takes : Says TakesBytes 76 leave_fields
leave_takes (n1 ∷ n0 ∷ rest) taken e h =
    subst (Takes (76 ∷ n1 ∷ n0 ∷ rest)) (taken_is _ taken _ e refl)
    (u16_below n1 n0 (h 1) (h 2), (λ i. 76 ∷ u16_bytes n1 n0 (h 1) (h 2) i ++ rest))
leave_takes fewer taken e h = absurd cc

steer_takes : Says TakesBytes 83 steer_fields
steer_takes (n1 ∷ n0 ∷ s1 ∷ s0 ∷ rest) taken e h =
    subst (Takes (83 ∷ n1 ∷ n0 ∷ s1 ∷ s0 ∷ rest)) (taken_is _ taken _ e refl)
    ((u16_below n1 n0 (h 1) (h 2), i16_fits s1 s0 (h 3) (h 4)), (λ i. 83 ∷ (u16_bytes n1 n0 (h 1) (h 2) i ++ i16_bytes s1 s0 (h 3) (h 4) i) ++ rest))
steer_takes fewer taken e h = absurd cc

advance_takes : Says TakesBytes 65 advance_fields
advance_takes (t3 ∷ t2 ∷ t1 ∷ t0 ∷ n1 ∷ n0 ∷ d1 ∷ d0 ∷ rest) taken e h =
    subst (Takes (65 ∷ t3 ∷ t2 ∷ t1 ∷ t0 ∷ n1 ∷ n0 ∷ d1 ∷ d0 ∷ rest)) (taken_is _ taken _ e refl) (
      (u32_below t3 t2 t1 t0 (h 1) (h 2) (h 3) (h 4), u16_below n1 n0 (h 5) (h 6), u16_below d1 d0 (h 7) (h 8)),
      (λ i. 65 ∷ (u32_bytes t3 t2 t1 t0 (h 1) (h 2) (h 3) (h 4) i ++ (u16_bytes n1 n0 (h 5) (h 6) i ++ u16_bytes d1 d0 (h 7) (h 8) i)) ++ rest),
    )
advance_takes fewer taken e h = absurd cc

order_takes : Says TakesBytes 81 (λ fields. Ok (Order, fields))
order_takes fields taken e h = subst (Takes (81 ∷ fields)) (taken_is _ taken _ e refl) (tt, refl)

end_takes : Says TakesBytes 90 (λ fields. Ok (End, fields))
end_takes fields taken e h = subst (Takes (90 ∷ fields)) (taken_is _ taken _ e refl) (tt, refl)

enter_length : Says HasLength 69 enter_fields
enter_length (n1 ∷ n0 ∷ p3 ∷ p2 ∷ p1 ∷ p0 ∷ s1 ∷ s0 ∷ rest) taken e = subst (HasLength (69 ∷ n1 ∷ n0 ∷ p3 ∷ p2 ∷ p1 ∷ p0 ∷ s1 ∷ s0 ∷ rest)) (taken_is _ taken _ e refl) (omega arith)
enter_length fewer taken e = absurd cc

leave_length : Says HasLength 76 leave_fields
leave_length (n1 ∷ n0 ∷ rest) taken e = subst (HasLength (76 ∷ n1 ∷ n0 ∷ rest)) (taken_is _ taken _ e refl) (omega arith)
leave_length fewer taken e = absurd cc

steer_length : Says HasLength 83 steer_fields
steer_length (n1 ∷ n0 ∷ s1 ∷ s0 ∷ rest) taken e = subst (HasLength (83 ∷ n1 ∷ n0 ∷ s1 ∷ s0 ∷ rest)) (taken_is _ taken _ e refl) (omega arith)
steer_length fewer taken e = absurd cc

advance_length : Says HasLength 65 advance_fields
advance_length (t3 ∷ t2 ∷ t1 ∷ t0 ∷ n1 ∷ n0 ∷ d1 ∷ d0 ∷ rest) taken e = subst (HasLength (65 ∷ t3 ∷ t2 ∷ t1 ∷ t0 ∷ n1 ∷ n0 ∷ d1 ∷ d0 ∷ rest)) (taken_is _ taken _ e refl) (omega arith)
advance_length fewer taken e = absurd cc

order_length : Says HasLength 81 (λ fields. Ok (Order, fields))
order_length fields taken e = subst (HasLength (81 ∷ fields)) (taken_is _ taken _ e refl) (omega arith)

end_length : Says HasLength 90 (λ fields. Ok (End, fields))
end_length fields taken e = subst (HasLength (90 ∷ fields)) (taken_is _ taken _ e refl) (omega arith)

-- what holds of each kind holds of all that is read
module _ (P : List ℕ → Record × List ℕ → Type 0) where
  -- a test of a kind, and the kinds that are left where it fails
  kind_says : (kind letter : ℕ) (here others : List ℕ → Taken) → Says P letter here → Says P kind others → Says P kind (λ fields. cond (eqb kind letter) (here fields) (others fields))
  kind_says kind letter here others p q fields taken e = by_test (eqb kind letter) refl e
    where
      by_test : (b : Bool) → eqb kind letter ≡ b → cond b (here fields) (others fields) ≡ Ok taken → P (kind ∷ fields) taken
      by_test true t e = subst (λ (k : ℕ). P (k ∷ fields) taken) (sym (eqb-true kind letter t)) (p fields taken e)
      by_test false t e = q fields taken e

  no_kind : (kind : ℕ) → Says P kind (λ fields. Err UnknownKind)
  no_kind kind fields taken e = absurd cc

  kinds_say : Says P 69 enter_fields → Says P 76 leave_fields → Says P 83 steer_fields → Says P 65 advance_fields → Says P 81 (λ fields. Ok (Order, fields)) → Says P 90 (λ fields. Ok (End, fields))
      → (bytes : List ℕ) (taken : Record × List ℕ) → read_record bytes ≡ Ok taken → P bytes taken
  kinds_say enter leave steer advance order end [] taken e = absurd cc
  kinds_say enter leave steer advance order end (kind ∷ fields) taken e =
      kind_says kind 69 enter_fields _ enter
      (kind_says kind 76 leave_fields _ leave
      (kind_says kind 83 steer_fields _ steer
      (kind_says kind 65 advance_fields _ advance
      (kind_says kind 81 (λ fields. Ok (Order, fields)) _ order
      (kind_says kind 90 (λ fields. Ok (End, fields)) _ end (no_kind kind)))))) fields taken e

pub record_takes : (bytes : List ℕ) (taken : Record × List ℕ) → read_record bytes ≡ Ok taken → IsBytes bytes → FieldsFit taken.0 × (bytes ≡ bytes_of taken.0 ++ taken.1)
record_takes = kinds_say TakesBytes enter_takes leave_takes steer_takes advance_takes order_takes end_takes

pub record_length : (bytes : List ℕ) (taken : Record × List ℕ) → read_record bytes ≡ Ok taken → length bytes ≡ length (bytes_of taken.0) + length taken.1
record_length = kinds_say HasLength enter_length leave_length steer_length advance_length order_length end_length

pub record_again : (r : Record) (rest : List ℕ) → FieldsFit r → read_record (bytes_of r ++ rest) ≡ Ok (r, rest)
record_again (Enter number position speed) rest fits = λ i. Ok (Enter (u16_again number fits.0 i) (i32_again position fits.1 i) (i16_again speed fits.2 i), rest)
record_again (Leave number) rest fits = λ i. Ok (Leave (u16_again number fits i), rest)
record_again (Steer number speed) rest fits = λ i. Ok (Steer (u16_again number fits.0 i) (i16_again speed fits.1 i), rest)
record_again (Advance seconds numerator denominator) rest fits = λ i. Ok (Advance (u32_again seconds fits.0 i) (u16_again numerator fits.1 i) (u16_again denominator fits.2 i), rest)
record_again Order rest fits = refl
record_again End rest fits = refl

pub reads_as_written : (bytes : List ℕ) → IsBytes bytes → ReadsAsWritten bytes
reads_as_written bytes h = record {
  written = λ taken e. record_takes bytes taken e h;
  again = λ taken fits e. ap read_record e ∙ record_again taken.0 taken.1 fits;
}
