-- The record of a line is the one whose line it is.
use Rattle.std.proofs.Common.{◌≡◌, ℕ, suc, ◌^◌, ◌<◌, ◌≤◌, Bool, true, false, cond, eqb, List, [], ◌∷◌, ◌++◌, Some, None, Option, ℤ, pos, negsuc, codes, refl, sym, ap, subst, ◌∙◌, arith}
use Rattle.std.specs.Fmt.{decimal, signed_decimal}
use Rattle.std.specs.Char.{digit_value}
use Rattle.std.specs.Int.Signed.{mag}
use Rattle.std.specs.Str.{bytes_eq}
use Rattle.std.specs.Str.Parse.{AllDigits}
use Rattle.std.proofs.lemmas.Bool.{ne_eqb}
use Rattle.std.proofs.lemmas.Fmt.{decimal_is_IsNumeral}
use Rattle.std.proofs.lemmas.Slice.Eq.{bytes_eq-Decides}
use Rattle.trace.specs.declared.records.Record.{Record}
use Rattle.trace.specs.declared.records.Record.TheVariants.{Enter, Leave, Steer, Advance, Order, End}
use Rattle.trace.specs.Layout.{FieldsFit}
use Rattle.trace_text.specs.Text.{line_of}
use Rattle.trace_text.specs.Parsing.{◌>>=◌, cut, natural, integer, enter_of, leave_of, steer_of, advance_of, named, record_of, line_at}
use Rattle.trace_text.proofs.Cuts.{lacks, lacks-append, cut_again, cut_parts}
use Rattle.trace_text.proofs.Numbers.{natural_found, natural_spells, integer_found, integer_spells}

-- ---- printed numbers have only digits and a minus

lacks_digits : (at : ℕ) (ds : List ℕ) → 10 ≤ digit_value at → AllDigits 10 ds → lacks at ds ≡ true
lacks_digits at [] other h = refl
lacks_digits at (c ∷ cs) other h =
    let apart : eqb c at ≡ false = ne_eqb c at (λ e. absurd (omega (arith, subst (λ (x : ℕ). digit_value x < 10) e h.0, other))) in
    rw (apart, lacks_digits at cs other h.1) refl

lacks_decimal : (at n : ℕ) → 10 ≤ digit_value at → n < 2 ^ 64 → lacks at (decimal n) ≡ true
lacks_decimal at n other lt = lacks_digits at (decimal n) other (decimal_is_IsNumeral n lt).0.1

lacks_signed : (at : ℕ) (z : ℤ) → 10 ≤ digit_value at → eqb 45 at ≡ false → mag z < 2 ^ 63 → lacks at (signed_decimal z) ≡ true
lacks_signed at (pos n) other minus lt = lacks_decimal at n other (omega arith)
lacks_signed at (negsuc n) other minus lt = rw (minus, lacks_decimal at (suc n) other (omega arith)) refl

-- ---- what was written is read

number_again : (k n : ℕ) → 2 ^ k ≤ 2 ^ 64 → n < 2 ^ k → natural (2 ^ k) (decimal n) ≡ Some n
number_again k n le lt = sym (natural_found (decimal n) k n le lt refl)

speed_again : (half : ℕ) (z : ℤ) → half ≤ 2 ^ 63 → mag z < half → integer half (signed_decimal z) ≡ Some z
speed_again half z le lt = sym (integer_found (signed_decimal z) half z le lt refl)

pub record_again : (r : Record) → FieldsFit r → record_of (line_of r) ≡ Some r
record_again (Enter number position speed) fits =
    let first = cut_again 32 (decimal number) (signed_decimal position ++ (32 ∷ signed_decimal speed)) (lacks_decimal 32 number (omega arith) (omega (arith, fits.0))) in
    let second = cut_again 32 (signed_decimal position) (signed_decimal speed) (lacks_signed 32 position (omega arith) refl (omega (arith, fits.1.sfits))) in
    rw (first, second, number_again 16 number (omega arith) fits.0, speed_again (2 ^ 31) position (omega arith) fits.1.sfits, speed_again (2 ^ 15) speed (omega arith) fits.2.sfits) refl
record_again (Leave number) fits = rw (number_again 16 number (omega arith) fits) refl
record_again (Steer number speed) fits =
    let first = cut_again 32 (decimal number) (signed_decimal speed) (lacks_decimal 32 number (omega arith) (omega (arith, fits.0))) in
    rw (first, number_again 16 number (omega arith) fits.0, speed_again (2 ^ 15) speed (omega arith) fits.1.sfits) refl
record_again (Advance seconds numerator denominator) fits =
    let first = cut_again 32 (decimal seconds) (decimal numerator ++ (47 ∷ decimal denominator)) (lacks_decimal 32 seconds (omega arith) (omega (arith, fits.0))) in
    let second = cut_again 47 (decimal numerator) (decimal denominator) (lacks_decimal 47 numerator (omega arith) (omega (arith, fits.1))) in
    rw (first, second, number_again 32 seconds (omega arith) fits.0, number_again 16 numerator (omega arith) fits.1, number_again 16 denominator (omega arith) fits.2) refl
record_again Order fits = refl
record_again End fits = refl

-- no line has a line feed
one_line : (r : Record) → FieldsFit r → lacks 10 (line_of r) ≡ true
one_line (Enter number position speed) fits =
    lacks-append 10 (decimal number) (32 ∷ (signed_decimal position ++ (32 ∷ signed_decimal speed))) (lacks_decimal 10 number (omega arith) (omega (arith, fits.0)))
    (lacks-append 10 (signed_decimal position) (32 ∷ signed_decimal speed) (lacks_signed 10 position (omega arith) refl (omega (arith, fits.1.sfits))) (lacks_signed 10 speed (omega arith) refl (omega (arith, fits.2.sfits))))
one_line (Leave number) fits = lacks_decimal 10 number (omega arith) (omega (arith, fits))
one_line (Steer number speed) fits = lacks-append 10 (decimal number) (32 ∷ signed_decimal speed) (lacks_decimal 10 number (omega arith) (omega (arith, fits.0))) (lacks_signed 10 speed (omega arith) refl (omega (arith, fits.1.sfits)))
one_line (Advance seconds numerator denominator) fits =
    lacks-append 10 (decimal seconds) (32 ∷ (decimal numerator ++ (47 ∷ decimal denominator))) (lacks_decimal 10 seconds (omega arith) (omega (arith, fits.0)))
    (lacks-append 10 (decimal numerator) (47 ∷ decimal denominator) (lacks_decimal 10 numerator (omega arith) (omega (arith, fits.1))) (lacks_decimal 10 denominator (omega arith) (omega (arith, fits.2))))
one_line Order fits = refl
one_line End fits = refl

pub line_again : (r : Record) (others : List ℕ) → FieldsFit r → line_at (line_of r ++ (10 ∷ others)) ≡ Some (r, others)
line_again r others fits =
    ap (λ (o : Option (List ℕ × List ℕ)). o >>= (λ a. record_of a.0 >>= (λ s. Some (s, a.1)))) (cut_again 10 (line_of r) others (one_line r fits))
    ∙ ap (λ (o : Option Record). o >>= (λ s. Some (s, others))) (record_again r fits)

-- ---- what is read was written

bind_some : {A B : Type 0} (o : Option A) (f : A → Option B) (y : B) → (o >>= f) ≡ Some y → (x : A) × (o ≡ Some x) × (f x ≡ Some y)
bind_some None f y e = absurd cc
bind_some (Some x) f y e = (x, refl, e)

record_is : (r s : Record) → Some r ≡ Some s → r ≡ s
record_is r s e = cc

-- a record and its line
abbrev Is : List ℕ → Record → Type 0
Is line r = FieldsFit r × (line ≡ line_of r)

enter_found : (fields : List ℕ) (r : Record) → enter_of fields ≡ Some r → Is (codes "enter" ++ (32 ∷ fields)) r
enter_found fields r e =
    let a = bind_some (cut 32 fields) (λ a. cut 32 a.1 >>= (λ b. natural (2 ^ 16) a.0 >>= (λ n. integer (2 ^ 31) b.0 >>= (λ p. integer (2 ^ 15) b.1 >>= (λ s. Some (Enter n p s)))))) r e in
    let b = bind_some (cut 32 a.0.1) (λ b. natural (2 ^ 16) a.0.0 >>= (λ n. integer (2 ^ 31) b.0 >>= (λ p. integer (2 ^ 15) b.1 >>= (λ s. Some (Enter n p s))))) r a.2 in
    let n = bind_some (natural (2 ^ 16) a.0.0) (λ n. integer (2 ^ 31) b.0.0 >>= (λ p. integer (2 ^ 15) b.0.1 >>= (λ s. Some (Enter n p s)))) r b.2 in
    let p = bind_some (integer (2 ^ 31) b.0.0) (λ p. integer (2 ^ 15) b.0.1 >>= (λ s. Some (Enter n.0 p s))) r n.2 in
    let s = bind_some (integer (2 ^ 15) b.0.1) (λ s. Some (Enter n.0 p.0 s)) r p.2 in
    let number = natural_spells a.0.0 (2 ^ 16) n.0 n.1 in
    let position = integer_spells b.0.0 (2 ^ 31) p.0 p.1 in
    let speed = integer_spells b.0.1 (2 ^ 15) s.0 s.1 in
    let parts : fields ≡ decimal n.0 ++ (32 ∷ (signed_decimal p.0 ++ (32 ∷ signed_decimal s.0))) =
    cut_parts 32 fields a.0 a.1 ∙ ap (λ (x : List ℕ). a.0.0 ++ (32 ∷ x)) (cut_parts 32 a.0.1 b.0 b.1) ∙ (λ i. number.1 i ++ (32 ∷ (position.1 i ++ (32 ∷ speed.1 i)))) in
    subst (Is (codes "enter" ++ (32 ∷ fields))) (record_is (Enter n.0 p.0 s.0) r s.2) ((number.0, record { sfits = position.0 }, record { sfits = speed.0 }), ap (λ (x : List ℕ). codes "enter " ++ x) parts)

leave_found : (fields : List ℕ) (r : Record) → leave_of fields ≡ Some r → Is (codes "leave" ++ (32 ∷ fields)) r
leave_found fields r e =
    let n = bind_some (natural (2 ^ 16) fields) (λ n. Some (Leave n)) r e in
    let number = natural_spells fields (2 ^ 16) n.0 n.1 in
    subst (Is (codes "leave" ++ (32 ∷ fields))) (record_is (Leave n.0) r n.2) (number.0, ap (λ (x : List ℕ). codes "leave " ++ x) number.1)

steer_found : (fields : List ℕ) (r : Record) → steer_of fields ≡ Some r → Is (codes "steer" ++ (32 ∷ fields)) r
steer_found fields r e =
    let a = bind_some (cut 32 fields) (λ a. natural (2 ^ 16) a.0 >>= (λ n. integer (2 ^ 15) a.1 >>= (λ s. Some (Steer n s)))) r e in
    let n = bind_some (natural (2 ^ 16) a.0.0) (λ n. integer (2 ^ 15) a.0.1 >>= (λ s. Some (Steer n s))) r a.2 in
    let s = bind_some (integer (2 ^ 15) a.0.1) (λ s. Some (Steer n.0 s)) r n.2 in
    let number = natural_spells a.0.0 (2 ^ 16) n.0 n.1 in
    let speed = integer_spells a.0.1 (2 ^ 15) s.0 s.1 in
    let parts : fields ≡ decimal n.0 ++ (32 ∷ signed_decimal s.0) = cut_parts 32 fields a.0 a.1 ∙ (λ i. number.1 i ++ (32 ∷ speed.1 i)) in
    subst (Is (codes "steer" ++ (32 ∷ fields))) (record_is (Steer n.0 s.0) r s.2) ((number.0, record { sfits = speed.0 }), ap (λ (x : List ℕ). codes "steer " ++ x) parts)

advance_found : (fields : List ℕ) (r : Record) → advance_of fields ≡ Some r → Is (codes "advance" ++ (32 ∷ fields)) r
advance_found fields r e =
    let a = bind_some (cut 32 fields) (λ a. cut 47 a.1 >>= (λ b. natural (2 ^ 32) a.0 >>= (λ t. natural (2 ^ 16) b.0 >>= (λ n. natural (2 ^ 16) b.1 >>= (λ d. Some (Advance t n d)))))) r e in
    let b = bind_some (cut 47 a.0.1) (λ b. natural (2 ^ 32) a.0.0 >>= (λ t. natural (2 ^ 16) b.0 >>= (λ n. natural (2 ^ 16) b.1 >>= (λ d. Some (Advance t n d))))) r a.2 in
    let t = bind_some (natural (2 ^ 32) a.0.0) (λ t. natural (2 ^ 16) b.0.0 >>= (λ n. natural (2 ^ 16) b.0.1 >>= (λ d. Some (Advance t n d)))) r b.2 in
    let n = bind_some (natural (2 ^ 16) b.0.0) (λ n. natural (2 ^ 16) b.0.1 >>= (λ d. Some (Advance t.0 n d))) r t.2 in
    let d = bind_some (natural (2 ^ 16) b.0.1) (λ d. Some (Advance t.0 n.0 d)) r n.2 in
    let seconds = natural_spells a.0.0 (2 ^ 32) t.0 t.1 in
    let numerator = natural_spells b.0.0 (2 ^ 16) n.0 n.1 in
    let denominator = natural_spells b.0.1 (2 ^ 16) d.0 d.1 in
    let parts : fields ≡ decimal t.0 ++ (32 ∷ (decimal n.0 ++ (47 ∷ decimal d.0))) =
    cut_parts 32 fields a.0 a.1 ∙ ap (λ (x : List ℕ). a.0.0 ++ (32 ∷ x)) (cut_parts 47 a.0.1 b.0 b.1) ∙ (λ i. seconds.1 i ++ (32 ∷ (numerator.1 i ++ (47 ∷ denominator.1 i)))) in
    subst (Is (codes "advance" ++ (32 ∷ fields))) (record_is (Advance t.0 n.0 d.0) r d.2) ((seconds.0, numerator.0, denominator.0), ap (λ (x : List ℕ). codes "advance " ++ x) parts)

-- a test of a name, and what is left where it fails
name_tested : (name word line : List ℕ) (here others : Option Record) (r : Record) → (name ≡ word → here ≡ Some r → Is line r) → (others ≡ Some r → Is line r) → cond (bytes_eq name word) here others ≡ Some r → Is line r
name_tested name word line here others r here_is other_is e = by_test (bytes_eq name word) ((bytes_eq-Decides name word).0) e
  where
    by_test : (t : Bool) → (t ≡ true → name ≡ word) → cond t here others ≡ Some r → Is line r
    by_test true is e = here_is (is refl) e
    by_test false is e = other_is e

named_found : (name fields : List ℕ) (r : Record) → named name fields ≡ Some r → Is (name ++ (32 ∷ fields)) r
named_found name fields r e =
    let line = name ++ (32 ∷ fields) in
    name_tested name (codes "enter") line (enter_of fields) _ r (λ is h. subst (λ (x : List ℕ). Is (x ++ (32 ∷ fields)) r) (sym is) (enter_found fields r h))
    (name_tested name (codes "leave") line (leave_of fields) _ r (λ is h. subst (λ (x : List ℕ). Is (x ++ (32 ∷ fields)) r) (sym is) (leave_found fields r h))
    (name_tested name (codes "steer") line (steer_of fields) _ r (λ is h. subst (λ (x : List ℕ). Is (x ++ (32 ∷ fields)) r) (sym is) (steer_found fields r h))
    (name_tested name (codes "advance") line (advance_of fields) None r (λ is h. subst (λ (x : List ℕ). Is (x ++ (32 ∷ fields)) r) (sym is) (advance_found fields r h)) (λ h. absurd cc)))) e

cut_found : (line : List ℕ) (r : Record) → (cut 32 line >>= (λ a. named a.0 a.1)) ≡ Some r → Is line r
cut_found line r e =
    let a = bind_some (cut 32 line) (λ a. named a.0 a.1) r e in
    let parts = cut_parts 32 line a.0 a.1 in
    subst (λ (x : List ℕ). Is x r) (sym parts) (named_found a.0.0 a.0.1 r a.2)

pub record_found : (line : List ℕ) (r : Record) → record_of line ≡ Some r → FieldsFit r × (line ≡ line_of r)
record_found line r e =
    name_tested line (codes "order") line (Some Order) _ r (λ is h. subst (Is line) (record_is Order r h) (tt, is))
    (name_tested line (codes "end") line (Some End) _ r (λ is h. subst (Is line) (record_is End r h) (tt, is)) (cut_found line r)) e

pub line_found : (text : List ℕ) (read : Record × List ℕ) → line_at text ≡ Some read → FieldsFit read.0 × (text ≡ line_of read.0 ++ (10 ∷ read.1))
line_found text read e =
    let a = bind_some (cut 10 text) (λ a. record_of a.0 >>= (λ s. Some (s, a.1))) read e in
    let s = bind_some (record_of a.0.0) (λ s. Some (s, a.0.1)) read a.2 in
    let found = record_found a.0.0 s.0 s.1 in
    let is : (s.0, a.0.1) ≡ read = cc in
    subst (λ (x : Record × List ℕ). FieldsFit x.0 × (text ≡ line_of x.0 ++ (10 ∷ x.1))) is (found.0, cut_parts 10 text a.0 a.1 ∙ ap (λ (x : List ℕ). x ++ (10 ∷ a.0.1)) found.1)
