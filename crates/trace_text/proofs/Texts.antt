-- The records of a whole text.
use Rattle.std.proofs.Common.{◌≡◌, ℕ, suc, ◌+◌, ◌<◌, List, [], ◌∷◌, ◌++◌, length, Some, None, Result, Ok, Err, refl, sym, ap, subst, ◌∙◌, append_assoc, length-append, arith}
use Rattle.std.proofs.lemmas.List.{append-nil}
use Rattle.std.specs.Global.{Vec}
use Rattle.std.specs.List.{AllByRecursion}
use Rattle.trace.specs.declared.records.Record.{Record}
use Rattle.trace.specs.Layout.{FieldsFit}
use Rattle.trace_text.specs.declared.text.TextError.{TextError}
use Rattle.trace_text.specs.declared.text.TextError.TheVariants.{Memory, Unreadable}
use Rattle.trace_text.specs.Text.{line_of, whole_line, text_of, IsUnreadable, Answers, Reads}
use Rattle.trace_text.specs.Parsing.{line_at}
use Rattle.trace_text.proofs.Records.{line_again, line_found}

abbrev Fit : List Record → Type 0
Fit records = AllByRecursion FieldsFit records

fit_push : (records : List Record) (r : Record) → Fit records → FieldsFit r → Fit (records ++ r ∷ [])
fit_push [] r h fits = (fits, tt)
fit_push (s ∷ records) r h fits = (h.0, fit_push records r h.1 fits)

-- a text begins with the line of its first record
first_line : (r : Record) (records : List Record) → text_of (r ∷ records) ≡ line_of r ++ (10 ∷ text_of records)
first_line r records = append_assoc (line_of r) (10 ∷ []) (text_of records)

text_push : (records : List Record) (r : Record) → text_of (records ++ r ∷ []) ≡ text_of records ++ whole_line r
text_push [] r = append-nil (whole_line r)
text_push (s ∷ records) r = ap (λ (x : List ℕ). whole_line s ++ x) (text_push records r) ∙ sym (append_assoc (whole_line s) (text_of records) (whole_line r))

-- the text is that of these records, and then the rest
abbrev pub ReadSoFar : List ℕ → List Record → List ℕ → Type 0
ReadSoFar text records rest = (text ≡ text_of records ++ rest) × AllByRecursion FieldsFit records

pub read_more : (text : List ℕ) (records now : List Record) (rest after : List ℕ) (r : Record) → now ≡ records ++ r ∷ [] → ReadSoFar text records rest → line_at rest ≡ Some (r, after) → ReadSoFar text now after
read_more text records now rest after r put h e =
    let line = line_found rest (r, after) e in
    let more : text ≡ text_of (records ++ r ∷ []) ++ after =
    h.0 ∙ ap (λ (x : List ℕ). text_of records ++ x) (line.1 ∙ sym (append_assoc (line_of r) (10 ∷ []) after)) ∙ sym (append_assoc (text_of records) (whole_line r) after) ∙ ap (λ (x : List ℕ). x ++ after) (sym (text_push records r)) in
    subst (λ (rs : List Record). ReadSoFar text rs after) (sym put) (more, fit_push records r h.1 line.0)

none_left : (r : Record) (records : List Record) → FieldsFit r → text_of (r ∷ records) ≡ [] → ⊥
none_left r records fits e =
    let again = line_again r (text_of records) fits in
    let none : line_at (text_of (r ∷ records)) ≡ None = ap line_at e in
    let some : line_at (text_of (r ∷ records)) ≡ Some (r, text_of records) = ap line_at (first_line r records) ∙ again in
    absurd cc

pair_is : (p q : Record × List ℕ) → Some p ≡ Some q → p ≡ q
pair_is p q e = cc

same_first : (r s : Record) (a b : List ℕ) → FieldsFit r → FieldsFit s → line_of r ++ (10 ∷ a) ≡ line_of s ++ (10 ∷ b) → (r ≡ s) × (a ≡ b)
same_first r s a b p q e =
    let one : line_at (line_of r ++ (10 ∷ a)) ≡ Some (r, a) = line_again r a p in
    let two : line_at (line_of s ++ (10 ∷ b)) ≡ Some (s, b) = line_again s b q in
    let same : Some (r, a) ≡ Some (s, b) = sym one ∙ ap line_at e ∙ two in
    let pair : (r, a) ≡ (s, b) = pair_is (r, a) (s, b) same in
    (ap (λ (p : Record × List ℕ). p.0) pair, ap (λ (p : Record × List ℕ). p.1) pair)

-- a text is of one list of records
one_text : (a b : List Record) → Fit a → Fit b → text_of a ≡ text_of b → a ≡ b
one_text [] [] p q e = refl
one_text [] (s ∷ b) p q e = absurd (none_left s b q.0 (sym e))
one_text (r ∷ a) [] p q e = absurd (none_left r a p.0 e)
one_text (r ∷ a) (s ∷ b) p q e =
    let first = same_first r s (text_of a) (text_of b) p.0 q.0 (sym (first_line r a) ∙ e ∙ first_line s b) in
    λ i. first.0 i ∷ one_text a b p.1 q.1 first.1 i

-- a text with a rest that does not begin with a line is the text of no records
no_text : (a b : List Record) (rest : List ℕ) → Fit a → Fit b → (rest ≡ [] → ⊥) → ((r : Record) (others : List ℕ) → FieldsFit r → rest ≡ line_of r ++ (10 ∷ others) → ⊥) → text_of a ≡ text_of b ++ rest → ⊥
no_text [] [] rest p q more never e = more (sym e)
no_text (r ∷ a) [] rest p q more never e = never r (text_of a) p.0 (sym e ∙ first_line r a)
no_text [] (s ∷ b) rest p q more never e =
    let two : line_at (line_of s ++ (10 ∷ (text_of b ++ rest))) ≡ Some (s, text_of b ++ rest) = line_again s (text_of b ++ rest) q.0 in
    let parts : text_of (s ∷ b) ++ rest ≡ line_of s ++ (10 ∷ (text_of b ++ rest)) = ap (λ (x : List ℕ). x ++ rest) (first_line s b) ∙ append_assoc (line_of s) (10 ∷ text_of b) rest in
    let none : line_at (text_of (s ∷ b) ++ rest) ≡ None = ap line_at (sym e) in
    let some : line_at (text_of (s ∷ b) ++ rest) ≡ Some (s, text_of b ++ rest) = ap line_at parts ∙ two in
    absurd cc
no_text (r ∷ a) (s ∷ b) rest p q more never e =
    let parts : text_of (s ∷ b) ++ rest ≡ line_of s ++ (10 ∷ (text_of b ++ rest)) = ap (λ (x : List ℕ). x ++ rest) (first_line s b) ∙ append_assoc (line_of s) (10 ∷ text_of b) rest in
    let first = same_first r s (text_of a) (text_of b ++ rest) p.0 q.0 (sym (first_line r a) ∙ e ∙ parts) in
    no_text a b rest p.1 q.1 more never first.1

-- where no line is read, the next line is none of a record
pub unreadable : (text rest : List ℕ) (records : List Record) (number : ℕ) → number ≡ length records + 1 → ReadSoFar text records rest → (rest ≡ [] → ⊥) → line_at rest ≡ None → IsUnreadable text number
unreadable text rest records number n h more none = record {
  before = records;
  rest = rest;
  fit = h.1;
  parts = h.0;
  counted = n;
  more = more;
  no_line = λ r others fits e.
      let some : line_at rest ≡ Some (r, others) = ap line_at e ∙ line_again r others fits in
      absurd cc;
}

-- an answer that is right is the one of each text
pub answers_again : (text : List ℕ) (result : Result (Vec Record) TextError) → Answers text result → (records : List Record) → AllByRecursion FieldsFit records → text ≡ text_of records → Reads result records
answers_again text (Ok found) h records fits e = one_text found.items records h.0 fits (sym h.1 ∙ e)
answers_again text (Err Memory) h records fits e = tt
answers_again text (Err (Unreadable number)) h records fits e = no_text records h.before h.rest fits h.fit h.more h.no_line (sym e ∙ h.parts)

-- a line that is read is not empty
pub shorter : (rest after : List ℕ) (r : Record) → line_at rest ≡ Some (r, after) → length after < length rest
shorter rest after r e =
    let line = line_found rest (r, after) e in
    let size : length rest ≡ length (line_of r) + suc (length after) = ap length line.1 ∙ length-append (line_of r) (10 ∷ after) in
    omega arith

-- where nothing is left, the records are those of the text
pub ended : (text : List ℕ) (found : List Record) (rest : List ℕ) → ReadSoFar text found rest → rest ≡ [] → (records : List Record) → AllByRecursion FieldsFit records → text ≡ text_of records → found ≡ records
ended text found rest h none records fits e = one_text found records h.1 fits (sym (append-nil (text_of found)) ∙ ap (λ (x : List ℕ). text_of found ++ x) (sym none) ∙ sym h.0 ∙ e)
