-- The number that a word spells as it is printed.
use Rattle.std.proofs.Common.{◌≡◌, ℕ, suc, ◌^◌, ◌<◌, ◌≤◌, Bool, true, false, cond, ◌&&◌, List, Some, None, Result, Ok, Err, ℤ, pos, negsuc, neg_ℤ, eqb, ltb, ◌∷◌, [], SFits, refl, sym, ap, subst, ◌∙◌, arith}
use Rattle.std.specs.Fmt.{decimal, signed_decimal}
use Rattle.std.specs.Int.{Width}
use Rattle.std.specs.Int.Signed.{mag}
use Rattle.std.specs.Str.{bytes_eq, IsUtf8}
use Rattle.std.specs.Char.{digit_value}
use Rattle.std.proofs.lemmas.Bool.Decides.{Decides-ltb}
use Rattle.std.specs.Str.Parse.{IsNumeral, digits_value, signed_digits_value, ParsesUnsigned, ParsesSigned}
use Rattle.std.proofs.lemmas.Bool.{ne_eqb}
use Rattle.std.proofs.lemmas.Fmt.{decimal_is_IsNumeral, parse-decimal, parse-signed_decimal, IsAscii-decimal, IsAscii-signed}
use Rattle.std.proofs.lemmas.Slice.Eq.{bytes_eq-Decides}
use Rattle.std.proofs.lemmas.Str.{IsUtf8-from_ascii}
use Rattle.trace_text.specs.Parsing.{natural, integer}

-- a value that is chosen by two tests, where one of them fails
neither : {A : Type 0} (a b : Bool) (x : A) → ((a ≡ true) → (b ≡ true) → ⊥) → None ≡ cond (a && b) (Some x) None
neither true true x never = absurd (never refl refl)
neither true false x never = refl
neither false b x never = refl

both : {A : Type 0} (a b : Bool) (x : A) → a ≡ true → b ≡ true → Some x ≡ cond (a && b) (Some x) None
both true true x p q = refl
both true false x p q = absurd cc
both false b x p q = absurd cc

chosen : {A : Type 0} (a b : Bool) (x y : A) → cond (a && b) (Some x) None ≡ Some y → (a ≡ true) × (b ≡ true) × (x ≡ y)
chosen true true x y e = (refl, refl, cc)
chosen true false x y e = absurd cc
chosen false b x y e = absurd cc

module _ (word : List ℕ) where
  abbrev value : ℕ
  value = digits_value 10 word

  abbrev spelled : Bool
  spelled = bytes_eq word (decimal value)

  is_spelled : spelled ≡ true → word ≡ decimal value
  is_spelled e = (bytes_eq-Decides word (decimal value)).0 e

  pub natural_not_text : (k : ℕ) → 2 ^ k ≤ 2 ^ 64 → (IsUtf8 word → ⊥) → None ≡ natural (2 ^ k) word
  natural_not_text k le never = neither (ltb value (2 ^ k)) spelled value (λ small is.
      let below = (Decides-ltb value (2 ^ k)).0 small in
      never (subst IsUtf8 (sym (is_spelled is)) (IsUtf8-from_ascii (decimal value) (IsAscii-decimal value (omega arith)))))

  pub natural_unparsed : {E : Type 0} (k : ℕ) (e : E) → 2 ^ k ≤ 2 ^ 64 → ParsesUnsigned k 10 word (Err e) → None ≡ natural (2 ^ k) word
  natural_unparsed {E} k e le parsed = neither (ltb value (2 ^ k)) spelled value (λ small is.
      let below = (Decides-ltb value (2 ^ k)).0 small in
      let ok = parse-decimal {E = E} k value word (Err e) below (omega arith) (is_spelled is) parsed in
      absurd cc)

  pub natural_found : (k n : ℕ) → 2 ^ k ≤ 2 ^ 64 → n < 2 ^ k → word ≡ decimal n → Some n ≡ natural (2 ^ k) word
  natural_found k n le small e =
      let is : value ≡ n = ap (digits_value 10) e ∙ (decimal_is_IsNumeral n (omega arith)).1 in
      ap (λ (m : ℕ). Some m) (sym is) ∙ both (ltb value (2 ^ k)) spelled value ((Decides-ltb value (2 ^ k)).1 (omega arith)) ((bytes_eq-Decides word (decimal value)).1 (e ∙ ap decimal (sym is)))

  pub natural_other : {E : Type 0} (k n : ℕ) (r : Result ℕ E) → r ≡ Ok n → 2 ^ k ≤ 2 ^ 64 → ParsesUnsigned k 10 word r → (word ≡ decimal n → ⊥) → None ≡ natural (2 ^ k) word
  natural_other {E} k n r was le parsed never = neither (ltb value (2 ^ k)) spelled value (λ small is.
      let below = (Decides-ltb value (2 ^ k)).0 small in
      let ok = parse-decimal {E = E} k value word r below (omega arith) (is_spelled is) parsed in
      let same : n ≡ value = cc in
      never (is_spelled is ∙ ap decimal (sym same)))

  pub natural_spells : (limit n : ℕ) → natural limit word ≡ Some n → (n < limit) × (word ≡ decimal n)
  natural_spells limit n e =
      let c = chosen (ltb value limit) spelled value n e in
      (subst (λ (m : ℕ). m < limit) c.2 ((Decides-ltb value limit).0 c.0), is_spelled c.1 ∙ ap decimal c.2)

-- ---- signed numbers

numeral_value : (ds : List ℕ) → IsNumeral 10 ds → signed_digits_value 10 ds ≡ pos (digits_value 10 ds)
numeral_value [] h = absurd (omega (arith, h.0))
numeral_value (c ∷ cs) h =
    let no_minus : eqb c 45 ≡ false = ne_eqb c 45 (λ e. absurd (omega (arith, subst (λ (x : ℕ). digit_value x < 10) e h.1.0))) in
    let no_plus : eqb c 43 ≡ false = ne_eqb c 43 (λ e. absurd (omega (arith, subst (λ (x : ℕ). digit_value x < 10) e h.1.0))) in
    rw (no_minus, no_plus) refl

signed_value : (z : ℤ) → mag z < 2 ^ 63 → signed_digits_value 10 (signed_decimal z) ≡ z
signed_value (pos n) h =
    let is = decimal_is_IsNumeral n (omega arith) in
    numeral_value (decimal n) is.0 ∙ ap pos is.1
signed_value (negsuc n) h = ap (λ (m : ℕ). neg_ℤ (pos m)) (decimal_is_IsNumeral (suc n) (omega arith)).1

module _ (word : List ℕ) where
  abbrev signed : ℤ
  signed = signed_digits_value 10 word

  abbrev signed_spelled : Bool
  signed_spelled = bytes_eq word (signed_decimal signed)

  is_signed : signed_spelled ≡ true → word ≡ signed_decimal signed
  is_signed e = (bytes_eq-Decides word (signed_decimal signed)).0 e

  pub integer_not_text : (half : ℕ) → half ≤ 2 ^ 63 → (IsUtf8 word → ⊥) → None ≡ integer half word
  integer_not_text half le never = neither (ltb (mag signed) half) signed_spelled signed (λ small is.
      let below = (Decides-ltb (mag signed) half).0 small in
      never (subst IsUtf8 (sym (is_signed is)) (IsUtf8-from_ascii (signed_decimal signed) (IsAscii-signed signed (omega arith)))))

  pub integer_unparsed : {E : Type 0} (w : Width) (half : ℕ) (e : E) → half ≤ 2 ^ 63 → ((z : ℤ) → mag z < half → SFits w z) → ParsesSigned w 10 word (Err e) → None ≡ integer half word
  integer_unparsed {E} w half e le fits parsed = neither (ltb (mag signed) half) signed_spelled signed (λ small is.
      let below = (Decides-ltb (mag signed) half).0 small in
      let ok = parse-signed_decimal {E = E} w signed word (Err e) (fits signed below) (omega arith) (is_signed is) parsed in
      absurd cc)

  pub integer_found : (half : ℕ) (z : ℤ) → half ≤ 2 ^ 63 → mag z < half → word ≡ signed_decimal z → Some z ≡ integer half word
  integer_found half z le small e =
      let is : signed ≡ z = ap (signed_digits_value 10) e ∙ signed_value z (omega arith) in
      ap (λ (y : ℤ). Some y) (sym is) ∙ both (ltb (mag signed) half) signed_spelled signed ((Decides-ltb (mag signed) half).1 (subst (λ (y : ℤ). mag y < half) (sym is) small)) ((bytes_eq-Decides word (signed_decimal signed)).1 (e ∙ ap signed_decimal (sym is)))

  pub integer_spells : (half : ℕ) (z : ℤ) → integer half word ≡ Some z → (mag z < half) × (word ≡ signed_decimal z)
  integer_spells half z e =
      let c = chosen (ltb (mag signed) half) signed_spelled signed z e in
      (subst (λ (y : ℤ). mag y < half) c.2 ((Decides-ltb (mag signed) half).0 c.0), is_signed c.1 ∙ ap signed_decimal c.2)
