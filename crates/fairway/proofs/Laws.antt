-- `behind` is a strict total order at each time, and courses can be told apart.
use Rattle.std.proofs.Common.{◌≡◌, ℕ, ◌+◌, ◌*◌, ◌<◌, ◌≤◌, Bool, true, false, cond, ltb, ◌⊎◌, ℤ, pos, ◌+ℤ◌, ◌*ℤ◌, ◌<ℤ◌, refl, ap, ◌∙◌, inl, inr, ⊎_elim, add-mul, le_of_mul-le-mul_right, arith}
use native.Mathlib.Decide.{ℕ_discrete}
use lib.IntN.{ℤ_discrete}
use lib.Signed.{lt_z}
use borrow.Author.Differences.{up, down}
use Rattle.std.proofs.lemmas.Int.{ints, by_lt_z}
use Rattle.std.proofs.lemmas.Bool.Decides.{Decides-at}
use Rattle.std.proofs.lemmas.Bool.{ltb-true, ltb-false, cases_order, false≢true}
use Rattle.std.specs.Bool.{Decides}
use Rattle.fairway.specs.Times.{Time, Proper}
use Rattle.fairway.specs.Courses.{place, Level, faster}
use Rattle.fairway.specs.Behind.{behind, Behind, IsTest, Irreflexive, Transitive, Total, StrictOrder, VesselsDiffer, LesserBehind, LevelSlower}
use Rattle.fairway.specs.declared.course.Course.{Course}

-- the lexicographic order of three numbers, as a statement and as a test
abbrev Lex : ℤ → ℤ → ℕ → ℤ → ℤ → ℕ → Type 0
Lex p s m q r n = (p <ℤ q) ⊎ ((p ≡ q) × ((s <ℤ r) ⊎ ((s ≡ r) × (m < n))))

abbrev lex : ℤ → ℤ → ℕ → ℤ → ℤ → ℕ → Bool
lex p s m q r n = cond (lt_z p q) true (cond (lt_z q p) false (cond (lt_z s r) true (cond (lt_z r s) false (ltb m n))))

-- what the five tests can say together
data Says (p s : ℤ) (m : ℕ) (q r : ℤ) (n : ℕ) : Bool → Type 0 where
  says_yes : Lex p s m q r n → Says p s m q r n true
  says_no : (Lex p s m q r n → ⊥) → Says p s m q r n false

module _ (p s : ℤ) (m : ℕ) (q r : ℤ) (n : ℕ) where
  says : (a b c d e : Bool) → lt_z p q ≡ a → lt_z q p ≡ b → lt_z s r ≡ c → lt_z r s ≡ d → ltb m n ≡ e → Says p s m q r n (cond a true (cond b false (cond c true (cond d false e))))
  says true b c d e i j k l o = says_yes (inl (omega (arith, ints)))
  says false true c d e i j k l o = says_no (λ h. omega (arith, ints))
  says false false true d e i j k l o = says_yes (inr (omega (arith, ints), inl (omega (arith, ints))))
  says false false false true e i j k l o = says_no (λ h. omega (arith, ints))
  says false false false false true i j k l o = says_yes (inr (omega (arith, ints), inr (omega (arith, ints), ltb-true m n o)))
  says false false false false false i j k l o = says_no (λ h. omega (arith, ints, ltb-false m n o))

  said : Says p s m q r n (lex p s m q r n)
  said = says (lt_z p q) (lt_z q p) (lt_z s r) (lt_z r s) (ltb m n) refl refl refl refl refl

yes_of : {p s : ℤ} {m : ℕ} {q r : ℤ} {n : ℕ} (b : Bool) → Says p s m q r n b → b ≡ true → Lex p s m q r n
yes_of true (says_yes h) e = h
yes_of false (says_no h) e = absurd (false≢true e)

of_yes : {p s : ℤ} {m : ℕ} {q r : ℤ} {n : ℕ} (b : Bool) → Says p s m q r n b → Lex p s m q r n → b ≡ true
of_yes true (says_yes h) l = refl
of_yes false (says_no h) l = absurd (h l)

pub is_test : IsTest
unfolding behind
is_test t u w =
    let s = said (place t u) u.speed u.number (place t w) w.speed w.number in
    (yes_of (behind t u w) s, of_yes (behind t u w) s)

pub told_behind : (t : Time) (u w : Course) (r : Bool) → r ≡ behind t u w → Decides r (Behind t u w)
told_behind t u w r e = Decides-at r (behind t u w) e (is_test t u w)

pub irreflexive : (t : Time) → Irreflexive t
irreflexive t u h = omega (arith, ints, (is_test t u u).0 h)

lex_trans : (p s : ℤ) (m : ℕ) (q r : ℤ) (n : ℕ) (x y : ℤ) (k : ℕ) → Lex p s m q r n → Lex q r n x y k → Lex p s m x y k
lex_trans p s m q r n x y k (inl h) (inl i) = inl (omega (arith, ints))
lex_trans p s m q r n x y k (inl h) (inr i) = inl (omega (arith, ints))
lex_trans p s m q r n x y k (inr h) (inl i) = inl (omega (arith, ints))
lex_trans p s m q r n x y k (inr (h, inl j)) (inr (i, inl l)) = inr (omega (arith, ints), inl (omega (arith, ints)))
lex_trans p s m q r n x y k (inr (h, inl j)) (inr (i, inr l)) = inr (omega (arith, ints), inl (omega (arith, ints)))
lex_trans p s m q r n x y k (inr (h, inr j)) (inr (i, inl l)) = inr (omega (arith, ints), inl (omega (arith, ints)))
lex_trans p s m q r n x y k (inr (h, inr j)) (inr (i, inr l)) = inr (omega (arith, ints), inr (omega (arith, ints), omega arith))

pub transitive : (t : Time) → Transitive t
transitive t u v w h i =
    (is_test t u w).1 (lex_trans (place t u) u.speed u.number (place t v) v.speed v.number (place t w) w.speed w.number ((is_test t u v).0 h) ((is_test t v w).0 i))

abbrev course : ℕ → ℤ → ℤ → Course
course n s b = record { number = n; speed = s; base = b }

pub eq_course : (u w : Course) → u.number ≡ w.number → u.speed ≡ w.speed → u.base ≡ w.base → u ≡ w
eq_course u w a b c =
    ap (λ n. course n u.speed u.base) a ∙ ap (λ v. course w.number v u.base) b ∙ ap (course w.number w.speed) c

pub mul_cancel : (a b d : ℕ) → 0 < d → a * d ≡ b * d → a ≡ b
mul_cancel a b d h e =
    let i : a ≤ b = le_of_mul-le-mul_right (omega arith) h in
    let j : b ≤ a = le_of_mul-le-mul_right (omega arith) h in
    omega arith

same_base : (a b x y : ℤ) (d n : ℕ) → 0 < d → x ≡ y → a *ℤ pos d +ℤ x *ℤ pos n ≡ b *ℤ pos d +ℤ y *ℤ pos n → a ≡ b
same_base a b x y d n h e i =
    let f : x *ℤ pos n ≡ y *ℤ pos n = cc in
    let g : (up a + down b) * d ≡ (up b + down a) * d = simp add-mul (omega (arith, ints)) in
    let k = mul_cancel (up a + down b) (up b + down a) d h g in
    omega (arith, ints)

lex_cases : (p s : ℤ) (m : ℕ) (q r : ℤ) (n : ℕ) → ((p ≡ q) × (s ≡ r) × (m ≡ n)) ⊎ (Lex p s m q r n ⊎ Lex q r n p s m)
lex_cases p s m q r n =
    by_lt_z p q (λ h. inr (inl (inl h))) (λ a.
    by_lt_z q p (λ h. inr (inr (inl h))) (λ b.
    by_lt_z s r (λ h. inr (inl (inr (omega (arith, ints), inl h)))) (λ c.
    by_lt_z r s (λ h. inr (inr (inr (omega (arith, ints), inl h)))) (λ d.
    ⊎_elim (λ h. inl (omega (arith, ints), omega (arith, ints), h))
    (⊎_elim (λ h. inr (inl (inr (omega (arith, ints), inr (omega (arith, ints), h)))))
    (λ h. inr (inr (inr (omega (arith, ints), inr (omega (arith, ints), h))))))
    (cases_order m n)))))

pub total : (t : Time) → Proper t → Total t
total t pr u w =
    ⊎_elim (λ e. inl (eq_course u w e.2 e.1 (same_base u.base w.base u.speed w.speed t.den t.num pr e.1 e.0)))
    (⊎_elim (λ h. inr (inl ((is_test t u w).1 h))) (λ h. inr (inr ((is_test t w u).1 h))))
    (lex_cases (place t u) u.speed u.number (place t w) w.speed w.number)

pub strict_order : (t : Time) → Proper t → StrictOrder t
strict_order t pr = record { irreflexive = irreflexive t; transitive = transitive t; total = total t pr }

pub differ : VesselsDiffer
differ t pr u w n = ⊎_elim (λ e. absurd (n (ap (λ c. c.number) e))) (λ h. h) (total t pr u w)

pub lesser_behind : LesserBehind
lesser_behind t u w h = (is_test t u w).1 (inl h)

-- one that is behind at the same place is slower or as fast
level_cases : (t : Time) (r f : Course) → Behind t r f → Level t r f → faster r f ≡ false
level_cases t r f (inl h) l = absurd (omega (arith, ints))
level_cases t r f (inr (e, inl h)) l = grind (arith, ints)
level_cases t r f (inr (e, inr (v, h))) l = grind (arith, ints)

pub level_slower : LevelSlower
level_slower t r f b l = level_cases t r f ((is_test t r f).0 b) l

-- ---- courses can be told apart
course_by : (u w : Course) → Dec (u.number ≡ w.number) → Dec (u.speed ≡ w.speed) → Dec (u.base ≡ w.base) → Dec (u ≡ w)
course_by u w (yes a) (yes b) (yes c) = yes (eq_course u w a b c)
course_by u w (yes a) (yes b) (no c) = no (λ e. c (ap (λ z. z.base) e))
course_by u w (yes a) (no b) c = no (λ e. b (ap (λ z. z.speed) e))
course_by u w (no a) b c = no (λ e. a (ap (λ z. z.number) e))

pub course_eq : (u w : Course) → Dec (u ≡ w)
course_eq u w = course_by u w (ℕ_discrete u.number w.number) (ℤ_discrete u.speed w.speed) (ℤ_discrete u.base w.base)
