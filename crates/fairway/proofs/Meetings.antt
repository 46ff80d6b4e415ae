-- Level instants: lowest terms, the pair before and after, and the bounds.
use Rattle.std.proofs.Common.{◌≡◌, ℕ, ◌+◌, ◌-◌, ◌*◌, ◌/◌, ◌%◌, ◌<◌, ◌≤◌, Bool, true, false, ◌&&◌, ℤ, pos, negsuc, ◌+ℤ◌, ◌-ℤ◌, ◌*ℤ◌, nat_abs, ◌≤ℤ◌, ◌<ℤ◌, Some, None, Ok, sym, refl, ap, ◌∙◌, subst, inl, inr, ⊎_elim, mul-le-mul_right, mod-lt, mul_comm, mul-lt-mul_of_pos_right, div-le_self, le_of_mul-le-mul_right, arith}
use Rattle.std.specs.Bool.{Decides}
use native.Mathlib.Nat.{div-add-mod}
use lib.Signed.{le_z}
use Rattle.std.proofs.lemmas.Int.{ints, by_lt_z}
use Rattle.std.proofs.lemmas.Bool.{cases_Bool, cases_lt, cases_order, cond-true, cond-false, and_from, and_left, and_right}
use Rattle.event_queue.proofs.Options.{none_some, some_same}
use Rattle.fairway.specs.Times.{Time, ratio, whole_and, ◌≤ᵗ◌, ◌=ᵗ◌}
use Rattle.fairway.specs.Fractions.{gcd, Coprime}
use Rattle.fairway.specs.Stamps.{den, time_of, BelowOne}
use Rattle.fairway.specs.Courses.{InRange, faster, Due}
use Rattle.fairway.specs.Behind.{FromLevel}
use Rattle.fairway.specs.Meetings.{lowest_stamp, gap, gain, level, TurnsAt, LevelInstant, Meets, LevelAnswer}
use Rattle.fairway.specs.Standing.{NotLevelBefore}
use Rattle.fairway.specs.declared.course.Course.{Course}
use Rattle.fairway.specs.declared.stamp.Stamp.{Stamp}
use Rattle.fairway.proofs.Fractions.{gcd_is, common_divisor}
use Rattle.fairway.proofs.Instants.{lowered, one_stamp, stamp_below, stamp_lowest, stamp_time}
use Rattle.fairway.specs.Instants.{Made, stamp_of, instant_refusal}
use Rattle.fairway.specs.declared.instant.Instant.{Instant}
use Rattle.std.proofs.lemmas.Bool.Decides.{nat_tests, Decides-like}
use Rattle.fairway.proofs.Kinetic.{sub_mul, passes, stays}

-- ---- a quotient as a stamp
pub record Lowest (n d : ℕ) (s : Stamp) : Type 0 where
  pub below : BelowOne s
  pub coprime : Coprime s.numerator (den s)
  pub same : time_of s =ᵗ ratio n d
  pub seconds_is : s.seconds ≡ n / d
  pub small : den s ≤ d

pub lowest_is : (n d : ℕ) → 0 < d → Lowest n d (lowest_stamp n d)
unfolding lowest_stamp
lowest_is n d h =
    let g : ℕ = gcd (n % d) d in
    let m : n % d < d = mod-lt n h in
    let l = lowered (n / d) (n % d) d g m (common_divisor (n % d) d g (gcd_is (n % d) d)) in
    let p : 0 < d / g = omega (arith, l.below) in
    let e : d / g ≡ d / g - 1 + 1 = omega arith in
    let q : n / d * d + n % d ≡ n = ap (λ x. x + n % d) (mul_comm (n / d) d) ∙ div-add-mod n d in
    record {
      below = subst (λ x. n % d / g < x) e l.below;
      coprime = subst (λ x. Coprime (n % d / g) x) e l.coprime;
      same = subst (λ x. (n / d * x + n % d / g) * d ≡ n * x) e (l.same ∙ ap (λ x. x * (d / g)) q);
      seconds_is = refl;
      small = omega (arith, l.smaller);
    }

-- ---- times of equal value compare alike
same_lt : (n d a b x y : ℕ) → 0 < b → 0 < y → a * y ≡ x * b → n * b < a * d → n * y < x * d
same_lt n d a b x y p q e h =
    let i : n * b * y < a * d * y = mul-lt-mul_of_pos_right h q in
    let j : a * y * d ≡ x * b * d = ap (λ z. z * d) e in
    ⊎_elim (λ k. k) (λ k. let m = mul-le-mul_right b k in absurd (grind arith)) (cases_lt (n * y) (x * d))

same_le : (n d a b x y : ℕ) → 0 < b → 0 < y → a * y ≡ x * b → a * d ≤ n * b → x * d ≤ n * y
same_le n d a b x y p q e h =
    ⊎_elim (λ k. absurd (omega (arith, same_lt n d x y a b q p (sym e) k))) (λ k. k) (cases_lt (n * y) (x * d))

-- ---- signed products of numbers that are not negative
nonneg : (z : ℤ) → pos 0 ≤ℤ z → z ≡ pos (nat_abs z)
nonneg (pos n) h = refl
nonneg (negsuc n) h = absurd (omega (arith, ints))

lt_to : (x y : ℤ) (D G n d : ℕ) → x ≡ pos G → y ≡ pos D → n * G < D * d → (x *ℤ pos n) <ℤ (y *ℤ pos d)
lt_to x y D G n d e g h = rw (e, g) (omega (arith, ints, mul_comm n G))

lt_from : (x y : ℤ) (D G n d : ℕ) → x ≡ pos G → y ≡ pos D → (x *ℤ pos n) <ℤ (y *ℤ pos d) → n * G < D * d
lt_from x y D G n d e g h = omega (arith, ints, mul_comm n G, rw (e, g) at h)

le_to : (x y : ℤ) (D G n d : ℕ) → x ≡ pos G → y ≡ pos D → D * d ≤ n * G → (y *ℤ pos d) ≤ℤ (x *ℤ pos n)
le_to x y D G n d e g h = rw (e, g) (omega (arith, ints, mul_comm n G))

le_from : (x y : ℤ) (D G n d : ℕ) → x ≡ pos G → y ≡ pos D → (y *ℤ pos d) ≤ℤ (x *ℤ pos n) → D * d ≤ n * G
le_from x y D G n d e g h = omega (arith, ints, mul_comm n G, rw (e, g) at h)

eq_to : (x y : ℤ) (D G n d : ℕ) → x ≡ pos G → y ≡ pos D → n * G ≡ D * d → (x *ℤ pos n) ≡ (y *ℤ pos d)
eq_to x y D G n d e g h = rw (e, g) (omega (arith, ints, mul_comm n G))

eq_from : (x y : ℤ) (D G n d : ℕ) → x ≡ pos G → y ≡ pos D → (x *ℤ pos n) ≡ (y *ℤ pos d) → n * G ≡ D * d
eq_from x y D G n d e g h = omega (arith, ints, mul_comm n G, rw (e, g) at h)

even_ways : (rb fb rs fs : ℤ) (n d : ℕ) → rb *ℤ pos d +ℤ rs *ℤ pos n ≡ fb *ℤ pos d +ℤ fs *ℤ pos n → (rs -ℤ fs) *ℤ pos n ≡ (fb -ℤ rb) *ℤ pos d
even_ways rb fb rs fs n d e =
    let a = sub_mul rs fs n in
    let b = sub_mul fb rb d in
    omega (arith, ints)

even_places : (rb fb rs fs : ℤ) (n d : ℕ) → (rs -ℤ fs) *ℤ pos n ≡ (fb -ℤ rb) *ℤ pos d → rb *ℤ pos d +ℤ rs *ℤ pos n ≡ fb *ℤ pos d +ℤ fs *ℤ pos n
even_places rb fb rs fs n d e =
    let a = sub_mul rs fs n in
    let b = sub_mul fb rb d in
    omega (arith, ints)

not_above : (z : ℤ) (n : ℕ) → z ≤ℤ pos 0 → (z *ℤ pos n) ≤ℤ pos 0
not_above (pos k) n h = let e : k ≡ 0 = omega (arith, ints) in rw e (omega (arith, ints))
not_above (negsuc k) n h = omega (arith, ints)

not_below : (z : ℤ) (n : ℕ) → pos 0 ≤ℤ z → pos 0 ≤ℤ (z *ℤ pos n)
not_below (pos k) n h = omega (arith, ints)
not_below (negsuc k) n h = absurd (omega (arith, ints))

between : (x y : ℤ) → x ≤ℤ pos 0 → pos 0 ≤ℤ y → x ≤ℤ y
between x y h k = omega (arith, ints)

-- ---- a pair whose rear is faster, and not ahead at second 0
module _ (r f : Course) (F : faster r f ≡ true) (B : r.base ≤ℤ f.base) where
  slow : f.speed <ℤ r.speed
  slow = grind (arith, ints)

  gained : r.speed -ℤ f.speed ≡ pos (gain r f)
  gained = let s = slow in nonneg (r.speed -ℤ f.speed) (omega (arith, ints))

  apart : f.base -ℤ r.base ≡ pos (gap r f)
  apart = nonneg (f.base -ℤ r.base) (omega (arith, ints))

  gain_pos : 0 < gain r f
  gain_pos = let s = slow in let g = gained in omega (arith, ints)

  module _ (s : Stamp) (L : Lowest (gap r f) (gain r f) s) where
    turns_at : TurnsAt r f s
    turns_at =
        let D = gap r f in
        let G = gain r f in
        let x : ℤ = r.speed -ℤ f.speed in
        let y : ℤ = f.base -ℤ r.base in
        let a : ℕ = (time_of s).num in
        let b : ℕ = den s in
        let pb : 0 < b = omega arith in
        record {
          in_order = λ t p h. same_lt t.num t.den D G a b gain_pos pb (sym L.same) (lt_from x y D G t.num t.den gained apart ((passes t r f F).0 h));
          until = λ t p h. (passes t r f F).1 (lt_to x y D G t.num t.den gained apart (same_lt t.num t.den a b D G pb gain_pos L.same h));
          turned = λ t p h. same_le t.num t.den D G a b gain_pos pb (sym L.same) (le_from x y D G t.num t.den gained apart ((passes t r f F).2 h));
          from_then = λ t p h. (passes t r f F).3 (le_to x y D G t.num t.den gained apart (same_le t.num t.den a b D G pb gain_pos L.same h));
        }

    level_due : Due (time_of s) r f
    level_due =
        let e = eq_to (r.speed -ℤ f.speed) (f.base -ℤ r.base) (gap r f) (gain r f) (time_of s).num (den s) gained apart L.same in
        (even_places r.base f.base r.speed f.speed (time_of s).num (den s) e, slow)

    in_bounds : InRange r → InRange f → (s.seconds ≤ 67308864000) × (den s ≤ 2000)
    in_bounds ir jf =
        let g = gained in
        let a = apart in
        let G : gain r f ≤ 2000 = omega (arith, ints, ir.speed_high, jf.speed_low) in
        let D : gap r f ≤ 67308864000 = omega (arith, ints, ir.base_low, jf.base_high) in
        (omega (arith, L.seconds_is, div-le_self (gap r f) (gain r f)), omega (arith, L.small))

    level_instant : LevelInstant r f s
    level_instant =
        record { is_faster = F; below_one = L.below; lowest_terms = L.coprime; quotient = L.same; due = level_due; turns = turns_at; bounds = in_bounds }

-- ---- what is answered
not_ahead : (x y : ℤ) → x ≤ℤ y → le_z x y ≡ true
not_ahead x y h = grind (arith, ints)

ahead : (x y : ℤ) → y <ℤ x → le_z x y ≡ false
ahead x y h = grind (arith, ints)

pub met : (r f : Course) (s : Stamp) → faster r f ≡ true → r.base ≤ℤ f.base → s ≡ lowest_stamp (gap r f) (gain r f) → LevelAnswer r f (Some s)
unfolding level
met r f s F B e =
    let l = lowest_is (gap r f) (gain r f) (gain_pos r f F B) in
    record {
      value = ap Some e ∙ sym (cond-true (faster r f && le_z r.base f.base) (Some (lowest_stamp (gap r f) (gain r f))) None (and_from (faster r f) (le_z r.base f.base) F (not_ahead r.base f.base B)));
      meets = level_instant r f F B s (subst (Lowest (gap r f) (gain r f)) (sym e) l);
    }

pub not_faster : (r f : Course) → faster r f ≡ false → LevelAnswer r f None
unfolding level
not_faster r f F =
    record {
      value = sym (cond-false (faster r f && le_z r.base f.base) (Some (lowest_stamp (gap r f) (gain r f))) None (and_left (faster r f) (le_z r.base f.base) F));
      meets = inl (F, stays r f F);
    }

-- a faster rear that is ahead at second 0 is ahead from then on
always_ahead : (r f : Course) → faster r f ≡ true → f.base <ℤ r.base → (t : Time) → FromLevel t r f
always_ahead r f F B t =
    let s : f.speed <ℤ r.speed = grind (arith, ints) in
    let p = not_above (f.base -ℤ r.base) t.den (omega (arith, ints)) in
    let q = not_below (r.speed -ℤ f.speed) t.num (omega (arith, ints)) in
    between ((f.base -ℤ r.base) *ℤ pos t.den) ((r.speed -ℤ f.speed) *ℤ pos t.num) p q

pub gone_before : (r f : Course) → faster r f ≡ true → f.base <ℤ r.base → LevelAnswer r f None
unfolding level
gone_before r f F B =
    record {
      value = sym (cond-false (faster r f && le_z r.base f.base) (Some (lowest_stamp (gap r f) (gain r f))) None (and_right (faster r f) (le_z r.base f.base) (ahead r.base f.base B)));
      meets = inr (F, λ t p. (passes t r f F).3 (always_ahead r f F B t));
    }

-- a faster rear is level where its gain makes up the gap
pub due_where : (t : Time) (r f : Course) → faster r f ≡ true → r.base ≤ℤ f.base → (b : Bool) → Decides b (t.num * gain r f ≡ gap r f * t.den) → Decides b (Due t r f)
due_where t r f F B b h =
    Decides-like b
    (λ e. (even_places r.base f.base r.speed f.speed t.num t.den (eq_to (r.speed -ℤ f.speed) (f.base -ℤ r.base) (gap r f) (gain r f) t.num t.den (gained r f F B) (apart r f F B) e), slow r f F B))
    (λ d. eq_from (r.speed -ℤ f.speed) (f.base -ℤ r.base) (gap r f) (gain r f) t.num t.den (gained r f F B) (apart r f F B) (even_ways r.base f.base r.speed f.speed t.num t.den d.0))
    h

below_nothing : (z : ℤ) (n : ℕ) → 0 < n → z <ℤ pos 0 → (z *ℤ pos n) <ℤ pos 0
below_nothing z n p h =
    let a = sub_mul z (negsuc 0) n in
    let b = not_above (z -ℤ negsuc 0) n (omega (arith, ints)) in
    omega (arith, ints)

-- a faster rear that was ahead at second 0 is never due
never_due : (t : Time) (r f : Course) → 0 < t.den → faster r f ≡ true → f.base <ℤ r.base → Due t r f → ⊥
never_due t r f p F B d =
    let s : f.speed <ℤ r.speed = grind (arith, ints) in
    let e = even_ways r.base f.base r.speed f.speed t.num t.den d.0 in
    let x = below_nothing (f.base -ℤ r.base) t.den p (omega (arith, ints)) in
    let y = not_below (r.speed -ℤ f.speed) t.num (omega (arith, ints)) in
    omega (arith, ints)

pub not_due_ahead : (t : Time) (r f : Course) → 0 < t.den → faster r f ≡ true → f.base <ℤ r.base → Decides false (Due t r f)
not_due_ahead t r f p F B = ((λ e. cc), (λ d. absurd (never_due t r f p F B d)))

-- ---- for crates above

-- every pair's level instant is what it is said to be
pub level_meets : (r f : Course) → Meets r f (level r f)
level_meets r f =
    ⊎_elim
    (λ F. by_lt_z f.base r.base
    (λ b. let a = gone_before r f F b in subst (Meets r f) a.value a.meets)
    (λ b. let a = met r f (lowest_stamp (gap r f) (gain r f)) F b refl in subst (Meets r f) a.value a.meets))
    (λ F. let a = not_faster r f F in subst (Meets r f) a.value a.meets)
    (cases_Bool (faster r f))

same_not_later : (n d a b x y : ℕ) → 0 < b → a * y ≡ x * b → n * b ≤ a * d → n * y ≤ x * d
same_not_later n d a b x y p e h =
    let i : n * b * y ≤ a * d * y = mul-le-mul_right y h in
    let j : a * y * d ≡ x * b * d = ap (λ z. z * d) e in
    le_of_mul-le-mul_right {k = b} (grind arith) p

le_back : (x y : ℤ) (D G n d : ℕ) → x ≡ pos G → y ≡ pos D → n * G ≤ D * d → (x *ℤ pos n) ≤ℤ (y *ℤ pos d)
le_back x y D G n d e g h = rw (e, g) (omega (arith, ints, mul_comm n G))

-- up to its level instant a pair has not drawn level before
pub not_level_yet : (r f : Course) (s : Stamp) → level r f ≡ Some s → (u : Time) → u ≤ᵗ time_of s → NotLevelBefore u r f
unfolding level
not_level_yet r f s e u h F =
    by_lt_z f.base r.base
    (λ b. absurd (none_some ((gone_before r f F b).value ∙ e)))
    (λ b.
    let m = met r f (lowest_stamp (gap r f) (gain r f)) F b refl in
    let q : lowest_stamp (gap r f) (gain r f) ≡ s = some_same (m.value ∙ e) in
    let l : Lowest (gap r f) (gain r f) s = subst (Lowest (gap r f) (gain r f)) q (lowest_is (gap r f) (gain r f) (gain_pos r f F b)) in
    le_back (r.speed -ℤ f.speed) (f.base -ℤ r.base) (gap r f) (gain r f) u.num u.den (gained r f F b) (apart r f F b)
    (same_not_later u.num u.den (time_of s).num (den s) (gap r f) (gain r f) (omega arith) l.same h))

-- an instant that was made is, as a stamp, the one in lowest terms
pub made_lowest : (s n d : ℕ) (i : Instant) → Made s n d (Ok i) → stamp_of i ≡ lowest_stamp (s * d + n) d
made_lowest s n d i h =
    let p : 0 < d = divided s n d h.0 in
    let l = lowest_is (s * d + n) d p in
    one_stamp (stamp_of i) (lowest_stamp (s * d + n) d) (stamp_below i) l.below (stamp_lowest i) l.coprime
    (same_quotient (time_of (stamp_of i)).num (den (stamp_of i)) (time_of (lowest_stamp (s * d + n) d)).num (den (lowest_stamp (s * d + n) d)) (s * d + n) d p (subst (λ t. t =ᵗ whole_and s n d) (sym (stamp_time i)) h.1) l.same)
  where
    divided : (s n d : ℕ) → instant_refusal s n d ≡ None → 0 < d
    divided s n d e = grind (arith, nat_tests)

    same_quotient : (a b x y n d : ℕ) → 0 < d → a * d ≡ n * b → x * d ≡ n * y → a * y ≡ x * b
    same_quotient a b x y n d p e f =
        let i : a * d * y ≡ n * b * y = ap (λ z. z * y) e in
        let j : x * d * b ≡ n * y * b = ap (λ z. z * b) f in
        let k : a * y * d ≡ x * b * d = grind arith in
        ⊎_elim
        (λ z. z)
        (⊎_elim
        (λ l. let m = mul-lt-mul_of_pos_right {k = d} l p in absurd (omega (arith, m, k)))
        (λ l. let m = mul-lt-mul_of_pos_right {k = d} l p in absurd (omega (arith, m, k))))
        (cases_order (a * y) (x * b))
