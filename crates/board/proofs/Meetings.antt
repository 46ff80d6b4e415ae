-- Level instants of pairs that stand.
use Rattle.std.proofs.Common.{◌≡◌, ℕ, ◌+◌, ◌*◌, ◌<◌, ◌≤◌, true, false, ℤ, pos, negsuc, ◌-ℤ◌, ◌*ℤ◌, nat_abs, ◌≤ℤ◌, ◌<ℤ◌, Some, sym, refl, ap, subst, inl, inr, ⊎_elim, mul-le-mul_right, mul_comm, mul-pos, mul_right_comm, le_of_mul-le-mul_right, arith}
use lib.Signed.{lt_z}
use Rattle.std.proofs.lemmas.Int.{ints, by_lt_z}
use Rattle.std.proofs.lemmas.Bool.{cases_Bool}
use Rattle.fairway.specs.Times.{Time, Proper, ◌≤ᵗ◌, ◌<ᵗ◌}
use Rattle.fairway.specs.Stamps.{den, time_of, earlier, BelowOne}
use Rattle.fairway.specs.Courses.{place, faster, Due}
use Rattle.fairway.specs.Meetings.{lowest_stamp, gap, gain, level, LevelInstant, Meets}
use Rattle.fairway.specs.Standing.{InOrderOrDue, NotLevelBefore}
use Rattle.fairway.specs.declared.course.Course.{Course}
use Rattle.fairway.specs.declared.stamp.Stamp.{Stamp}
use Rattle.fairway.proofs.Meetings.{met, level_meets}
use Rattle.fairway.proofs.Pairs.{past_told}
use Rattle.fairway.specs.StampsLemmas.{agrees}
use Rattle.fairway.proofs.Standings.{behind_place, due_back}

-- ---- in whole numbers
quotient_later : (n d a b x y : ℕ) → 0 < y → a * y ≡ x * b → n * y ≤ x * d → n * b ≤ a * d
quotient_later n d a b x y p e h =
    let i : n * y * b ≤ x * d * b = mul-le-mul_right b h in
    let j : a * y * d ≡ x * b * d = ap (λ z. z * d) e in
    le_of_mul-le-mul_right {k = y} (omega (arith, i, j, mul_right_comm n y b, mul_right_comm x d b, mul_right_comm a y d)) p

sized_way : (z w : ℤ) (n d : ℕ) → pos 0 <ℤ z → (z *ℤ pos n) ≤ℤ (w *ℤ pos d) → n * nat_abs z ≤ nat_abs w * d
sized_way (pos k) (pos j) n d p h = omega (arith, ints, h, mul_comm n k)
sized_way (pos k) (negsuc j) n d p h = omega (arith, ints, h, mul_comm n k)
sized_way (negsuc k) w n d p h = absurd (omega (arith, ints, p))

no_way_back : (z w : ℤ) (n d : ℕ) → pos 0 <ℤ z → w <ℤ pos 0 → 0 < d → (z *ℤ pos n) ≤ℤ (w *ℤ pos d) → ⊥
no_way_back (pos k) (negsuc j) n d p q h le = let m : 0 < (j + 1) * d = mul-pos (omega arith) h in omega (arith, ints, le, m)
no_way_back (pos k) (pos j) n d p q h le = omega (arith, ints, q)
no_way_back (negsuc k) w n d p q h le = omega (arith, ints, p)

gains : (r f : Course) → faster r f ≡ true → pos 0 <ℤ (r.speed -ℤ f.speed)
gains r f e = let s : f.speed <ℤ r.speed = grind (arith, ints) in omega (arith, ints, s)

gain_pos : (r f : Course) → faster r f ≡ true → 0 < gain r f
gain_pos r f e = let s : f.speed <ℤ r.speed = grind (arith, ints) in omega (arith, ints, s)

-- ---- a pair that is in order or due has not drawn level before
not_past : (x y : ℤ) → x ≤ℤ y → lt_z y x ≡ false
not_past x y h = grind (arith, ints)

pub not_before : (t : Time) (r f : Course) → InOrderOrDue t r f → NotLevelBefore t r f
not_before t r f (inl b) F = (past_told t r f F).0 (not_past (place t r) (place t f) (behind_place t r f b)) F
not_before t r f (inr d) F = (past_told t r f F).0 (not_past (place t r) (place t f) (let e = d.0 in omega (arith, ints, e))) F

-- what is known of a level instant
pub level_is : (r f : Course) (s : Stamp) → level r f ≡ Some s → LevelInstant r f s
level_is r f s e = subst (Meets r f) e (level_meets r f)

-- a pair whose rear is faster, and that has not drawn level before u, does so at an instant
pub has_level : (u : Time) → Proper u → (r f : Course) → faster r f ≡ true → NotLevelBefore u r f → (s : Stamp) × (level r f ≡ Some s)
has_level u p r f F h =
    by_lt_z f.base r.base
    (λ b. absurd (no_way_back (r.speed -ℤ f.speed) (f.base -ℤ r.base) u.num u.den (gains r f F) (omega (arith, ints, b)) p (h F)))
    (λ b. (lowest_stamp (gap r f) (gain r f), sym (met r f (lowest_stamp (gap r f) (gain r f)) F b refl).value))

-- which is not before u
pub level_later : (u : Time) (r f : Course) (s : Stamp) → level r f ≡ Some s → NotLevelBefore u r f → u ≤ᵗ time_of s
level_later u r f s e h =
    let l = level_is r f s e in
    let F = l.is_faster in
    quotient_later u.num u.den (time_of s).num (den s) (gap r f) (gain r f) (gain_pos r f F) l.quotient (sized_way (r.speed -ℤ f.speed) (f.base -ℤ r.base) u.num u.den (gains r f F) (h F))

-- ---- stamps by their times
pub not_earlier : (t u : Stamp) → BelowOne t → BelowOne u → time_of t ≤ᵗ time_of u → earlier u t ≡ false
not_earlier t u a b h = ⊎_elim (λ e. absurd (let k = (agrees u t b a).0 e in omega (arith, h, k))) (λ e. e) (cases_Bool (earlier u t))

pub certainly_earlier : (t u : Stamp) → BelowOne t → BelowOne u → time_of t <ᵗ time_of u → earlier t u ≡ true
certainly_earlier t u a b h = (agrees t u a b).1 h

-- a pair that is due at an instant has its level instant not after it
pub due_level : (t : Time) → Proper t → (r f : Course) (s : Stamp) → level r f ≡ Some s → Due t r f → time_of s ≤ᵗ t
due_level t p r f s e d = (level_is r f s e).turns.turned t p (due_back t r f d)
