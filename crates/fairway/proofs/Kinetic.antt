-- A pair over time.
use Rattle.std.proofs.Common.{◌≡◌, ℕ, ◌+◌, ◌-◌, ◌*◌, ◌<◌, ◌≤◌, ℤ, pos, ◌+ℤ◌, ◌-ℤ◌, ◌*ℤ◌, ap, inl, inr, ⊎_elim, mul-le-mul_right, mul_assoc, add-mul, mul-le-mul_left, mul-lt-mul_of_pos_right, mul_right_comm, le_of_mul-le-mul_right, arith}
use borrow.Author.Differences.{up, down}
use Rattle.std.proofs.lemmas.Int.{ints, by_lt_z}
use Rattle.std.proofs.lemmas.Bool.{cases_lt}
use Rattle.fairway.specs.Courses.{place}
use Rattle.fairway.specs.Behind.{Behind, Passes, Stays, Laws}
use Rattle.fairway.proofs.Laws.{is_test, mul_cancel, strict_order, differ, lesser_behind, level_slower}

-- (a - b) n = a n - b n
pub sub_mul : (a b : ℤ) (n : ℕ) → (a -ℤ b) *ℤ pos n ≡ a *ℤ pos n -ℤ b *ℤ pos n
sub_mul a b n =
    let e : (up (a -ℤ b) + down a + up b) * n ≡ (down (a -ℤ b) + up a + down b) * n = ap (λ k. k * n) (omega (arith, ints)) in
    omega (arith, ints, simp add-mul at e)

pub passes : Passes
passes t r f h =
    let e = sub_mul r.speed f.speed t.num in
    let g = sub_mul f.base r.base t.den in (
      (λ b. omega (arith, ints, (is_test t r f).0 b)),
      (λ b. (is_test t r f).1 (inl (omega (arith, ints)))),
      (λ b. omega (arith, ints, (is_test t f r).0 b)),
      (λ b. (is_test t f r).1
          (by_lt_z (place t f) (place t r) inl (λ c. inr (omega (arith, ints), inl (omega (arith, ints)))))),
    )

module _ (x y s n d n' d' : ℕ) (pd : 0 < d) (pd' : 0 < d') (later : n * d' ≤ n' * d) where
  -- multiplied out
  scaled : (s * n) * d' ≤ (s * n') * d
  scaled = rw (mul_assoc s n d', mul_assoc s n' d) (mul-le-mul_left s later)

  pub cross_le : y * d ≤ x * d + s * n → y * d' ≤ x * d' + s * n'
  cross_le h =
      let a : (y * d) * d' ≤ (x * d + s * n) * d' = mul-le-mul_right d' h in
      let b = scaled in
      let c : (y * d') * d ≤ (x * d' + s * n') * d =
      rw (mul_right_comm y d' d, add-mul (x * d') (s * n') d, mul_right_comm x d' d) (omega (arith, rw (add-mul (x * d) (s * n) d') at a)) in
      le_of_mul-le-mul_right c pd

  pub cross_lt : y * d < x * d + s * n → y * d' < x * d' + s * n'
  cross_lt h =
      let a : (y * d) * d' < (x * d + s * n) * d' = mul-lt-mul_of_pos_right h pd' in
      let b = scaled in
      let c : (y * d') * d < (x * d' + s * n') * d =
      rw (mul_right_comm y d' d, add-mul (x * d') (s * n') d, mul_right_comm x d' d) (omega (arith, rw (add-mul (x * d) (s * n) d') at a)) in
      ⊎_elim (λ k. k) (λ k. absurd (omega (arith, mul-le-mul_right d k))) (cases_lt (y * d') (x * d' + s * n'))

-- how far the front is before the rear, where the front is faster by k
pub spread : (rb rs fb fs : ℤ) (k : ℕ) → up rs + down fs + k ≡ up fs + down rs → (n d : ℕ) →
    up (rb *ℤ pos d +ℤ rs *ℤ pos n) + down (fb *ℤ pos d +ℤ fs *ℤ pos n) + ((up fb + down rb) * d + k * n)
    ≡ up (fb *ℤ pos d +ℤ fs *ℤ pos n) + down (rb *ℤ pos d +ℤ rs *ℤ pos n) + (up rb + down fb) * d
spread rb rs fb fs k e n d =
    let g : (up rs + down fs + k) * n ≡ (up fs + down rs) * n = ap (λ i. i * n) e in
    omega (arith, ints, simp add-mul at g, add-mul (up fb) (down rb) d, add-mul (up rb) (down fb) d)

pub stays : Stays
stays r f slow t u pt pu later b =
    let k : ℕ = up f.speed + down r.speed - (up r.speed + down f.speed) in
    let e : up r.speed + down f.speed + k ≡ up f.speed + down r.speed = omega (arith, ints) in
    let x : ℕ = up f.base + down r.base in
    let y : ℕ = up r.base + down f.base in
    (is_test u r f).1
    (go x y k (spread r.base r.speed f.base f.speed k e t.num t.den) (spread r.base r.speed f.base f.speed k e u.num u.den) e
    ((is_test t r f).0 b))
  where
    go : (x y k : ℕ) →
        up (place t r) + down (place t f) + (x * t.den + k * t.num) ≡ up (place t f) + down (place t r) + y * t.den →
        up (place u r) + down (place u f) + (x * u.den + k * u.num) ≡ up (place u f) + down (place u r) + y * u.den →
        up r.speed + down f.speed + k ≡ up f.speed + down r.speed →
        Behind t r f → Behind u r f
    go x y k a c e (inl h) = inl (omega (arith, ints, cross_lt x y k t.num t.den u.num u.den pt pu later (omega (arith, ints))))
    go x y k a c e (inr (l, inl h)) =
        by_lt_z (place u r) (place u f) inl
        (λ m. inr (omega (arith, ints, cross_le x y k t.num t.den u.num u.den pt pu later (omega (arith, ints))), inl h))
    go x y k a c e (inr (l, inr (v, h))) =
        let z : k ≡ 0 = omega (arith, ints) in
        let zt : k * t.num ≡ 0 = rw z (omega arith) in
        let zu : k * u.num ≡ 0 = rw z (omega arith) in
        let same = mul_cancel x y t.den pt (omega (arith, ints)) in
        let su : x * u.den ≡ y * u.den = ap (λ i. i * u.den) same in
        inr (omega (arith, ints), inr (v, h))

pub laws : Laws
laws = record { ordered = strict_order; differ = differ; lesser = lesser_behind; level_slower = level_slower; passes = passes; stays = stays }
