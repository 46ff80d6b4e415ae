use Rattle.std.proofs.Common.{◌≡◌, ℕ, ◌+◌, ◌^◌, ◌<◌, ℤ, pos, ◌+ℤ◌, ◌*ℤ◌, ap, arith, w16, w64, SFits, to_z, of_z, rules}
use mir.Syntax.{w128}
use Rattle.std.proofs.lemmas.Int.{ints, to_z-of_z}
use Rattle.fairway.proofs.Wide.{base_fits, speed_fits, place_fits}
use Rattle.fairway.proofs.course.Course.position_at.Goals as goal

-- what the casts, the products and the sum lose: nothing
record Kept (b s : ℤ) (d n : ℕ) : Type 0 where
  base : to_z w128 (of_z w128 (to_z w64 (of_z w64 b))) ≡ b
  speed : to_z w128 (of_z w128 (to_z w16 (of_z w16 s))) ≡ s
  den : to_z w128 (of_z w128 (to_z w128 d +ℤ pos 1)) ≡ pos (d + 1)
  num : to_z w128 n ≡ pos n
  left_fits : SFits w128 (b *ℤ pos (d + 1))
  right_fits : SFits w128 (s *ℤ pos n)
  fits : SFits w128 ((b *ℤ pos (d + 1)) +ℤ (s *ℤ pos n))

kept : (b s : ℤ) (d n : ℕ) → SFits w64 b → SFits w16 s → d < 2 ^ 16 → n < 2 ^ 81 → Kept b s d n
kept b s d n f g h k =
    record {
      base = omega (arith, ints);
      speed = omega (arith, ints);
      den = omega (arith, ints);
      num = omega (arith, ints);
      left_fits = base_fits b (d + 1) f (omega arith);
      right_fits = speed_fits s n g k;
      fits = place_fits b s (d + 1) n f g (omega arith) k;
    }

pub overflow_mul-result : goal.overflow_mul-result
overflow_mul-result c =
    let k = kept c.args.self.base c.args.self.speed c.args.at.denominator_less_one c.parts_of-parts.result (search rules) (search rules) (search rules) c.parts_of-parts.ensures.small in
    rw (k.base, k.den) k.left_fits

pub overflow_mul-result-2 : goal.overflow_mul-result-2
overflow_mul-result-2 c =
    let k = kept c.args.self.base c.args.self.speed c.args.at.denominator_less_one c.parts_of-parts.result (search rules) (search rules) (search rules) c.parts_of-parts.ensures.small in
    rw (k.speed, k.num) k.right_fits

pub overflow_add-result-2 : goal.overflow_add-result-2
overflow_add-result-2 c =
    let k = kept c.args.self.base c.args.self.speed c.args.at.denominator_less_one c.parts_of-parts.result (search rules) (search rules) (search rules) c.parts_of-parts.ensures.small in
    rw (k.base, k.speed, k.den, k.num, to_z-of_z w128 _ k.left_fits, to_z-of_z w128 _ k.right_fits) k.fits

pub returns : goal.returns
returns c =
    let b = c.args.self.base in
    let s = c.args.self.speed in
    let k = kept b s c.args.at.denominator_less_one c.parts_of-parts.result (search rules) (search rules) (search rules) c.parts_of-parts.ensures.small in
    rw (k.base, k.speed, k.den, k.num, to_z-of_z w128 _ k.left_fits, to_z-of_z w128 _ k.right_fits, to_z-of_z w128 _ k.fits)
    (ap (λ n. b *ℤ pos (c.args.at.denominator_less_one + 1) +ℤ s *ℤ pos n) c.parts_of-parts.ensures.value)
