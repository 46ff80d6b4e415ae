-- The tests that refusals rest on, and what they tell.
use Rattle.std.proofs.Common.{◌≡◌, ◌<◌, Bool, true, false, Some, None, Option, MatchOption, sym, refl, ap, ◌∙◌, arith}
use Rattle.std.proofs.lemmas.Int.{ints}
use Rattle.std.proofs.lemmas.Bool.{both_ways, false≢true}
use Rattle.fairway.specs.Times.{Time}
use Rattle.std.specs.Bool.{Decides}
use Rattle.fairway.specs.Courses.{InRange, Due}
use Rattle.fairway.specs.declared.course.Course.{Course}
use Rattle.kinetic.specs.Limits.{out_of_range, pair_due, due}

pub within : (c : Course) → out_of_range c ≡ false → 0 < c.number → InRange c
unfolding out_of_range
within c e n = grind (arith, ints)

pub of_range : (c : Course) → InRange c → out_of_range c ≡ false
unfolding out_of_range
of_range c r = grind (arith, ints)

-- ---- a pair that is due
pub pair_is_due : (t : Time) (r f : Course) → pair_due t r f ≡ true → Due t r f
unfolding pair_due
pair_is_due t r f e = grind (arith, ints)

pub is_pair_due : (t : Time) (r f : Course) → Due t r f → pair_due t r f ≡ true
unfolding pair_due
is_pair_due t r f d = grind (arith, ints)

-- an answer that tells whether the pair is due is the test
pub told : (t : Time) (r f : Course) (b : Bool) → Decides b (Due t r f) → b ≡ pair_due t r f
unfolding pair_due
told t r f b d = grind (arith, ints)

-- ---- a certificate that is due
-- an answer that tells whether the pair is due, or false where there is none
pub told_due : (t : Time) (o : Option (Course × Course)) (b : Bool) → MatchOption o (b ≡ false) (λ p. Decides b (Due t p.0 p.1)) → b ≡ due t o
told_due t None b h = h
told_due t (Some p) b h = told t p.0 p.1 b h

pub due_pair : (t : Time) (o : Option (Course × Course)) → due t o ≡ true → (r : Course) × (f : Course) × (o ≡ Some (r, f)) × Due t r f
due_pair t None e = absurd (false≢true e)
due_pair t (Some p) e = (p.0, p.1, refl, pair_is_due t p.0 p.1 e)

pub not_due : (t : Time) (o : Option (Course × Course)) → due t o ≡ false → (r f : Course) → o ≡ Some (r, f) → Due t r f → ⊥
not_due t o e r f q d = both_ways (due t o) e (ap (due t) q ∙ is_pair_due t r f d)

-- an answer on a certificate, as one on what the structure means by it
pub tested : (t : Time) (o p : Option (Course × Course)) (b : Bool) → b ≡ due t o → o ≡ p → due t p ≡ b
tested t o p b e q = sym (e ∙ ap (due t) q)
