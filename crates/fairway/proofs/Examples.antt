-- The worked examples.
use Rattle.std.proofs.Common.{refl, arith, lit<, lit≤}
use Rattle.std.proofs.lemmas.Int.{ints}
use Rattle.fairway.specs.Times.{ratio}
use Rattle.fairway.specs.Fractions.{gcd}
use Rattle.fairway.specs.Behind.{behind}
use Rattle.fairway.specs.Meetings.{level, lowest_stamp}
use Rattle.fairway.specs.Orders.{here, none, mend}
use Rattle.fairway.specs.Examples.{Examples}

pub examples : Examples
unfolding gcd behind level lowest_stamp
examples =
    record {
      last_second = refl;
      last_in_sevenths = refl;
      past_last_second = refl;
      not_below_one = refl;
      no_denominator = refl;
      too_fine = refl;
      two_quarters = refl;
      level_at_five = refl;
      turned_at_five = refl;
      not_before = refl;
      by_a_mend = mend (ratio 5 1) (lit< tt) (lit≤ tt) (refl, record { lt = tt }) here none;
      level_at_half = refl;
      just_before_half = refl;
      just_at_half = refl;
      by_number = refl;
      never_level = refl;
      never_due = λ t d. omega (arith, ints, d.1);
      all_turned = refl;
      three_pairs = refl;
      load_before = refl;
      load_after = refl;
      fifteen_halves = refl;
      neighbours_in_order = refl;
      neighbours_due = (refl, record { lt = tt });
      then_not_in_order = refl;
      then_not_due = refl;
    }
