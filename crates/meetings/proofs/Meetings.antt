-- The worked meetings, by computation.
use Rattle.std.proofs.Common.{refl}
use Rattle.fairway.specs.Fractions.{gcd}
use Rattle.fairway.specs.Behind.{behind}
use Rattle.fairway.specs.Meetings.{level, lowest_stamp}
use Rattle.fairway.specs.Stamps.{earlier}
use Rattle.kinetic.specs.Limits.{out_of_range}
use Rattle.board.specs.Boards.{position_out, speed_out}
use Rattle.meetings.specs.Meetings.{AllHold}
use Rattle.meetings.specs.Table.{meetings}

pub meetings_hold : AllHold meetings
unfolding gcd behind level lowest_stamp earlier out_of_range position_out speed_out
meetings_hold = (refl, (refl, (refl, (refl, (refl, (refl, (refl, (refl, (refl, (refl, tt))))))))))
