-- The table of worked meetings.
use Rattle.std.specs.Prelude.{ℕ, ◌-◌, List, [], ◌∷◌, ℤ, pos, ◌-ℤ◌, Some, None, Option}
use Rattle.fairway.specs.declared.stamp.Stamp.{Stamp}
use Rattle.board.specs.declared.call.Call.{Call}
use Rattle.board.specs.declared.call.Call.TheVariants.{Open, Enter, Steer, Advance}
use Rattle.board.specs.declared.call.Outcome.{Outcome}
use Rattle.board.specs.declared.call.Outcome.TheVariants.{Accepted, Refused}
use Rattle.board.specs.declared.list.Length.{Length}
use Rattle.board.specs.declared.list.Neighbour.{Neighbour}
use Rattle.board.specs.declared.refusal.Refusal.{Refusal}
use Rattle.board.specs.declared.refusal.Refusal.TheVariants.{OutOfRange, ClockHasFraction, NoSuchInstant, FewRows}
use Rattle.meetings.specs.declared.told.Told.{Told}
use Rattle.meetings.specs.Meetings.{Step, told, from_front, tickets, total, position, ahead, Meeting}

infix 80 ◌gives◌
-- ---- how a line reads

-- a call, and how many rows it is lent
pub record Lent : Type 0 where
  pub call : Call
  pub rows : ℕ

-- the call with what comes of it, and that as a line of a meeting
abbrev pub line : Lent → Outcome → Told
line lent outcome = record { call = lent.call; lent = lent.rows; outcome = outcome }

abbrev pub ◌gives◌ : Lent → Outcome → Step
lent gives outcome = told (line lent outcome)

-- an opening
abbrev pub open_board : Lent
open_board = record { call = Open; rows = 0 }

-- a vessel's number, its position now and its speed
abbrev pub enter : ℕ → ℤ → ℤ → Lent
enter number now speed = record { call = Enter number now speed; rows = 0 }

-- a vessel's number and its new speed
abbrev pub steer : ℕ → ℤ → Lent
steer number speed = record { call = Steer number speed; rows = 0 }

-- to s seconds and n / d, lent as many rows as there can be passings, or so many
abbrev pub advance : ℕ → ℕ → ℕ → Lent
advance s n d = record { call = Advance s n d; rows = 2016 }

abbrev pub advance_lent : ℕ → ℕ → ℕ → ℕ → Lent
advance_lent rows s n d = record { call = Advance s n d; rows = rows }

-- a call is accepted, and mends nothing
abbrev pub taken : Outcome
taken = Accepted 0

-- an advance is accepted, and answers so many
abbrev pub passings : ℕ → Outcome
passings mends = Accepted mends

-- a call is refused
abbrev pub refused : Refusal → Outcome
refused refusal = Refused refusal

-- below 0
abbrev pub minus : ℕ → ℤ
minus n = pos 0 -ℤ pos n

-- a pair that draws level at s seconds and n / d, or never
abbrev pub at : ℕ → ℕ → ℕ → Option Stamp
at s n d = Some (record { seconds = s; numerator = n; denominator_less_one = d - 1 })

abbrev pub never : Option Stamp
never = None

-- so many parts of a centimetre
abbrev pub parts : ℤ → ℕ → Length
parts n d = record { parts = n; denominator = d }

-- a vessel, and the gap to it
abbrev pub neighbour : ℕ → Length → Option Neighbour
neighbour number gap = Some (record { number = number; gap = gap })

-- ---- the meetings

-- 7 and 3 draw level at 5: they pass one another then, and not before
abbrev pub level_at_five : Meeting
level_at_five =
    open_board gives taken ∷
    enter 7 (pos 0) (pos 3) gives taken ∷
    enter 3 (pos 10) (pos 1) gives taken ∷
    from_front (3 ∷ 7 ∷ []) ∷
    tickets (at 5 0 1 ∷ []) ∷
    advance 4 1 2 gives passings 0 ∷
    advance 5 0 1 gives passings 1 ∷
    from_front (7 ∷ 3 ∷ []) ∷
    tickets (never ∷ []) ∷
    total 1 ∷ []

-- level with equal speeds: the greater number is in front, and the two never pass
abbrev pub equally_fast : Meeting
equally_fast =
    open_board gives taken ∷
    enter 4 (pos 100) (pos 2) gives taken ∷
    enter 9 (pos 100) (pos 2) gives taken ∷
    from_front (9 ∷ 4 ∷ []) ∷
    tickets (never ∷ []) ∷ []

-- three that are all level at 6
abbrev pub three_at_six : Meeting
three_at_six =
    open_board gives taken ∷
    enter 1 (pos 0) (pos 3) gives taken ∷
    enter 2 (pos 6) (pos 2) gives taken ∷
    enter 5 (pos 12) (pos 1) gives taken ∷
    from_front (5 ∷ 2 ∷ 1 ∷ []) ∷
    tickets (at 6 0 1 ∷ at 6 0 1 ∷ []) ∷
    advance 6 0 1 gives passings 3 ∷
    position 1 (Some (parts (pos 18) 1)) ∷
    position 2 (Some (parts (pos 18) 1)) ∷
    position 5 (Some (parts (pos 18) 1)) ∷
    from_front (1 ∷ 2 ∷ 5 ∷ []) ∷
    total 3 ∷ []

-- 1 and 2 draw level at 3 1/2, which is 3 2/4
abbrev pub level_at_a_half : Meeting
level_at_a_half =
    open_board gives taken ∷
    enter 1 (pos 0) (pos 5) gives taken ∷
    enter 2 (pos 7) (pos 3) gives taken ∷
    tickets (at 3 1 2 ∷ []) ∷
    advance 3 499 1000 gives passings 0 ∷
    advance 3 2 4 gives passings 1 ∷
    total 1 ∷ []

-- 4 2/4 is 4 1/2; and a course changes at whole seconds only
abbrev pub same_instant : Meeting
same_instant =
    open_board gives taken ∷
    enter 7 (pos 0) (pos 3) gives taken ∷
    enter 3 (pos 10) (pos 1) gives taken ∷
    advance 4 2 4 gives passings 0 ∷
    advance 4 1 2 gives passings 0 ∷
    steer 7 (pos 0) gives refused ClockHasFraction ∷ []

-- at 5, when the two are level, 7 becomes the slower: 3 is in front again, and that is no passing
abbrev pub steered_when_level : Meeting
steered_when_level =
    open_board gives taken ∷
    enter 7 (pos 0) (pos 3) gives taken ∷
    enter 3 (pos 10) (pos 1) gives taken ∷
    advance 5 0 1 gives passings 1 ∷
    steer 7 (pos 0) gives taken ∷
    from_front (3 ∷ 7 ∷ []) ∷
    total 1 ∷ []

-- -7 1/2 centimetres, and a gap of half a centimetre
abbrev pub in_halves : Meeting
in_halves =
    open_board gives taken ∷
    enter 1 (minus 10) (pos 1) gives taken ∷
    enter 2 (minus 7) (pos 0) gives taken ∷
    advance 2 1 2 gives passings 0 ∷
    position 1 (Some (parts (minus 15) 2)) ∷
    ahead 1 (neighbour 2 (parts (pos 1) 2)) ∷
    ahead 2 None ∷ []

-- the least speed
abbrev pub least_speed : Meeting
least_speed =
    open_board gives taken ∷
    enter 1 (pos 0) (minus 1000) gives taken ∷
    enter 2 (pos 0) (minus 1001) gives refused OutOfRange ∷ []

-- the last instant, and three that are none
abbrev pub last_instant : Meeting
last_instant =
    open_board gives taken ∷
    advance 16777216 0 1 gives passings 0 ∷
    advance 16777216 1 2 gives refused NoSuchInstant ∷
    advance 3 2 2 gives refused NoSuchInstant ∷
    advance 3 0 1001 gives refused NoSuchInstant ∷ []

-- as many rows are needed as there are pairs with a faster rear, even if none passes in the time
abbrev pub too_few_rows : Meeting
too_few_rows =
    open_board gives taken ∷
    enter 7 (pos 0) (pos 3) gives taken ∷
    enter 3 (pos 10) (pos 1) gives taken ∷
    advance_lent 0 1 0 1 gives refused FewRows ∷
    advance_lent 1 1 0 1 gives passings 0 ∷
    advance_lent 1 5 0 1 gives passings 1 ∷ []

-- the table
abbrev pub meetings : List Meeting
meetings =
    level_at_five ∷ equally_fast ∷ three_at_six ∷ level_at_a_half ∷ same_instant ∷
    steered_when_level ∷ in_halves ∷ least_speed ∷ last_instant ∷ too_few_rows ∷ []
