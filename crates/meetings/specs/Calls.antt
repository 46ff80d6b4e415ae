-- The calls of the table as the code has them.
use Rattle.std.specs.Prelude.{List, [], ◌∷◌}
use Rattle.meetings.specs.declared.told.Meetings.{Meetings}
use Rattle.meetings.specs.declared.told.Told.{Told}

-- those of each meeting, in the order of the table
abbrev pub calls_in : Meetings → List (List Told)
calls_in m =
    m.level_at_five ∷ m.equally_fast ∷ m.three_at_six ∷ m.level_at_a_half ∷ m.same_instant ∷
    m.steered_when_level ∷ m.in_halves ∷ m.least_speed ∷ m.last_instant ∷ m.too_few_rows ∷ []
