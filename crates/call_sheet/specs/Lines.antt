-- The refusals of a call sheet.
use Rattle.std.specs.Prelude.{ℕ, [], ◌∷◌, Option, nat_le}
use Rattle.event_queue.specs.Refusals.{◌when◌, topmost}
use Rattle.call_sheet.specs.declared.refusal.Refusal.{Refusal}
use Rattle.call_sheet.specs.declared.refusal.Refusal.TheVariants.{NoSuchLine}

-- the number of each refusal of a call sheet
abbrev pub refusal_number : Refusal → ℕ
refusal_number NoSuchLine = 11

-- the refusals of await and heard on a sheet of this capacity
abbrev pub line_refusal : ℕ → ℕ → Option Refusal
line_refusal capacity line = topmost (NoSuchLine when nat_le capacity line ∷ [])
