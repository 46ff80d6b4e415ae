-- What the parts of the code that write promise one another.
use Rattle.std.specs.Prelude.{◌≡◌, ℕ, ◌+◌, ◌≤◌, List, ◌++◌, length, take, drop}

-- the text has room on the page before `end`
abbrev pub RoomBefore : List ℕ → List ℕ → ℕ → Type 0
RoomBefore text page end = (length text ≤ end) × (end ≤ length page)

-- The text was put onto the page from `start` to `end`, and the other bytes stayed.
pub record Put (text page page' : List ℕ) (end start : ℕ) : Type 0 where
  pub ends : start + length text ≡ end
  pub written : drop start page' ≡ text ++ drop end page
  pub before : take start page' ≡ take start page
