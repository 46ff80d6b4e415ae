-- Refusals: the number of each, and which one a call answers.
use Rattle.std.specs.Prelude.{ℕ, Bool, true, false, List, [], ◌∷◌, Some, None, Option}
use Rattle.event_queue.specs.declared.refusal.Refusal.{Refusal}
use Rattle.event_queue.specs.declared.refusal.Refusal.TheVariants.{NoSuchTicket, TicketHeld}

infix 80 ◌when◌
-- the number of each refusal of an event queue
abbrev pub refusal_number : Refusal → ℕ
refusal_number NoSuchTicket = 11
refusal_number TicketHeld = 12

-- A line of a call's table of refusals: the refusal, and the condition that calls for it.
pub data Line (E : Type 0) : Type 0 where
  ◌when◌ : E → Bool → Line E

-- What a call with this table answers: the refusal of the topmost line whose condition holds. Where it
-- is none, the call is accepted.
abbrev pub topmost : {E : Type 0} → List (Line E) → Option E
topmost [] = None
topmost ((refusal when true) ∷ below) = Some refusal
topmost ((refusal when false) ∷ below) = topmost below
