-- A run of events from an opened board on: it is a past, and what holds of every board with a past held at the
-- opening and after each event.
use Rattle.std.specs.Prelude.{[], ◌∷◌}
use Rattle.event_queue.specs.Queues as queues
use Rattle.kinetic.specs.Structures as structures
use Rattle.board.specs.Tickets.{Ticket}
use Rattle.board.specs.Books.{Log}
use Rattle.board.specs.History.{Past, AllHappened, Throughout}
use Rattle.board.specs.History.Past.{opened, then}
use Rattle.board.specs.History.AllHappened.{nothing, next}
use Rattle.board.specs.Outcomes.{Opened}
use Rattle.board.specs.declared.board.Board.{Board}

module _ {S Q : Type 0} (m : structures.Meaning S) (n : queues.Meaning Q Ticket) where
  pub past_of : (q : Q) (a b : Board S Q) (log : Log) → n.sound q → Opened m n q a → AllHappened m n a log b → Past m n b log
  past_of q a b [] s o nothing = opened s o
  past_of q a b (e ∷ log) s o (next {b' = c} w h) = then (past_of q a c log s o w) h

  module _ (P : Board S Q → Log → Type 0) (holds : (b : Board S Q) (log : Log) → Past m n b log → P b log) where
    pub throughout_of : (q : Q) (a b : Board S Q) (log : Log) → n.sound q → Opened m n q a → (w : AllHappened m n a log b) → Throughout m n P w
    throughout_of q a b [] s o nothing = holds a [] (opened s o)
    throughout_of q a b (e ∷ log) s o (next {b' = c} w h) = (throughout_of q a c log s o w, holds b (e ∷ log) (then (past_of q a c log s o w) h))

    -- and of every board that events lead to from an opened board
    pub every_of : (q : Q) (a : Board S Q) → n.sound q → Opened m n q a → (log : Log) (b : Board S Q) → AllHappened m n a log b → P b log
    every_of q a s o log b w = holds b log (past_of q a b log s o w)
