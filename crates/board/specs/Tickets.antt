-- The tickets that the certificates of a structure ask for.
use Rattle.std.specs.Prelude.{◌≡◌, ℕ, Bool, false, List, Some, None, Option}
use Rattle.event_queue.specs.Queues as queues
use Rattle.event_queue.specs.Queues.{Only}
use Rattle.fairway.specs.Meetings.{level}
use Rattle.fairway.specs.Stamps.{earlier}
use Rattle.fairway.specs.declared.stamp.Stamp.{Stamp}
use Rattle.kinetic.specs.Numbers.{among}
use Rattle.kinetic.specs.Structures as structures
use Rattle.fairway.specs.declared.course.Course.{Course}

-- What the queue keeps under the number of a certificate: the instant at which its two draw level.
abbrev pub Ticket : Type 0
Ticket = Stamp

-- the instant of a ticket
abbrev pub instant_of : Ticket → Stamp
instant_of k = k

-- the order in which tickets are taken
abbrev pub before : Ticket → Ticket → Bool
before k l = earlier k l

-- the limit of an advance to an instant: a ticket of an instant that is not later is not after it
abbrev pub limit_of : Stamp → Ticket
limit_of to = to

-- the ticket that a certificate asks for
abbrev pub ticket : Option (Course × Course) → Option Ticket
ticket None = None
ticket (Some p) = level p.0 p.1

-- a call leaves a sound queue sound and as large as it was, and any queue where it was
pub record QueueKept {Q K : Type 0} (n : queues.Meaning Q K) (q q' : Q) : Type 0 where
  pub sound : n.sound q → n.sound q'
  pub capacity : n.sound q → n.capacity q' ≡ n.capacity q
  pub keeps : n.keeps q q'

module _ {S Q : Type 0} (m : structures.Meaning S) (n : queues.Meaning Q Ticket) where
  -- the queue holds the tickets that the certificates ask for, and no others
  abbrev pub Tickets : S → Q → Type 0
  Tickets s q = (i : ℕ) → n.held q i ≡ ticket (m.certificate s i)

  -- the numbers that are not among these have the tickets that their certificates ask for
  abbrev pub TicketsBut : S → Q → List ℕ → Type 0
  TicketsBut s q numbers = (i : ℕ) → among i numbers ≡ false → n.held q i ≡ ticket (m.certificate s i)

  -- the ticket of one number is what its certificate asks for, and every other is as it was, of a queue that is large enough
  abbrev pub RenewsOne : S → Q → Q → ℕ → Type 0
  RenewsOne s q q' number = n.sound q → n.capacity q ≡ 64 → Only n q q' number (ticket (m.certificate s number))

  -- once the named ones are renewed, the tickets are right where those of the other numbers were
  abbrev pub RenewsNamed : S → Q → Q → List ℕ → Type 0
  RenewsNamed s q q' numbers = n.sound q → n.capacity q ≡ 64 → TicketsBut s q numbers → Tickets s q'
