-- What the form of a ticket has to give: nothing else in the proofs looks into one.
use Rattle.std.proofs.Common.{◌≡◌, false, Some, refl}
use Rattle.fairway.specs.Meetings.{level}
use Rattle.fairway.specs.Stamps.{earlier}
use Rattle.fairway.specs.declared.course.Course.{Course}
use Rattle.fairway.specs.declared.stamp.Stamp.{Stamp}
use Rattle.board.specs.Tickets.{Ticket, instant_of, before, limit_of, ticket}

-- the ticket of a certificate is of the instant at which the two draw level
pub ticket_level : (r f : Course) (k : Ticket) → ticket (Some (r, f)) ≡ Some k → level r f ≡ Some (instant_of k)
ticket_level r f k e = e

-- a pair that draws level has a ticket, of that instant
pub record HasTicket (r f : Course) (at : Stamp) : Type 0 where
  pub ticket_is : Ticket
  pub asked : ticket (Some (r, f)) ≡ Some ticket_is
  pub instant_is : instant_of ticket_is ≡ at

pub has_ticket : (r f : Course) (at : Stamp) → level r f ≡ Some at → HasTicket r f at
has_ticket r f at e = record { ticket_is = at; asked = e; instant_is = refl }

-- a ticket is after the limit of an advance where its instant is later
pub by_limit : (to : Stamp) (k : Ticket) → before (limit_of to) k ≡ earlier to (instant_of k)
by_limit to k = refl

-- a ticket of an earlier instant is before another
pub by_order : (k l : Ticket) → before k l ≡ false → earlier (instant_of k) (instant_of l) ≡ false
by_order k l e = e
