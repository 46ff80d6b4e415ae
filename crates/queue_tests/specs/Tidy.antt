-- What a ticket that counts what found no key means as an event queue: what the ticket means. The count is no part of it.
use Rattle.std.specs.Prelude.{None}
use Rattle.event_queue.specs.Queues.{Meaning, Empty}
use Rattle.single_ticket.specs.Meanings.{single_meaning, none_held}
use Rattle.queue_tests.specs.declared.tidy.TidyTicket.{TidyTicket}

abbrev pub tidy_meaning : {K : Type 0} → Meaning (TidyTicket K) K
tidy_meaning = record {
  sound = λ q. single_meaning.sound q.ticket;
  capacity = λ q. single_meaning.capacity q.ticket;
  held = λ q. single_meaning.held q.ticket;
  keeps = λ q r. single_meaning.keeps q.ticket r.ticket;
  bounded = λ q. single_meaning.bounded q.ticket;
  within = λ q. single_meaning.within q.ticket;
  keeps_itself = λ q. single_meaning.keeps_itself q.ticket;
  keeps_on = λ a b c. single_meaning.keeps_on a.ticket b.ticket c.ticket;
}

-- with no key in the ticket it is empty
pub in_none : {K : Type 0} → (q : TidyTicket K) × Empty (tidy_meaning {K = K}) q
in_none = (record { ticket = record { key = None }; found_none = 0 }, record { sound = tt; none = none_held.none })
