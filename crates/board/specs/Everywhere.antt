-- The claim of every board that there can be.
use Rattle.event_queue.specs.Queues as queues
use Rattle.kinetic.specs.Structures as structures
use Rattle.sorted_list.specs.Questions.{means}
use Rattle.sorted_list.specs.declared.list.SortedList.{SortedList}
use Rattle.board.specs.Books.{Log}
use Rattle.board.specs.Claims.{AsListed}
use Rattle.board.specs.History.{Past, AsBooked}
use Rattle.board.specs.Tickets.{Ticket}
use Rattle.board.specs.declared.board.Board.{Board}

-- every board of these types that has a past is as booked
abbrev pub BookedAlways : {S Q : Type 0} → structures.Meaning S → queues.Meaning Q Ticket → Type 0
BookedAlways {S} {Q} m n = (b : Board S Q) (log : Log) → Past m n b log → AsBooked m n b log

-- of every board over the sorted list that has a past the whole claim holds
abbrev pub ListedAlways : {Q : Type 0} → queues.Meaning Q Ticket → Type 0
ListedAlways {Q} n = (b : Board SortedList Q) (log : Log) → Past means n b log → AsListed n b log
