-- What comes of a call by the plain book alone, on a board over the sorted list.
use Rattle.std.specs.Prelude.{◌≡◌, ℕ, ◌&&◌, List, [], ◌∷◌, length, count_by, Some, None, Option}
use Rattle.fairway.specs.Behind.{behind}
use Rattle.fairway.specs.Courses.{faster}
use Rattle.fairway.specs.Orders.{twos, turned}
use Rattle.fairway.specs.Rosters.{course_of}
use Rattle.fairway.specs.Stamps.{time_of}
use Rattle.fairway.specs.Times.{Time}
use Rattle.fairway.specs.declared.course.Course.{Course}
use Rattle.board.specs.Boards.{Facts, refusal_of}
use Rattle.board.specs.Books.{Book, Log, book, goal}
use Rattle.board.specs.declared.call.Call.{Call}
use Rattle.board.specs.declared.call.Call.TheVariants.{Open, Enter, Leave, Steer, Advance}
use Rattle.board.specs.declared.call.Outcome.{Outcome}
use Rattle.board.specs.declared.call.Outcome.TheVariants.{Accepted, Refused}
use Rattle.board.specs.declared.refusal.Refusal.{Refusal}

-- how many pairs of a roster have the faster one behind at t
abbrev pub pairs_to_pass : Time → List Course → ℕ
pairs_to_pass t roster = count_by (λ p. behind t p.rear p.front && faster p.rear p.front) (twos roster)

-- the facts of the book, of a board with a queue of this capacity
abbrev pub book_facts : ℕ → Book → Facts
book_facts capacity k =
    record {
      clock = k.clock;
      roster = course_of k.roster;
      count = length k.roster;
      load = pairs_to_pass (time_of k.clock) k.roster;
      capacity = capacity;
    }

-- why the book refuses a call that is lent so many rows, or none: the board's table over the facts of the book
abbrev pub refusal_by_book : ℕ → ℕ → Book → Call → Option Refusal
refusal_by_book capacity lent k call = refusal_of (book_facts capacity k) call lent

-- how many pairs a call turns: an advance those that are behind at the old clock and in front at the new
abbrev pub mends_by_book : Book → Call → ℕ
mends_by_book k Open = 0
mends_by_book k (Enter number position speed) = 0
mends_by_book k (Leave number) = 0
mends_by_book k (Steer number speed) = 0
mends_by_book k (Advance s n d) = length (turned (time_of k.clock) (time_of (goal s n d)) k.roster)

-- refused, or accepted with so many mends
abbrev pub outcome_by : Option Refusal → ℕ → Outcome
outcome_by None mends = Accepted mends
outcome_by (Some refusal) mends = Refused refusal

abbrev pub outcome_by_book : ℕ → ℕ → Book → Call → Outcome
outcome_by_book capacity lent k call = outcome_by (refusal_by_book capacity lent k call) (mends_by_book k call)

-- each event of a log came out as the book before it says
abbrev pub OutcomesByBook : ℕ → Log → Type 0
OutcomesByBook capacity [] = Unit {0}
OutcomesByBook capacity (e ∷ log) = (e.outcome ≡ outcome_by_book capacity e.lent (book log) e.call) × OutcomesByBook capacity log
