-- The whole claim, of a board over the sorted list and any queue.
use Rattle.std.specs.Prelude.{◌≡◌, ℕ, ◌≤◌, Bool, cond, ◌&&◌, List, [], ◌∷◌, map, length, count_by, Some, None, Option, ◌==◌}
use Rattle.std.specs.List.{AllByRecursion}
use Rattle.std.specs.List.Sorted.{IsPermutation}
use Rattle.event_queue.specs.Queues as queues
use Rattle.fairway.specs.Meetings.{level}
use Rattle.fairway.specs.Orders.{Holds, Same, Sorted, Run, pair, turned, turns}
use Rattle.fairway.specs.Rosters.{course_of}
use Rattle.fairway.specs.Stamps.{time_of}
use Rattle.fairway.specs.Times.{Time}
use Rattle.fairway.specs.declared.course.Course.{Course}
use Rattle.fairway.specs.declared.pair.Pair.{Pair}
use Rattle.fairway.specs.declared.stamp.Stamp.{Stamp}
use Rattle.sorted_list.specs.Questions.{means, courses_of}
use Rattle.sorted_list.specs.declared.list.SortedList.{SortedList}
use Rattle.board.specs.Boards.{refusal}
use Rattle.board.specs.Reckoning.{refusal_by_book, OutcomesByBook}
use Rattle.board.specs.Books.{Book, Log, book, goal}
use Rattle.board.specs.History.{AllHappened, AsBooked, Throughout}
use Rattle.board.specs.Lines.{Performed}
use Rattle.board.specs.Outcomes.{InTime}
use Rattle.board.specs.Passings.{RowRight, row_of}
use Rattle.board.specs.Tickets.{Ticket}
use Rattle.board.specs.declared.board.Board.{Board}
use Rattle.board.specs.declared.call.Call.{Call}
use Rattle.board.specs.declared.call.Call.TheVariants.{Open, Enter, Leave, Steer, Advance}
use Rattle.board.specs.declared.call.Line.{Line}
use Rattle.board.specs.declared.call.Outcome.{Outcome}
use Rattle.board.specs.declared.call.Outcome.TheVariants.{Accepted, Refused}
use Rattle.board.specs.declared.call.Row.{Row}

-- the row of a pair: its two numbers, with the instant when the two draw level
abbrev pub row_at : Option Stamp → Pair → Option Row
row_at None p = None
row_at (Some at) p = Some (row_of at p.rear p.front)

abbrev pub pair_row : Pair → Option Row
pair_row p = row_at (level p.rear p.front) p

-- the row names these two
abbrev pub names : Course → Course → Row → Bool
names r f row = row.rear == r.number && row.front == f.number

-- Passings and fewest exchanges, of an advance of a roster from one instant to another.
pub record Exact (from to : Stamp) (roster : List Course) (mends : ℕ) (rows : List Row) : Type 0 where
  -- it answered the number of pairs that it turned
  pub answer : mends ≡ length (turned (time_of from) (time_of to) roster)
  -- its rows are those of the turned pairs, in some order
  pub named : IsPermutation (map Some rows) (map pair_row (turned (time_of from) (time_of to) roster))
  -- of two vessels aboard each, which are level at the row's instant, the rear one faster
  pub each : AllByRecursion (RowRight (course_of roster) from to) rows
  -- each pair once
  pub once : (r f : Course) → Holds roster r → Holds roster f →
      count_by (names r f) rows ≡ cond (turns (time_of from) (time_of to) (pair r f)) 1 0
  -- in order of instants
  pub in_time : InTime rows
  -- a run of as many neighbour exchanges leads from any list of the roster's vessels from rear to front at the old clock to
  -- any such list at the new
  pub run : (before after : List Course) → Sorted (time_of from) before → Same before roster → Sorted (time_of to) after → Same after roster → Run mends before after
  -- no run of neighbour exchanges has fewer steps that begins at a list of the roster's vessels from rear to front at the
  -- old clock, and ends at one from rear to front at the new
  pub fewest : (before after : List Course) (steps : ℕ) → Sorted (time_of from) before → Same before roster →
      Sorted (time_of to) after → Same after roster → Run steps before after → mends ≤ steps

-- of a call and what came of it: if it is an accepted advance
abbrev pub ExactCall : Book → Call → Outcome → List Row → Type 0
ExactCall k Open o rows = Unit {0}
ExactCall k (Enter number position speed) o rows = Unit {0}
ExactCall k (Leave number) o rows = Unit {0}
ExactCall k (Steer number speed) o rows = Unit {0}
ExactCall k (Advance s n d) (Accepted mends) rows = Exact k.clock (goal s n d) k.roster mends rows
ExactCall k (Advance s n d) (Refused refusal) rows = Unit {0}

-- of each event of a log, with the book before it
abbrev pub ExactLog : Log → Type 0
ExactLog [] = Unit {0}
ExactLog (e ∷ log) = ExactCall (book log) e.call e.outcome e.rows × ExactLog log

-- The list is from rear to front at t, has the vessels of the roster and no others, and is the only such list.
pub record IsOrderOf (t : Time) (roster xs : List Course) : Type 0 where
  pub sorted : Sorted t xs
  pub same : Same xs roster
  pub only : (ys : List Course) → Sorted t ys → Same ys roster → ys ≡ xs

-- Book and tickets; the list is from rear to front at the book's clock, with the book's vessels; each accepted advance so
-- far was exact; each call came out as the book says, refused or accepted with so many passings; and so will the next.
pub record AsListed {Q : Type 0} (n : queues.Meaning Q Ticket) (b : Board SortedList Q) (log : Log) : Type 0 where
  pub booked : AsBooked means n b log
  pub in_order : IsOrderOf (time_of (book log).clock) (book log).roster (courses_of b.structure)
  pub exact : ExactLog log
  pub outcomes : OutcomesByBook (n.capacity b.queue) log
  pub refusals : (call : Call) (lent : ℕ) → refusal means n b call lent ≡ refusal_by_book (n.capacity b.queue) lent (book log) call

-- A list of calls that was performed on a board over the sorted list: over a sound queue the whole claim held of the board
-- that was opened, and of each that a call of this run left.
pub record PerformedOnList {Q : Type 0} (n : queues.Meaning Q Ticket) (b b' : Board SortedList Q) (lines lines' : List Line) (rows rows' : List Row) (used : ℕ) : Type 0 where
  pub performed : Performed means n b b' lines lines' rows rows' used
  pub listed : n.sound b.queue → Throughout means n (AsListed n) performed.happened
  pub every : n.sound b.queue → (log : Log) (b1 : Board SortedList Q) → AllHappened means n performed.opened log b1 → AsListed n b1 log
