-- The mends of an advance, and the rows that they write.
use Rattle.std.specs.Prelude.{◌≡◌, ℕ, ◌+◌, ◌<◌, ◌≤◌, true, false, ◌⊎◌, List, [], ◌∷◌, ◌++◌, length, take, Some, None, Option, slice_index_or}
use Rattle.event_queue.specs.Queues as queues
use Rattle.fairway.specs.Courses.{Level, faster}
use Rattle.fairway.specs.Meetings.{level}
use Rattle.fairway.specs.Stamps.{time_of, earlier, BelowOne}
use Rattle.fairway.specs.declared.course.Course.{Course}
use Rattle.fairway.specs.declared.stamp.Stamp.{Stamp}
use Rattle.kinetic.specs.Structures as structures
use Rattle.kinetic.specs.Structures.{NoneDue}
use Rattle.board.specs.Tickets.{Ticket, limit_of, Tickets}
use Rattle.board.specs.declared.call.Row.{Row}

-- the row of a pair that draws level at an instant
abbrev pub row_of : Stamp → Course → Course → Row
row_of at r f = record { at = at; rear = r.number; front = f.number }

-- What a row says of an advance: its vessels are aboard; they are level at its instant, which is in lowest
-- terms, after the old clock and not after the new; and the rear is the faster.
pub record RowRight (roster : ℕ → Option Course) (from to : Stamp) (row : Row) : Type 0 where
  pub rear : Course
  pub front : Course
  pub rear_aboard : roster row.rear ≡ Some rear
  pub front_aboard : roster row.front ≡ Some front
  pub rear_faster : faster rear front ≡ true
  pub level_then : Level (time_of row.at) rear front
  pub in_lowest_terms : level rear front ≡ Some row.at
  pub after : earlier from row.at ≡ true
  pub not_after : earlier to row.at ≡ false

-- A series of mends from the structure s on, one after the other: each of a certificate at the instant when
-- its two draw level, which is after t, not before the instant of the mend before it and not after the
-- limit. It has reached an instant and a structure, and written rows.
pub data Passings {S : Type 0} (m : structures.Meaning S) (t limit : Stamp) (s : S) : Stamp → List Row → S → Type 0 where
  none : Passings m t limit s t [] s
  more : {u : Stamp} {rows : List Row} {s' s'' : S} (i : ℕ) (r f : Course) (at : Stamp) → Passings m t limit s u rows s'
      → m.certificate s' i ≡ Some (r, f) → level r f ≡ Some at → earlier t at ≡ true → earlier at u ≡ false → earlier limit at ≡ false
      → ((v : ℕ) → m.roster s'' v ≡ m.roster s' v) → m.mended r f s' s''
      → Passings m t limit s at (rows ++ (row_of at r f ∷ [])) s''

-- the rows past the count are as they were
pub record Written (count : ℕ) (old rows : List Row) : Type 0 where
  pub size : length rows ≡ length old
  pub within : count ≤ length old
  pub beyond : (k : ℕ) (d : Row) → count ≤ k → slice_index_or rows k d ≡ slice_index_or old k d

module _ {S Q : Type 0} (m : structures.Meaning S) (n : queues.Meaning Q Ticket) where
  -- on the way of an advance, at u: the structure stands, with its tickets in the queue
  pub record Midway (u : Stamp) (s : S) (q : Q) : Type 0 where
    pub below_one : BelowOne u
    pub sound : n.sound q
    pub room : (n.capacity q ≡ 64) ⊎ ((v : ℕ) → m.roster s v ≡ None)
    pub stands : m.standing (time_of u) s
    pub tickets : Tickets m n s q

  -- the next mend, written in a row
  pub record NextMend (u limit : Stamp) (s s' : S) (q' : Q) (row : Row) : Type 0 where
    pub number : ℕ
    pub rear : Course
    pub front : Course
    pub pair : m.certificate s number ≡ Some (rear, front)
    pub meets : level rear front ≡ Some row.at
    pub rear_is : row.rear ≡ rear.number
    pub front_is : row.front ≡ front.number
    pub onward : earlier row.at u ≡ false
    pub within : earlier limit row.at ≡ false
    pub strict : NoneDue m (time_of u) s → earlier u row.at ≡ true
    pub load : m.load s' < m.load s
    pub mended : m.mended rear front s s'
    pub midway : Midway row.at s' q'

  -- a mend, or none where no pair whose rear is faster draws level up to the limit
  abbrev pub MendOrNone : Stamp → Stamp → S → S → Q → Option Row → Type 0
  MendOrNone u limit s s' q' (Some row) = NextMend u limit s s' q' row
  MendOrNone u limit s s' q' None =
      (s' ≡ s) × Midway u s q' × ((i : ℕ) (r f : Course) (at : Stamp) → m.certificate s i ≡ Some (r, f) → level r f ≡ Some at → earlier limit at ≡ true)

  -- what mend_next answers on the way of an advance to an instant whose limit it is given
  abbrev pub MendsNext : Stamp → Stamp → Ticket → S → S → Q → Q → Option Row → Type 0
  MendsNext u to limit s s' q q' answer = limit ≡ limit_of to → Midway u s q → MendOrNone u to s s' q' answer

  -- the start of an advance from u to an instant, with its limit and so many rows
  pub record Begins (u to : Stamp) (limit : Ticket) (s : S) (q : Q) (lent : ℕ) : Type 0 where
    pub midway : Midway u s q
    pub none_due : NoneDue m (time_of u) s
    pub enough : m.load s ≤ lent
    pub below_one : BelowOne to
    pub onward : earlier to u ≡ false
    pub limit_is : limit ≡ limit_of to

  -- all that is due up to the limit is mended
  pub record Arrived (u limit : Stamp) (s s' : S) (q' : Q) (count : ℕ) (rows : List Row) : Type 0 where
    pub midway : Midway limit s' q'
    pub none_due : NoneDue m (time_of limit) s'
    pub load : m.load s' + count ≤ m.load s
    pub strict : 0 < count → earlier u limit ≡ true
    pub last : Stamp
    pub passings : Passings m u limit s last (take count rows) s'
