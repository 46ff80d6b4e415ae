-- The whole claim over the sorted list: the mends of an advance exchange the pairs that it turns, each once,
-- and its rows are of those pairs.
use Rattle.std.proofs.Common.{◌≡◌, ℕ, ◌+◌, ◌≤◌, cond, List, [], ◌∷◌, ◌++◌, map, length, count_by, Some, Option, sym, refl, ap, ap₂, ◌∙◌, subst}
use Rattle.std.specs.List.Sorted.{IsPermutation}
use Rattle.std.proofs.lemmas.List.{map-append, length-map}
use Rattle.std.proofs.ByRecursion.{All-weaker}
use Rattle.std.proofs.lemmas.List.Sorted.{IsPermutation-map, length_permutation}
use Rattle.std.proofs.lemmas.List.Sums.{sum_by-append}
use Rattle.event_queue.specs.Queues as queues
use Rattle.fairway.specs.Instants.{stamp_of}
use Rattle.fairway.specs.Times.{Time, Proper, ◌≤ᵗ◌, ◌<ᵗ◌}
use Rattle.fairway.specs.Courses.{Due}
use Rattle.fairway.specs.Orders.{Apart, Same, Sorted, Exchange, Mends, Run, order, pair, turned, is_pair}
use Rattle.fairway.specs.Orders.Run.{still, step}
use Rattle.fairway.specs.Orders.Mends.{none as no_mends, mend}
use Rattle.fairway.specs.Rosters.{course_of}
use Rattle.fairway.specs.Stamps.{time_of, BelowOne}
use Rattle.fairway.specs.StampsLemmas.{proper, sooner, not_later}
use Rattle.fairway.specs.declared.course.Course.{Course}
use Rattle.fairway.specs.declared.pair.Pair.{Pair}
use Rattle.fairway.specs.declared.stamp.Stamp.{Stamp}
use Rattle.fairway.proofs.Advance.{fewest, mends_turned}
use Rattle.fairway.proofs.Instants.{stamp_below}
use Rattle.fairway.proofs.Rosters.{same_from}
use Rattle.fairway.proofs.Sorting.{order_is}
use Rattle.kinetic.specs.Structures.{Rests, InOrder, InFront}
use Rattle.sorted_list.specs.Laws.{ordered, rests_sorted, front}
use Rattle.sorted_list.specs.Questions.{means, courses_of, CoursesAnswer}
use Rattle.sorted_list.specs.RostersLemmas.{well_apart}
use Rattle.sorted_list.specs.declared.list.SortedList.{SortedList}
use Rattle.board.specs.Books.{Log, book, goal}
use Rattle.board.specs.Boards.{Right}
use Rattle.board.specs.Claims.{row_at, pair_row, names, Exact, ExactCall, ExactLog, IsOrderOf, AsListed, PerformedOnList}
use Rattle.board.specs.History.{Past}
use Rattle.board.specs.History.Past.{then}
use Rattle.board.specs.Lines.{Performed}
use Rattle.board.specs.ListQuestions.{OrderAnswer}
use Rattle.board.specs.Outcomes.{Moved, Comes}
use Rattle.board.specs.Passings.{Passings, RowRight, row_of}
use Rattle.board.specs.Passings.Passings.{none, more}
use Rattle.board.specs.Tickets.{Ticket}
use Rattle.board.specs.declared.board.Board.{Board}
use Rattle.board.specs.declared.call.Call.{Call}
use Rattle.board.specs.declared.call.Call.TheVariants.{Open, Enter, Leave, Steer, Advance}
use Rattle.board.specs.declared.call.Line.{Line}
use Rattle.board.specs.declared.call.Outcome.{Outcome}
use Rattle.board.specs.declared.call.Outcome.TheVariants.{Accepted, Refused}
use Rattle.board.specs.declared.call.Row.{Row}
use Rattle.board.proofs.Meetings.{level_is}
use Rattle.board.specs.Reckoning.{mends_by_book, outcome_by, outcome_by_book, OutcomesByBook}
use Rattle.board.proofs.Reckoning.{refusals}
use Rattle.board.proofs.Pasts.{Kept, right_of, kept_of, as_booked}
use Rattle.board.proofs.Throughout.{throughout_of, every_of}

-- ---- the laws of the list
list_ordered : InOrder means
list_ordered t s p st = ordered (courses_of s) t st

list_leads : InFront means
list_leads t s p r = front t (courses_of s) s.sound (rests_sorted (courses_of s) t r.0 r.1)

-- at rest it is the order of every roster that looks up alike
list_order : (t : Stamp) (s : SortedList) (roster : List Course) → Rests means (time_of t) s → Apart roster → ((v : ℕ) → course_of (courses_of s) v ≡ course_of roster v) → courses_of s ≡ order (time_of t) roster
list_order t s roster r apart same =
    let xs = courses_of s in
    (order_is (time_of t) (proper t) roster apart).only xs (rests_sorted xs (time_of t) r.0 r.1) (same_from xs roster (well_apart xs s.sound) apart same)

-- the order that insertion makes is the one list from rear to front with the vessels of the roster
pub is_order_of : (t : Time) → Proper t → (roster : List Course) → Apart roster → IsOrderOf t roster (order t roster)
is_order_of t p roster apart =
    let o = order_is t p roster apart in
    record { sorted = o.sorted; same = o.same; only = o.only }

-- and so a list that is such
pub by_insertion : (t : Time) → Proper t → (roster xs : List Course) → Apart roster → IsOrderOf t roster xs → xs ≡ order t roster
by_insertion t p roster xs apart h = (order_is t p roster apart).only xs h.sorted h.same

-- every list of the roster's vessels from rear to front is its order: so between any two, no run has fewer steps
fewest_between : (t u : Time) → Proper t → Proper u → (roster : List Course) → Apart roster → (before after : List Course) (steps : ℕ) → Sorted t before → Same before roster → Sorted u after → Same after roster → Run steps before after → length (turned t u roster) ≤ steps
fewest_between t u pt pu roster apart before after steps sb mb sa ma run =
    fewest t u pt pu roster apart steps
    (subst (λ xs. Run steps xs (order u roster)) ((order_is t pt roster apart).only before sb mb)
    (subst (λ ys. Run steps before ys) ((order_is u pu roster apart).only after sa ma) run))

-- ---- a series of mends
-- one mend more, at the end
mends_more : {t u : Time} {xs ys zs : List Course} {ps : List Pair} {r f : Course} → Mends t u xs ps ys → (at : Time) → t <ᵗ at → at ≤ᵗ u → Due at r f → Exchange r f ys zs → Mends t u xs (ps ++ (pair r f ∷ [])) zs
mends_more no_mends at a b d e = mend at a b d e no_mends
mends_more (mend at' a' b' d' e' k) at a b d e = mend at' a' b' d' e' (mends_more k at a b d e)

-- each mend is an exchange
run_of : {t u : Time} {xs ys : List Course} {ps : List Pair} → Mends t u xs ps ys → Run (length ps) xs ys
run_of no_mends = still
run_of (mend at a b d e k) = step e (run_of k)

-- the mends from a list to another, of the pairs that the rows name
record RowMends (from to : Stamp) (xs ys : List Course) (rows : List Row) : Type 0 where
  pairs : List Pair
  mends : Mends (time_of from) (time_of to) xs pairs ys
  rows_are : map Some rows ≡ map pair_row pairs
  counts : (r f : Course) → count_by (names r f) rows ≡ count_by (is_pair r f) pairs

mended : {t limit : Stamp} {s : SortedList} {u : Stamp} {rows : List Row} {s' : SortedList} → BelowOne t → Passings means t limit s u rows s' → RowMends t limit (courses_of s) (courses_of s') rows
mended b none = record { pairs = []; mends = no_mends; rows_are = refl; counts = λ r f. refl }
mended {t} {limit} b (more {rows = rows} i r f at p c e late onward within roster x) =
    let k = mended b p in
    let l = level_is r f at e in
    let row = row_of at r f in
    record {
      pairs = k.pairs ++ (pair r f ∷ []);
      mends = mends_more k.mends (time_of at) (sooner t at b late) (not_later at limit l.below_one within) l.due x;
      rows_are = map-append Some rows (row ∷ []) ∙ ap₂ (λ a z. a ++ (z ∷ [])) k.rows_are (sym (ap (λ z. row_at z (pair r f)) e)) ∙ sym (map-append pair_row k.pairs (pair r f ∷ []));
      counts = λ x y. sum_by-append (λ z. cond (names x y z) 1 0) rows (row ∷ []) ∙ ap (λ z. z + count_by (names x y) (row ∷ [])) (k.counts x y) ∙ sym (sum_by-append (λ z. cond (is_pair x y z) 1 0) k.pairs (pair r f ∷ []));
    }

-- what a row says, of another roster that looks up alike
right_alike : (one other : ℕ → Option Course) → ((v : ℕ) → one v ≡ other v) → (from to : Stamp) (row : Row) → RowRight one from to row → RowRight other from to row
right_alike one other same from to row x =
    record {
      rear = x.rear;
      front = x.front;
      rear_aboard = sym (same row.rear) ∙ x.rear_aboard;
      front_aboard = sym (same row.front) ∙ x.front_aboard;
      rear_faster = x.rear_faster;
      level_then = x.level_then;
      in_lowest_terms = x.in_lowest_terms;
      after = x.after;
      not_after = x.not_after;
    }

-- ---- an advance of a board with a past
module _ {Q : Type 0} (n : queues.Meaning Q Ticket) where
  exact : (b b' : Board SortedList Q) (log : Log) (to : Stamp) (mends : ℕ) (rows : List Row) → Right means n b → Kept means n b log → Moved means n b b' to mends rows → Exact (book log).clock to (book log).roster mends rows
  exact b b' log to mends rows right kept moved =
      let from = stamp_of b.clock in
      let t = time_of from in
      let u = time_of to in
      let roster = (book log).roster in
      let passed = moved.passed right in
      let below = stamp_below b.clock in
      let first = list_order from b.structure roster right.rests kept.apart kept.roster in
      let last = list_order to b'.structure roster (subst (λ z. Rests means (time_of z) b'.structure) moved.clock passed.right.rests) kept.apart (λ v. moved.roster v ∙ kept.roster v) in
      let m = mended below passed.passings in
      let chain : Mends t u (order t roster) m.pairs (order u roster) =
      subst (λ xs. Mends t u xs m.pairs (order u roster)) first (subst (λ ys. Mends t u (courses_of b.structure) m.pairs ys) last m.mends) in
      let k = mends_turned t u (proper from) (proper to) roster (not_later from to below moved.onward) kept.apart m.pairs chain in
      let count : mends ≡ length m.pairs = sym passed.counted ∙ sym (length-map rows Some) ∙ ap length m.rows_are ∙ length-map m.pairs pair_row in
      let many : mends ≡ length (turned t u roster) = count ∙ sym (length_permutation m.pairs (turned t u roster) k.0) in
      subst (λ z. Exact z to roster mends rows) kept.clock
      (record {
        answer = many;
        named = subst (λ z. IsPermutation z (map pair_row (turned t u roster))) (sym m.rows_are) (IsPermutation-map pair_row m.pairs (turned t u roster) k.0);
        each = All-weaker (RowRight (means.roster b.structure) from to) (RowRight (course_of roster) from to) (λ row x. right_alike (means.roster b.structure) (course_of roster) kept.roster from to row x)
            rows passed.each;
        once = λ r f hr hf. m.counts r f ∙ k.1 r f hr hf;
        in_time = passed.in_time;
        run = λ before after sb mb sa ma.
            subst (λ j. Run j before after) (sym count)
            (subst (λ xs. Run (length m.pairs) xs after) (sym ((order_is t (proper from) roster kept.apart).only before sb mb))
            (subst (λ ys. Run (length m.pairs) (order t roster) ys) (sym ((order_is u (proper to) roster kept.apart).only after sa ma)) (run_of chain)));
        fewest = λ before after steps sb mb sa ma run. subst (λ z. z ≤ steps) (sym many) (fewest_between t u (proper from) (proper to) roster kept.apart before after steps sb mb sa ma run);
      })

  exact_call : (b b' : Board SortedList Q) (log : Log) (call : Call) (lent : ℕ) (o : Outcome) (rows : List Row) → Right means n b → Kept means n b log → Comes means n b call lent o rows b' → ExactCall (book log) call o rows
  exact_call b b' log Open lent o rows r k h = tt
  exact_call b b' log (Enter v p s) lent o rows r k h = tt
  exact_call b b' log (Leave v) lent o rows r k h = tt
  exact_call b b' log (Steer v s) lent o rows r k h = tt
  exact_call b b' log (Advance s a d) lent (Accepted mends) rows r k h = exact b b' log (goal s a d) mends rows r k h.1
  exact_call b b' log (Advance s a d) lent (Refused e) rows r k h = tt

  pub exact_log : (b : Board SortedList Q) (log : Log) → Past means n b log → ExactLog log
  exact_log b [] p = tt
  exact_log b (e ∷ log) (then {b = a} p h) = (exact_call a b log e.call e.lent e.outcome e.rows (right_of means n a log p) (kept_of means n a log p) h, exact_log a log p)

  -- the list is what insertion makes of the book
  pub in_order : (b : Board SortedList Q) (log : Log) → Past means n b log → courses_of b.structure ≡ order (time_of (book log).clock) (book log).roster
  in_order b log p =
      let k = kept_of means n b log p in
      let r = right_of means n b log p in
      list_order (book log).clock b.structure (book log).roster (subst (λ z. Rests means (time_of z) b.structure) k.clock r.rests) k.apart k.roster

  -- and so the one list from rear to front at the book's clock with the book's vessels
  pub order_of : (b : Board SortedList Q) (log : Log) → Past means n b log → IsOrderOf (time_of (book log).clock) (book log).roster (courses_of b.structure)
  order_of b log p =
      let t = time_of (book log).clock in
      subst (IsOrderOf t (book log).roster) (sym (in_order b log p)) (is_order_of t (proper (book log).clock) (book log).roster (kept_of means n b log p).apart)

  -- ---- outcomes
  -- a call leaves the queue as large as it was
  pub capacity_kept : (b b' : Board SortedList Q) (call : Call) (lent : ℕ) (o : Outcome) (rows : List Row) → Right means n b → Comes means n b call lent o rows b' → n.capacity b'.queue ≡ n.capacity b.queue
  capacity_kept b b' call lent (Refused e) rows r h = ap (λ z. n.capacity z.queue) h.1
  capacity_kept b b' Open lent (Accepted k) rows r h = let d = h.1 in d.1.queue.capacity r.sound
  capacity_kept b b' (Enter v p s) lent (Accepted k) rows r h = let d = h.1 in d.1.queue.capacity r.sound
  capacity_kept b b' (Leave v) lent (Accepted k) rows r h = let d = h.1 in d.1.queue.capacity r.sound
  capacity_kept b b' (Steer v s) lent (Accepted k) rows r h = let d = h.1 in d.1.queue.capacity r.sound
  capacity_kept b b' (Advance s a d) lent (Accepted k) rows r h = h.1.queue.capacity r.sound

  -- how many mends an accepted call answers
  mends_are : (b b' : Board SortedList Q) (log : Log) (call : Call) (lent k : ℕ) (rows : List Row) → Right means n b → Kept means n b log → Comes means n b call lent (Accepted k) rows b' → k ≡ mends_by_book (book log) call
  mends_are b b' log Open lent k rows r q h = let d = h.1 in d.0
  mends_are b b' log (Enter v p s) lent k rows r q h = let d = h.1 in d.0
  mends_are b b' log (Leave v) lent k rows r q h = let d = h.1 in d.0
  mends_are b b' log (Steer v s) lent k rows r q h = let d = h.1 in d.0
  mends_are b b' log (Advance s a d) lent k rows r q h = (exact b b' log (goal s a d) k rows r q h.1).answer

  outcome_is : (b b' : Board SortedList Q) (log : Log) (call : Call) (lent : ℕ) (o : Outcome) (rows : List Row) → Past means n b log → Comes means n b call lent o rows b' → o ≡ outcome_by_book (n.capacity b.queue) lent (book log) call
  outcome_is b b' log call lent (Refused e) rows p h =
      sym (ap (λ z. outcome_by z (mends_by_book (book log) call)) (sym (refusals n b log (kept_of means n b log p) (right_of means n b log p).capacity (in_order b log p) call lent) ∙ h.0))
  outcome_is b b' log call lent (Accepted k) rows p h =
      ap Accepted (mends_are b b' log call lent k rows (right_of means n b log p) (kept_of means n b log p) h)
      ∙ sym (ap (λ z. outcome_by z (mends_by_book (book log) call)) (sym (refusals n b log (kept_of means n b log p) (right_of means n b log p).capacity (in_order b log p) call lent) ∙ h.0))

  outcomes_of : (b : Board SortedList Q) (log : Log) → Past means n b log → OutcomesByBook (n.capacity b.queue) log
  outcomes_of b [] p = tt
  outcomes_of b (e ∷ log) (then {b = a} p h) =
      subst (λ z. OutcomesByBook z (e ∷ log)) (sym (capacity_kept a b e.call e.lent e.outcome e.rows (right_of means n a log p) h))
      (outcome_is a b log e.call e.lent e.outcome e.rows p h, outcomes_of a log p)

  -- the whole claim
  pub as_listed : (b : Board SortedList Q) (log : Log) → Past means n b log → AsListed n b log
  as_listed b log p =
      record {
        booked = as_booked means n list_ordered list_leads b log p;
        in_order = order_of b log p;
        exact = exact_log b log p;
        outcomes = outcomes_of b log p;
        refusals = refusals n b log (kept_of means n b log p) (right_of means n b log p).capacity (in_order b log p);
      }

  -- what the courses of the list are as an answer
  pub order_answer : (b : Board SortedList Q) (xs : List Course) → CoursesAnswer b.structure xs → OrderAnswer n b xs
  order_answer b xs h = record { value = h.value; booked = λ log p. subst (IsOrderOf (time_of (book log).clock) (book log).roster) (sym h.value) (order_of b log p); listed = λ log p. as_listed b log p }

  -- it held at the opening and after each call of a list that was performed
  pub performed_on_list : (b b' : Board SortedList Q) (lines lines' : List Line) (rows rows' : List Row) (used : ℕ) → Performed means n b b' lines lines' rows rows' used → PerformedOnList n b b' lines lines' rows rows' used
  performed_on_list b b' lines lines' rows rows' used p =
      record {
        performed = p;
        every = λ s. every_of means n (AsListed n) as_listed b.queue p.opened s p.was_opened;
        listed = λ s. throughout_of means n (AsListed n) as_listed b.queue p.opened b' _ s p.was_opened p.happened;
      }
