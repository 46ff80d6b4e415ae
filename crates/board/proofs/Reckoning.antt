-- What comes of a call is what the book says.
use Rattle.std.proofs.Common.{◌≡◌, ℕ, ◌+◌, Bool, true, false, cond, ◌&&◌, List, [], ◌∷◌, map, length, sym, refl, ap, ◌∙◌, ⊎_elim, arith}
use Rattle.std.proofs.lemmas.Bool.{cases_Bool, cond-true, cond-false}
use Rattle.event_queue.specs.Queues as queues
use Rattle.fairway.specs.Behind.{behind}
use Rattle.fairway.specs.Courses.{faster}
use Rattle.fairway.specs.Orders.{Apart, load, put, order, pair, twos}
use Rattle.fairway.specs.Stamps.{time_of}
use Rattle.fairway.specs.StampsLemmas.{proper}
use Rattle.fairway.specs.Times.{Time, Proper}
use Rattle.fairway.specs.declared.course.Course.{Course}
use Rattle.fairway.specs.declared.pair.Pair.{Pair}
use Rattle.fairway.proofs.Advance.{load_is}
use Rattle.fairway.proofs.Sorting.{full_order, sorted_order, tri_full}
use Rattle.fairway.proofs.Totals.{full, over, over_all, over_is, over_joined, over_map}
use Rattle.sorted_list.specs.Questions.{means, courses_of}
use Rattle.sorted_list.specs.declared.list.SortedList.{SortedList}
use Rattle.board.specs.Boards.{refusal}
use Rattle.board.specs.Books.{Log, book}
use Rattle.board.specs.Reckoning.{pairs_to_pass, refusal_by_book}
use Rattle.board.specs.Tickets.{Ticket}
use Rattle.board.specs.declared.board.Board.{Board}
use Rattle.board.specs.declared.call.Call.{Call}
use Rattle.board.specs.declared.call.Call.TheVariants.{Open, Enter, Leave, Steer, Advance}
use Rattle.board.proofs.Pasts.{Kept}

put_length : (t : Time) (x : Course) (xs : List Course) → length (put t x xs) ≡ length xs + 1
put_length t x [] = refl
put_length t x (y ∷ ys) =
    ⊎_elim
    (λ e. rw (cond-true (behind t x y) (x ∷ y ∷ ys) (y ∷ put t x ys) e) (omega arith))
    (λ e. rw (cond-false (behind t x y) (x ∷ y ∷ ys) (y ∷ put t x ys) e) (let h = put_length t x ys in omega (arith, h)))
    (cases_Bool (behind t x y))

order_length : (t : Time) (xs : List Course) → length (order t xs) ≡ length xs
order_length t [] = refl
order_length t (x ∷ xs) = put_length t x (order t xs) ∙ ap (λ k. k + 1) (order_length t xs) ∙ omega arith

-- the load of the order is the number of pairs with the faster one behind, either way round
both : (a b : Bool) (w : ℕ) → cond (a && b) w 0 ≡ cond a (cond b w 0) 0
both true b w = refl
both false b w = refl

pairs_are : (t : Time) (xs : List Course) → pairs_to_pass t xs ≡ full (λ x y. cond (behind t x y) (cond (faster x y) 1 0) 0) xs xs
pairs_are t xs =
    let w : Pair → ℕ = λ p. cond (behind t p.rear p.front && faster p.rear p.front) 1 0 in
    let g : Course → Course → ℕ = λ x y. cond (behind t x y) (cond (faster x y) 1 0) 0 in
    over_is w (twos xs)
    ∙ over_joined w (λ x. map (pair x) xs) xs
    ∙ over_all (λ x. over w (map (pair x) xs)) (λ x. over (g x) xs)
    (λ x. over_map w (pair x) xs ∙ over_all (λ y. w (pair x y)) (g x) (λ y. both (behind t x y) (faster x y) 1) xs) xs

load_order : (t : Time) → Proper t → (xs : List Course) → Apart xs → load (order t xs) ≡ pairs_to_pass t xs
load_order t p xs a =
    let g : Course → Course → ℕ = λ x y. cond (faster x y) 1 0 in
    load_is (order t xs)
    ∙ tri_full g t (order t xs) (sorted_order t p xs a)
    ∙ full_order (λ x y. cond (behind t x y) (g x y) 0) t xs
    ∙ sym (pairs_are t xs)

module _ {Q : Type 0} (n : queues.Meaning Q Ticket) (b : Board SortedList Q) (log : Log) (k : Kept means n b log) (room : b.capacity ≡ n.capacity b.queue) (listed : courses_of b.structure ≡ order (time_of (book log).clock) (book log).roster) where
  fraction : b.clock.numerator ≡ (book log).clock.numerator
  fraction = ap (λ s. s.numerator) k.clock

  seconds : b.clock.seconds ≡ (book log).clock.seconds
  seconds = ap (λ s. s.seconds) k.clock

  count : means.count b.structure ≡ length (book log).roster
  count = ap length listed ∙ order_length (time_of (book log).clock) (book log).roster

  load_is_so : means.load b.structure ≡ pairs_to_pass (time_of (book log).clock) (book log).roster
  load_is_so = ap load listed ∙ load_order (time_of (book log).clock) (proper (book log).clock) (book log).roster k.apart

  pub refusals : (call : Call) (lent : ℕ) → refusal means n b call lent ≡ refusal_by_book (n.capacity b.queue) lent (book log) call
  refusals Open lent = refl
  refusals (Enter v p s) lent = rw (fraction, k.roster v, count, room) refl
  refusals (Leave v) lent = rw (fraction, k.roster v) refl
  refusals (Steer v s) lent = rw (fraction, seconds, k.roster v) refl
  refusals (Advance s a d) lent = rw (k.clock, load_is_so) refl
