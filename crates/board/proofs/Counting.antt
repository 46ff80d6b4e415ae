-- How many vessels a roster has.
use Rattle.std.proofs.Common.{◌≡◌, ◌<◌, eqb, List, [], ◌∷◌, length, is_some, Some, sym, refl, ap, ◌∙◌, inl, inr, arith}
use Rattle.std.proofs.lemmas.Bool.{cond-true, cond-false, eq-eqb, ne_eqb}
use Rattle.event_queue.specs.Queues as queues
use Rattle.fairway.specs.Orders.{Apart, Holds}
use Rattle.fairway.specs.Rosters.{course_of}
use Rattle.fairway.specs.declared.course.Course.{Course}
use Rattle.fairway.proofs.Rosters.{absent, found}
use Rattle.kinetic.specs.Structures as structures
use Rattle.kinetic.specs.Structures.{Listed, vessels}
use Rattle.kinetic.proofs.Counts.{vessels_none, vessels_more, vessels_same}
use Rattle.board.specs.Books.{Log, book}
use Rattle.board.specs.History.{Past}
use Rattle.board.specs.Tickets.{Ticket}
use Rattle.board.specs.declared.board.Board.{Board}
use Rattle.board.proofs.Pasts.{kept_of}

-- as many numbers have a course as there are courses
listed : (xs : List Course) → Apart xs → ((c : Course) → Holds xs c → c.number < 65536) → vessels (course_of xs) ≡ length xs
listed [] a h = vessels_none (course_of []) (λ n. refl)
listed (x ∷ xs) a h =
    let ih = listed xs a.1 (λ c k. h c (inr k)) in
    let there = ap is_some (cond-true (eqb x.number x.number) (Some x) (course_of xs x.number) (eq-eqb x.number x.number refl)) in
    let more = vessels_more (course_of xs) (course_of (x ∷ xs)) x.number (h x (inl refl)) (absent x.number xs a.0) there (λ n o. cond-false (eqb x.number n) (Some x) (course_of xs n) (ne_eqb x.number n (λ q. o (sym q)))) in
    omega (arith, ih, more)

-- a board has as many vessels as its book
pub aboard : {S Q : Type 0} (m : structures.Meaning S) (n : queues.Meaning Q Ticket) → Listed m → (b : Board S Q) (log : Log) → Past m n b log → vessels (m.roster b.structure) ≡ length (book log).roster
aboard m n law b log p =
    let k = kept_of m n b log p in
    let xs = (book log).roster in
    vessels_same (m.roster b.structure) (course_of xs) (λ v. ap is_some (k.roster v))
    ∙ listed xs k.apart (λ c h. (law b.structure c.number c (k.roster c.number ∙ found xs c k.apart h)).fits)
