use Rattle.std.proofs.Common.{◌≡◌, Option, Ok, ap, ◌∙◌}
use Rattle.fairway.specs.Instants.{value}
use Rattle.fairway.specs.declared.course.Course.{Course}
use Rattle.sorted_list.specs.Questions.{courses_of}
use Rattle.board.specs.ListQuestions.{NeighbourIs, neighbour, next_on}
use Rattle.board.specs.declared.list.Neighbour.{Neighbour}
use Rattle.board.specs.declared.list.Side.TheVariants.{Behind}
use Rattle.board.proofs.Vessels.{about, asked, refused, not_refused, book_next}
use Rattle.board.proofs.list_questions.«Board+SortedList+Q».behind.Goals as goal

pub unreachable-requires : goal.unreachable-requires
unreachable-requires g c = not_refused c.args.self.now.structure c.args.number c.in_ok-own.ensures.accepted c.in_default.ensures

pub returns : goal.returns
returns g c =
    let n = g.Q.Queue.means in
    let b = c.args.self.now in
    let v = c.args.number in
    let xs = courses_of b.structure in
    let t = value b.clock in
    let h = c.in-Ok.ensures in
    let P : Course → Option Neighbour → Type 0 = λ d answer. answer ≡ neighbour Behind t d (next_on Behind v xs) in
    let own = c.in_ok-own.own in
    asked n b v P (NeighbourIs Behind) (book_next n b Behind v _ h.value h.next) (Ok c.neighbour.result)
    (about xs v P own c.neighbour.result c.in_ok-own.ensures (c.neighbour.ensures ∙ ap (neighbour Behind t own) {y = next_on Behind v xs} h.value))

pub returns-in_err-own : goal.returns-in_err-own
returns-in_err-own g c =
    let b = c.args.self.now in
    let v = c.args.number in
    refused g.Q.Queue.means b v (λ d answer. answer ≡ neighbour Behind (value b.clock) d (next_on Behind v (courses_of b.structure))) (NeighbourIs Behind) c.in_err-own.field-0.0 c.in_err-own.ensures c.from_residual.result c.from_residual.ensures.1
