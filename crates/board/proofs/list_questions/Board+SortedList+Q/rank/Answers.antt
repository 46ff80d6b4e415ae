use Rattle.std.proofs.Common.{◌≡◌, ◌+◌, Ok, sym, ap, subst, ◌∙◌}
use Rattle.fairway.specs.Instants.{value}
use Rattle.fairway.specs.Stamps.{time_of}
use Rattle.sorted_list.specs.Questions.{courses_of}
use Rattle.board.specs.ListQuestions.{RankIs}
use Rattle.board.proofs.Vessels.{clock_time, asked, refused, not_refused, book_rank}
use Rattle.board.proofs.list_questions.«Board+SortedList+Q».rank.Goals as goal

pub unreachable-requires : goal.unreachable-requires
unreachable-requires g c = not_refused c.args.self.now.structure c.args.number c.in_ok-vessel.ensures.accepted c.in_default.ensures

pub returns : goal.returns
returns g c =
    let n = g.Q.Queue.means in
    let b = c.args.self.now in
    let v = c.args.number in
    let k = c.in-Ok.rank in
    let own = c.in_ok-vessel.ensures in
    let xs = courses_of b.structure in
    let e : time_of c.stamp.result ≡ value b.clock = ap time_of c.stamp.ensures ∙ sym (clock_time b.clock) in
    asked n b v (RankIs (value b.clock) xs) RankIs (λ log p d a q w. w ∙ ap (λ i. i + 1) (book_rank n b log p d)) (Ok k)
    (record { accepted = own.accepted; course = own.course; aboard = own.aboard; answer_is = subst (λ t. RankIs t xs own.course k) e (c.in-Ok.ensures.1 own.course own.aboard) })

pub returns-in_err-vessel : goal.returns-in_err-vessel
returns-in_err-vessel g c =
    let b = c.args.self.now in
    refused g.Q.Queue.means b c.args.number (RankIs (value b.clock) (courses_of b.structure)) RankIs c.in_err-vessel.field-0.0 c.in_err-vessel.ensures c.from_residual.result c.from_residual.ensures.1
