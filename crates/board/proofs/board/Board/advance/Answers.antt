use Rattle.std.proofs.Common.{◌≡◌, length, None, refl, sym, subst}
use Rattle.board.specs.Boards.{refusal}
use Rattle.board.specs.Books.{goal}
use Rattle.board.specs.Outcomes.{rows_event}
use Rattle.board.specs.declared.board.Board.{Board}
use Rattle.board.specs.declared.call.Call.TheVariants.{Advance}
use Rattle.board.specs.declared.call.Outcome.TheVariants.{Accepted}
use Rattle.board.proofs.Advancing.{advances, moves, refused}
use Rattle.board.proofs.Claims.{as_listed}
use Rattle.board.proofs.Pasts.{adds}
use Rattle.board.proofs.board.Board.advance.Goals as wanted

pub returns-in_err-to-clause-adds : wanted.returns-in_err-to-clause-adds
returns-in_err-to-clause-adds g c =
    let m = g.S.Structure.means in
    let n = g.Q.Queue.means in
    let laws = g.met.S.Structure in
    adds m n laws.ordered laws.leads _ _ _ (refused m n c.args.self.now c.args.seconds c.args.numerator c.args.denominator c.args.rows.now c.in_err-to.field-0.0 c.from_residual.result c.in_err-to.ensures c.from_residual.ensures.1)

pub returns-in_err-to-clause-listed : wanted.returns-in_err-to-clause-listed
returns-in_err-to-clause-listed g c = λ b log p. as_listed g.Q.Queue.means b log p

pub returns-clause-adds : wanted.returns-clause-adds
returns-clause-adds g c =
    let m = g.S.Structure.means in
    let n = g.Q.Queue.means in
    let laws = g.met.S.Structure in
    let b = c.args.self.now in
    let none = c.in_ok-to.ensures.0 in
    let to = c.in_ok-to.ensures.1 in
    let k = advances m n b c.args.seconds c.args.numerator c.args.denominator (length c.args.rows.now) none in
    let a = c.mend_until-count.ensures in
    let b' : Board g.row.S.Denot g.row.Q.Denot = record { structure = c.mend_until-count.new.structure; queue = c.mend_until-count.new.queue; clock = c.in_ok-to.to; total = c.saturating_add-self.result; capacity = c.args.self.now.capacity } in
    adds m n laws.ordered laws.leads b (rows_event (Advance c.args.seconds c.args.numerator c.args.denominator) (Accepted c.mend_until-count.result) c.mend_until-count.new.rows) b' (
      subst (λ l. refusal m n b (Advance c.args.seconds c.args.numerator c.args.denominator) l ≡ None) (sym a.written.size) none,
      moves m n laws.certified b b' (goal c.args.seconds c.args.numerator c.args.denominator) c.limit_of-limit.result c.mend_until-count.result c.args.rows.now c.mend_until-count.new.rows c.limit_of-limit.ensures to k.0 k.1 a.arrived a.written a.roster a.kept refl c.saturating_add-self.ensures,
    )

pub returns-clause-listed : wanted.returns-clause-listed
returns-clause-listed g c = λ b log p. as_listed g.Q.Queue.means b log p
