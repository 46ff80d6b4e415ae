use Rattle.std.proofs.Common.{sym, ap, ◌∙◌, arith}
use Rattle.fairway.proofs.Meetings.{made_lowest}
use Rattle.fairway.specs.Instants.{stamp_of}
use Rattle.fairway.specs.Stamps.{earlier}
use Rattle.board.proofs.Advancing.{too_early, too_few, advance_accepted}
use Rattle.board.proofs.board.Board.advancing.Goals as wanted

pub returns-then-is_earlier : wanted.returns-then-is_earlier
returns-then-is_earlier g c =
    let b = c.args.self.now in
    let made = c.in_ok-to.ensures in
    let to = c.stamp.ensures ∙ made_lowest c.args.seconds c.args.numerator c.args.denominator c.in_ok-to.to made in
    let late = ap (λ x. earlier x (stamp_of b.clock)) (sym to) ∙ ap (earlier c.stamp.result) (sym c.stamp-2.ensures) ∙ sym c.is_earlier.ensures.value ∙ c.if-is_earlier.true in
    too_early g.S.Structure.means g.Q.Queue.means b c.args.seconds c.args.numerator c.args.denominator c.args.lent made.0 late

pub returns-then-lent-load : wanted.returns-then-lent-load
returns-then-lent-load g c =
    let b = c.args.self.now in
    let made = c.in_ok-to.ensures in
    let to = c.stamp.ensures ∙ made_lowest c.args.seconds c.args.numerator c.args.denominator c.in_ok-to.to made in
    let late = ap (λ x. earlier x (stamp_of b.clock)) (sym to) ∙ ap (earlier c.stamp.result) (sym c.stamp-2.ensures) ∙ sym c.is_earlier.ensures.value ∙ c.if-is_earlier.false in
    let few = c.if-lent-load.true in
    let load = c.load.ensures in
    too_few g.S.Structure.means g.Q.Queue.means b c.args.seconds c.args.numerator c.args.denominator c.args.lent made.0 late (omega (arith, few, load))

pub returns : wanted.returns
returns g c =
    let b = c.args.self.now in
    let made = c.in_ok-to.ensures in
    let lowest = made_lowest c.args.seconds c.args.numerator c.args.denominator c.in_ok-to.to made in
    let to = c.stamp.ensures ∙ lowest in
    let late = ap (λ x. earlier x (stamp_of b.clock)) (sym to) ∙ ap (earlier c.stamp.result) (sym c.stamp-2.ensures) ∙ sym c.is_earlier.ensures.value ∙ c.if-is_earlier.false in
    let enough = c.if-lent-load.false in
    let load = c.load.ensures in
    (advance_accepted g.S.Structure.means g.Q.Queue.means b c.args.seconds c.args.numerator c.args.denominator c.args.lent made.0 late (omega (arith, enough, load)), lowest)
