use Rattle.std.proofs.Common.{Some, None}
use Rattle.std.proofs.lemmas.Bool.{ltb-true}
use Rattle.call_sheet.specs.Sheets.{Hails}
use Rattle.call_sheet.specs.declared.call.Event.TheVariants.{OnOverdue}
use Rattle.call_sheet.proofs.Leading.{led}
use Rattle.call_sheet.proofs.sheet.CallSheet.overdue.Goals as goal

pub returns-in_err-line : goal.returns-in_err-line
returns-in_err-line g c =
    let m = g.Q.Queue.means in
    let q = c.args.self.now.queue in
    let none = c.in_err-line.ensures.after in
    let done : Hails m q c.take.new.self c.args.second None = (λ s. ((λ i k h. ltb-true c.args.second k ((none s).0 i k h)), (none s).1)) in
    rw c.from_residual.ensures record {
      after = done;
      keeps = c.take.ensures.keeps;
      history = led m q c.take.new.self (OnOverdue c.args.second None) done;
    }

pub returns-clause-history : goal.returns-clause-history
returns-clause-history g c =
    led g.Q.Queue.means c.args.self.now.queue c.take.new.self
    (OnOverdue c.args.second (Some record { line = c.in_ok-line.line; second = c.in_ok-line.second }))
    c.in_ok-line.ensures.after
