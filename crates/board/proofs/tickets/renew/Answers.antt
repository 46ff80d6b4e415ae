use Rattle.std.proofs.Common.{◌≡◌, Some, sym, ap, ◌∙◌}
use Rattle.board.specs.Tickets.{ticket}
use Rattle.board.proofs.Renewing.{wanted, given_anew, kept_rekeyed}
use Rattle.board.proofs.tickets.renew.Goals as goal

pub returns-in-Some : goal.returns-in-Some
returns-in-Some g c =
    let n = g.Q.Queue.means in
    let m = g.S.Structure.means in
    let e : wanted m c.args.structure.now c.args.number ≡ Some c.in-Some.key = sym (ap ticket c.certificate.ensures) ∙ sym c.ticket_of.ensures ∙ c.in-Some.is in
    record {
      only = λ s large. given_anew m n g.met.S.Structure.certified _ _ _ _ _ c.rekey.result e c.rekey.ensures.after s large;
      kept = kept_rekeyed n _ _ c.rekey.result c.rekey.ensures.after c.rekey.ensures.keeps;
    }
