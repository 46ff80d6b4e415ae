use Rattle.std.proofs.Common.{◌≡◌, codes, rules, arith}
use Rattle.std.proofs.lemmas.Slice.Eq.{text_from_reads}
use Rattle.radio_watch.proofs.script.two_words.Goals as goal

pub returns-in-heard : goal.returns-in-heard
returns-in-heard c =
    let e : c.args.name.now ≡ codes "heard" = text_from_reads c.args.name.now (codes "heard") (omega arith) (search rules) in
    rw e (search rules)

pub returns-in-overdue : goal.returns-in-overdue
returns-in-overdue c =
    let e : c.args.name.now ≡ codes "overdue" = text_from_reads c.args.name.now (codes "overdue") (omega arith) (search rules) in
    rw e (search rules)
