use Rattle.std.proofs.Common.{◌≡◌, codes, rules, arith}
use Rattle.std.proofs.lemmas.Slice.Eq.{text_from_reads}
use Rattle.radio_watch.proofs.script.three_words.Goals as goal

pub returns-in-await : goal.returns-in-await
returns-in-await c =
    let e : c.args.name.now ≡ codes "await" = text_from_reads c.args.name.now (codes "await") (omega arith) (search rules) in
    rw e (search rules)
