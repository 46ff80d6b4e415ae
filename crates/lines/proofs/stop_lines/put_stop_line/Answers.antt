use Rattle.std.proofs.Common.{ap, decimal}
use Rattle.lines.proofs.Puts.{puts, same}
use Rattle.lines.proofs.stop_lines.put_stop_line.Goals as goal

pub returns : goal.returns
returns c =
    let place = puts (puts c.put_text-end.ensures c.put_number-end.ensures) c.put_text-end-2.ensures in
    puts (puts place (same (ap decimal c.from.ensures) c.put_number-end-2.ensures)) c.put_text.ensures
