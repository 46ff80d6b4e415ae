use Rattle.std.proofs.Common.{ap, decimal}
use Rattle.lines.proofs.Puts.{puts, same}
use Rattle.lines.proofs.instants.put_instant.Goals as goal

pub returns : goal.returns
returns c = puts c.put_fraction-end.ensures (same (ap decimal c.seconds.ensures) c.put_number.ensures)
