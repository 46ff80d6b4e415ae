use Rattle.lines.proofs.Puts.{puts}
use Rattle.lines.proofs.order_lines.put_order_line.Goals as goal

pub returns : goal.returns
returns c = puts (puts (puts c.put_text-end.ensures c.put_vessels-end.ensures) c.put_text-end-2.ensures) c.put_instant.ensures
