use Rattle.std.proofs.Common.{◌≡◌, map, vec_items}
use Rattle.radio_watch.proofs.Lines.{seen, asked}
use Rattle.radio_watch.proofs.script.read_script.Given as goal

-- what was found is what the lines that were read ask for
abbrev pub invariant-loop-index : goal.invariant-loop-index
invariant-loop-index l = vec_items l.found ≡ asked (map seen l.yielded)
