use Rattle.std.proofs.Common.{◌≡◌, ◌^◌, ◌<◌, drop}
use Rattle.radio_watch.specs.Script.{value_from, fitting}
use Rattle.radio_watch.proofs.script.decimal.Given as goal

-- what is left of the word goes on to the same number
abbrev pub invariant-loop-b : goal.invariant-loop-b
invariant-loop-b l = (l.n < 2 ^ 32) × (fitting (value_from l.n (drop l.b-index l.word)) ≡ fitting (value_from 0 l.word))
