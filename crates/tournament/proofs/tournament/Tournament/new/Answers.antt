use Rattle.std.proofs.Common.{refl}
use Rattle.tournament.proofs.Empty.{none_drawn, none_sound, cleared}
use Rattle.tournament.proofs.Blocks.{all_beneath}
use Rattle.tournament.specs.Questions.{nodes_of}
use Rattle.tournament.proofs.tournament.Tournament.new.Goals as goal

pub invariant_of-result : goal.invariant_of-result
invariant_of-result c = record { sized = refl; sound = none_sound; drawn = none_drawn }

pub returns : goal.returns
returns c = record { cleared = cleared nodes_of _ refl; beneath = all_beneath }
