use Rattle.pairing_heap.proofs.meld.+meld_pairs.Given as goal

abbrev pub decreases-meld_pairs : goal.decreases-meld_pairs
decreases-meld_pairs g l = l.fuel
