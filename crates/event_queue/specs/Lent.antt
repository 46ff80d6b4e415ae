-- What a queue in lent cells means: it uses the first 64 of them, and the cell i has the key of the ticket i.
use Rattle.std.specs.Prelude.{◌≡◌, ℕ, min, List, length, take, drop, Option, refl}
use Rattle.std.proofs.Common.{◌∙◌, arith}
use Rattle.event_queue.specs.Queues.{Meaning}
use Rattle.event_queue.specs.Cells.{key_in, past_64}

-- Given are the key in a cell, the cells that a queue stands in, the name by which they were lent, and when the
-- queue is sound. No call changes the name, or a cell past the 64th.
abbrev pub lent_meaning : {Q C K N : Type 0} → (C → Option K) → (Q → List C) → (Q → N) → (Q → Type 0) → Meaning Q K
lent_meaning key cells name sound = record {
  sound = sound;
  capacity = λ q. min (length (cells q)) 64;
  held = λ q. key_in key (take 64 (cells q));
  keeps = λ q r. (name r ≡ name q) × (drop 64 (cells r) ≡ drop 64 (cells q));
  bounded = λ q s. omega arith;
  within = λ q s n h. past_64 key (cells q) n h;
  keeps_itself = λ q. (refl, refl);
  keeps_on = λ a b c f g. (g.0 ∙ f.0, g.1 ∙ f.1);
}
