-- No vessel.
use Rattle.std.proofs.Common.{◌≡◌, ℕ, ◌+◌, ◌*◌, ◌<◌, ◌≤◌, Bool, List, replicate, Some, None, Option, sym, refl, ap, ◌∙◌, ⊎_elim}
use Rattle.std.proofs.lemmas.List.{get_or-replicate, get_or_past}
use Rattle.std.proofs.lemmas.Bool.{cases_lt}
use Rattle.event_queue.proofs.Options.{none_some}
use Rattle.fairway.specs.Rosters.{course_of}
use Rattle.fairway.specs.declared.course.Course.{Course}
use Rattle.kinetic.specs.Structures.{Cleared}
use Rattle.tournament.specs.Places.{Sound}
use Rattle.tournament.specs.Matches.{aboard, node_at, winner, certificate_at, won_by_second, AllDrawn}
use Rattle.tournament.specs.Loads.{load}
use Rattle.tournament.specs.Laws.{no_first}
use Rattle.tournament.specs.Means.{tournament_meaning}

abbrev pub empty : List (Option Course)
empty = replicate 127 None

none : (i : ℕ) → node_at empty i ≡ None
none i = ⊎_elim (λ (p : i < 127). get_or-replicate 127 i None None p) (λ (p : 127 ≤ i). get_or_past empty i None p) (cases_lt i 127)

alone : (r : Bool) (a b w : Option Course) → a ≡ None → b ≡ None → w ≡ None → w ≡ winner r a b
alone r None None w p q s = s
alone r None (Some y) w p q s = s ∙ sym q
alone r (Some x) None w p q s = s ∙ sym p
alone r (Some x) (Some y) w p q s = absurd (none_some (sym p))

pub none_drawn : AllDrawn empty
none_drawn i h = alone (won_by_second empty i) (node_at empty (2 * i + 1)) (node_at empty (2 * i + 2)) (node_at empty i) (none (2 * i + 1)) (none (2 * i + 2)) (none i)

pub none_sound : Sound (aboard empty)
none_sound = record { apart = tt; fit = tt }

no_certificate : (i : ℕ) → certificate_at empty i ≡ None
no_certificate i = no_first (won_by_second empty i) (node_at empty (2 * i + 1)) (node_at empty (2 * i + 2)) (none (2 * i + 1))

no_load : load empty ≡ 0
unfolding load
no_load = refl

pub cleared : {S : Type 0} (nodes : S → List (Option Course)) (s : S) → nodes s ≡ empty → Cleared (tournament_meaning nodes) s
cleared nodes s e =
    record {
      roster = λ n. roster n (nodes s) e;
      certificates = λ i. ap (λ ns. certificate_at ns i) e ∙ no_certificate i;
      load = ap load e ∙ no_load;
      stands = λ t pr i r f c. absurd (none_some (sym (no_certificate i) ∙ sym (ap (λ ns. certificate_at ns i) e) ∙ c));
    }
  where
    roster : (n : ℕ) (ns : List (Option Course)) → ns ≡ empty → course_of (aboard ns) n ≡ None
    roster n ns e = ap (λ l. course_of (aboard l) n) e
