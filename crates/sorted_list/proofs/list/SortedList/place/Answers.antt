use Rattle.std.proofs.Common.{◌≡◌, ℕ, Some, None, Option, sym, ap, subst, ◌∙◌}
use Rattle.std.specs.Option.{ok_or}
use Rattle.fairway.proofs.Lists.{nobody}
use Rattle.kinetic.specs.declared.refusal.Refusal.TheVariants.{UnknownVessel}
use Rattle.kinetic.proofs.Refused.{vessel_known, vessel_unknown}
use Rattle.sorted_list.specs.Places.{place_in}
use Rattle.sorted_list.specs.Questions.{PlaceAnswer, courses_of, means}
use Rattle.sorted_list.specs.declared.list.SortedList.{SortedList}
use Rattle.sorted_list.proofs.Changes.{placed_at, not_placed}
use Rattle.sorted_list.proofs.list.SortedList.place.Goals as goal

placed : (s : SortedList) (n : ℕ) (o : Option ℕ) → (n ≡ 0 → ⊥) → o ≡ place_in n (courses_of s) → PlaceAnswer s n (ok_or o UnknownVessel)
placed s n None z e = vessel_unknown means s n z (not_placed n (courses_of s) (sym e))
placed s n (Some i) z e = (vessel_known means s n z _ ((placed_at n (courses_of s) i (sym e)).2 nobody), sym e)

pub returns : goal.returns
returns c =
    let s = c.args.self.now in
    let n = c.args.number in
    let o = c.place_of.result in
    subst (PlaceAnswer s n) (sym c.ok_or.ensures.value) (placed s n o c.if-number-eq0.false (c.place_of.ensures ∙ ap (place_in n) c.as_slice.ensures.value))
