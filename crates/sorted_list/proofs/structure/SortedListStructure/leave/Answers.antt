use Rattle.std.proofs.Common.{◌≡◌, ◌+◌, ◌<◌, length, ap, ◌∙◌, arith}
use Rattle.std.proofs.lemmas.List.Edits.{length-remove}
use Rattle.fairway.specs.Stamps.{time_of}
use Rattle.fairway.proofs.Lists.{nobody}
use Rattle.fairway.specs.Rosters.{without}
use Rattle.sorted_list.specs.Places.{named_from}
use Rattle.sorted_list.proofs.Changes.{certs_out, placed_at}
use Rattle.sorted_list.proofs.Calls.{between_named, past_end, rested_without, roster_out}
use Rattle.sorted_list.proofs.structure.SortedListStructure.leave.Goals as goal

pub returns-clause-left : goal.returns-clause-left
returns-clause-left c =
    let n = c.args.number in
    let xs = c.args.self.now.courses.items in
    let ys = c.take_out.new.self.courses.items in
    let i = c.in_ok-place.place in
    let p = placed_at n xs i c.in_ok-place.ensures.1 in
    let h : i < length xs = p.0 in
    let e : ys ≡ without n xs = c.take_out.ensures ∙ p.1 in
    let l : length ys + 1 ≡ length xs = ap (λ z. length z + 1) c.take_out.ensures ∙ length-remove xs i h in
    let o = roster_out n xs ys c.args.self.now.sound e in (
      c.in_ok-place.ensures.0,
      record {
        there = o.0;
        others = o.1;
        named = between_named xs ys c.numbers_from.result i c.len.result c.numbers_from.ensures (certs_out xs ys nobody i h c.take_out.ensures) (past_end xs ys c.len.result (omega arith) (omega arith));
        rests = rested_without (time_of c.args.at) n xs ys e;
      },
    )

pub returns-clause-takes : goal.returns-clause-takes
returns-clause-takes c =
    let n = c.args.number in
    let xs = c.args.self.now.courses.items in
    let i = c.in_ok-place.place in
    let place = c.in_ok-place.ensures.1 in
    let count : c.len.result ≡ length c.take_out.new.self.courses.items = omega arith in (
      i,
      record {
        place = place;
        courses = c.take_out.ensures ∙ (placed_at n xs i place).1;
        names = c.numbers_from.ensures ∙ ap (named_from i) count;
      },
    )
