use Rattle.std.proofs.Common.{refl, subst, rules}
use Rattle.std.proofs.lemmas.List.{take_all}
use Rattle.fairway.proofs.Sorting.{order_is}
use Rattle.sorted_list.specs.Questions.{CoursesAnswer}
use Rattle.sorted_list.specs.RostersLemmas.{well_apart}
use Rattle.sorted_list.specs.Laws.{rests_sorted}
use Rattle.sorted_list.proofs.list.SortedList.courses.Goals as goal

pub returns : goal.returns
returns c =
    let s = c.args.self.now in
    let xs = s.courses.items in
    subst (CoursesAnswer s) (search (rules, take_all))
    (record {
      value = refl;
      apart = well_apart xs s.sound;
      sorted = λ t r. rests_sorted xs t r.0 r.1;
      is_order = λ t p r roster a m. (order_is t p roster a).only xs (rests_sorted xs t r.0 r.1) m;
    })
