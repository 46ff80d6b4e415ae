use Rattle.std.proofs.Common.{◌≡◌, ℤ, Bool, true, false, cond, refl, ◌∙◌, int_lt, to_z, of_z, Some, Less, Equal, Greater, rules}
use mir.Syntax.{w128}
use Rattle.std.specs.Ordering.{is_some_and, is_lt, partial_ordering_then}
use Rattle.fairway.specs.Stamps.{time_of}
use Rattle.fairway.specs.Courses.{place}
use Rattle.fairway.specs.Behind.{behind}
use Rattle.fairway.proofs.course.Course.is_behind.Goals as goal

-- the lesser position tells
lesser : (x y : ℤ) (rest : Bool) → int_lt x y ≡ true → true ≡ cond (int_lt x y) true (cond (int_lt y x) false rest)
lesser x y rest e = rw e

-- and so does the greater
greater : (x y : ℤ) (rest : Bool) → int_lt x y ≡ false → int_lt y x ≡ true → false ≡ cond (int_lt x y) true (cond (int_lt y x) false rest)
greater x y rest e f = rw (e, f)

-- of equal positions the rest tells
alike : (x y : ℤ) (rest : Bool) → int_lt x y ≡ false → int_lt y x ≡ false → rest ≡ cond (int_lt x y) true (cond (int_lt y x) false rest)
alike x y rest e f = rw (e, f)

-- the order of pairs, from the tests of their parts
by_parts : (c d e f : Bool) → is_some_and is_lt (partial_ordering_then (Some (cond c Less (cond d Greater Equal))) (Some (cond e Less (cond f Equal Greater)))) ≡
    cond c true (cond d false e)
by_parts true d e f = refl
by_parts false true e f = refl
by_parts false false true f = refl
by_parts false false false true = refl
by_parts false false false false = refl

-- a test of two positions as they are read back, of the places themselves
placed : (p q x y u w : ℤ) (b : Bool) → int_lt u w ≡ b → u ≡ p → w ≡ q → p ≡ x → q ≡ y → int_lt x y ≡ b
placed p q x y u w b h i j k l = cc

pub returns-then-own-others : goal.returns-then-own-others
unfolding behind
returns-then-own-others c =
    let x = place (time_of c.args.at) c.args.self in
    let y = place (time_of c.args.at) c.args.other in
    let p : to_z w128 (of_z w128 c.position_at-own.result) ≡ c.position_at-own.result = search rules in
    let q : to_z w128 (of_z w128 c.position_at-others.result) ≡ c.position_at-others.result = search rules in
    lesser x y _ (placed _ _ x y _ _ true c.if-own-others.true p q c.position_at-own.ensures c.position_at-others.ensures)

pub returns-then-others-own : goal.returns-then-others-own
unfolding behind
returns-then-others-own c =
    let x = place (time_of c.args.at) c.args.self in
    let y = place (time_of c.args.at) c.args.other in
    let p : to_z w128 (of_z w128 c.position_at-own.result) ≡ c.position_at-own.result = search rules in
    let q : to_z w128 (of_z w128 c.position_at-others.result) ≡ c.position_at-others.result = search rules in
    greater x y _ (placed _ _ x y _ _ false c.if-own-others.false p q c.position_at-own.ensures c.position_at-others.ensures)
    (placed _ _ y x _ _ true c.if-others-own.true q p c.position_at-others.ensures c.position_at-own.ensures)

pub returns : goal.returns
unfolding behind
returns c =
    let x = place (time_of c.args.at) c.args.self in
    let y = place (time_of c.args.at) c.args.other in
    let p : to_z w128 (of_z w128 c.position_at-own.result) ≡ c.position_at-own.result = search rules in
    let q : to_z w128 (of_z w128 c.position_at-others.result) ≡ c.position_at-others.result = search rules in
    c.lt.ensures ∙ by_parts _ _ _ _ ∙ search rules ∙
    alike x y _ (placed _ _ x y _ _ false c.if-own-others.false p q c.position_at-own.ensures c.position_at-others.ensures)
    (placed _ _ y x _ _ false c.if-others-own.false q p c.position_at-others.ensures c.position_at-own.ensures)
