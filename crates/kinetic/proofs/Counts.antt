-- How many vessels a roster has: that of a list of courses, and any as one vessel comes or goes.
use Rattle.std.proofs.Common.{◌≡◌, ℕ, ◌+◌, ◌<◌, true, ◌≢◌, List, [], ◌∷◌, length, is_some, Some, None, Option, sym, refl, ap, ◌∙◌, eqb, arith}
use Rattle.std.specs.List.{AllByRecursion}
use Rattle.std.proofs.lemmas.Bool.{cond-true, cond-false, eq-eqb, ne_eqb}
use Rattle.event_queue.proofs.Counts as counts
use Rattle.event_queue.proofs.Counts.{count_same, count_more}
use Rattle.fairway.specs.Orders.{Apart}
use Rattle.fairway.specs.Rosters.{course_of}
use Rattle.fairway.specs.declared.course.Course.{Course}
use Rattle.fairway.proofs.Rosters.{absent}
use Rattle.kinetic.specs.Structures.{Meaning, Counted, vessels}

pub vessels_same : (a b : ℕ → Option Course) → ((n : ℕ) → is_some (a n) ≡ is_some (b n)) → vessels a ≡ vessels b
unfolding vessels
vessels_same a b e = count_same (λ n. is_some (a n)) (λ n. is_some (b n)) 65536 (λ i h. e i)

pub vessels_none : (a : ℕ → Option Course) → ((n : ℕ) → a n ≡ None) → vessels a ≡ 0
unfolding vessels
vessels_none a e = counts.count_none (λ n. is_some (a n)) 65536 (λ i h. ap is_some (e i))

-- b has the vessel k, which a has not
pub vessels_more : (a b : ℕ → Option Course) (k : ℕ) → k < 65536 → a k ≡ None → is_some (b k) ≡ true → ((n : ℕ) → (n ≡ k → ⊥) → b n ≡ a n) → vessels b ≡ vessels a + 1
unfolding vessels
vessels_more a b k h ea eb e = count_more (λ n. is_some (a n)) (λ n. is_some (b n)) 65536 k h (ap is_some ea) eb (λ n o. ap is_some (e n o))

-- ---- a list of courses with no number twice, each of a vessel number, has as many vessels as its roster
first_there : (x : Course) (xs : List Course) → is_some (course_of (x ∷ xs) x.number) ≡ true
first_there x xs = ap is_some (cond-true (eqb x.number x.number) (Some x) (course_of xs x.number) (eq-eqb x.number x.number refl))

first_else : (x : Course) (xs : List Course) (n : ℕ) → (n ≢ x.number) → course_of (x ∷ xs) n ≡ course_of xs n
first_else x xs n o = cond-false (eqb x.number n) (Some x) (course_of xs n) (ne_eqb x.number n (λ q. o (sym q)))

pub vessels_listed : {P : Course → Type 0} → ((c : Course) → P c → c.number < 65536) → (xs : List Course) → Apart xs → AllByRecursion P xs → length xs ≡ vessels (course_of xs)
vessels_listed numbered [] a p = sym (vessels_none (course_of []) (λ n. refl))
vessels_listed numbered (x ∷ xs) a p =
    let ih = vessels_listed numbered xs a.1 p.1 in
    omega (arith, ih, vessels_more (course_of xs) (course_of (x ∷ xs)) x.number (numbered x p.0) (absent x.number xs a.0) (first_there x xs) (first_else x xs))

-- ---- the count of a structure, as one vessel comes, goes or stays
module _ {S : Type 0} (m : Meaning S) (counted : Counted m) (s s' : S) where
  pub count_entered : (n : ℕ) (c : Course) → n < 65536 → m.roster s n ≡ None → m.roster s' n ≡ Some c → ((k : ℕ) → (k ≡ n → ⊥) → m.roster s' k ≡ m.roster s k) → m.count s' ≡ m.count s + 1
  count_entered n c h a b o = counted s' ∙ vessels_more (m.roster s) (m.roster s') n h a (ap is_some b) o ∙ ap (λ k. k + 1) (sym (counted s))

  pub count_left : (n : ℕ) (c : Course) → n < 65536 → m.roster s n ≡ Some c → m.roster s' n ≡ None → ((k : ℕ) → (k ≡ n → ⊥) → m.roster s' k ≡ m.roster s k) → m.count s ≡ m.count s' + 1
  count_left n c h a b o = counted s ∙ vessels_more (m.roster s') (m.roster s) n h b (ap is_some a) (λ k e. sym (o k e)) ∙ ap (λ k. k + 1) (sym (counted s'))

  pub count_kept : ((k : ℕ) → is_some (m.roster s' k) ≡ is_some (m.roster s k)) → m.count s' ≡ m.count s
  count_kept o = counted s' ∙ vessels_same (m.roster s') (m.roster s) o ∙ sym (counted s)

  pub count_none : ((k : ℕ) → m.roster s' k ≡ None) → m.count s' ≡ 0
  count_none o = counted s' ∙ vessels_none (m.roster s') o
