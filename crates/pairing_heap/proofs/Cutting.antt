-- A ticket with its tree, taken out from among its siblings.
use Rattle.std.proofs.Common.{◌≡◌, ℕ, ◌+◌, ◌<◌, ◌≤◌, Bool, true, false, cond, eqb, ◌≢◌, ◌⊎◌, List, length, get_or, set, Some, None, Option, sym, refl, ap, ◌∙◌, subst, inl, inr, ⊎_elim, arith}
use Rattle.std.proofs.lemmas.List.{get_or-set_same, get_or-set_other}
use Rattle.std.proofs.lemmas.Bool.{cases_eq, cases_lt, eq-eqb, ne_eqb, eqb-true, cond-true, cond-false, false≢true}
use Rattle.pairing_heap.specs.Links.{Columns, child_of, next_of, back_of, leads_to, taken_from}
use Rattle.pairing_heap.specs.Forests.{Forest, nil, node, one, times, nodes, Leads, NoneSooner, Ordered}
use Rattle.pairing_heap.proofs.Columns.{Even}
use Rattle.event_queue.proofs.Options.{some_none, same_some}
use Rattle.pairing_heap.proofs.Trees.{one_same, one_eq, one_other, set_at_same, set_at_other, first_apart, first_cell, first_back, first_in, rehead}

-- whether a link leads to a ticket

pub leads_here : (link : Option ℕ) (n : ℕ) → link ≡ Some n → leads_to link n ≡ true
leads_here link n e = ap (λ l. leads_to l n) e ∙ eq-eqb n n refl

pub leads_other : (link : Option ℕ) (n : ℕ) → (link ≡ Some n → ⊥) → leads_to link n ≡ false
leads_other None n ne = refl
leads_other (Some i) n ne = ne_eqb i n (λ e. ne (ap Some e))

pub here_leads : (link : Option ℕ) (n : ℕ) → leads_to link n ≡ true → link ≡ Some n
here_leads None n e = absurd (false≢true e)
here_leads (Some i) n e = ap Some (eqb-true i n e)

pub other_leads : (link : Option ℕ) (n : ℕ) → leads_to link n ≡ false → link ≡ Some n → ⊥
other_leads link n e f = false≢true (sym e ∙ leads_here link n f)

pub cases_leads : (link : Option ℕ) (n : ℕ) → (link ≡ Some n) ⊎ (link ≡ Some n → ⊥)
cases_leads None n = inr (λ e. some_none None n e refl)
cases_leads (Some i) n = ⊎_elim (λ e. inl (ap Some e)) (λ e. inr (λ f. e (same_some (Some i) i n refl f))) (cases_eq i n)

-- a link past the ticket n: where it led to n, it is s
unfoldable pub past : ℕ → Option ℕ → Option ℕ → Option ℕ
past n s link = cond (leads_to link n) s link

pub past_here : (n : ℕ) (s link : Option ℕ) → link ≡ Some n → past n s link ≡ s
unfolding past
past_here n s link e = cond-true (leads_to link n) s link (leads_here link n e)

pub past_other : (n : ℕ) (s link : Option ℕ) → (link ≡ Some n → ⊥) → past n s link ≡ link
unfolding past
past_other n s link e = cond-false (leads_to link n) s link (leads_other link n e)

-- the forest without the ticket n and the tree below it
unfoldable pub without : ℕ → Forest → Forest
without n nil = nil
without n (node a k r) = cond (eqb a n) r (node a (without n k) (without n r))

pub without_nil : (n : ℕ) → without n nil ≡ nil
unfolding without
without_nil n = refl

pub without_here : (n a : ℕ) (k r : Forest) → a ≡ n → without n (node a k r) ≡ r
unfolding without
without_here n a k r e = rw (eq-eqb a n e)

pub without_other : (n a : ℕ) (k r : Forest) → a ≢ n → without n (node a k r) ≡ node a (without n k) (without n r)
unfolding without
without_other n a k r e = rw (ne_eqb a n e)

pub without_absent : (n : ℕ) (F : Forest) → times n F ≡ 0 → without n F ≡ F
without_absent n nil z = without_nil n
without_absent n (node a k r) z =
    without_other n a k r (λ e. omega (arith, one_eq n a (sym e))) ∙ ap (λ x. node a x (without n r)) (without_absent n k (omega arith)) ∙ ap (λ x. node a k x) (without_absent n r (omega arith))

-- a forest in order is in order without the ticket n and the tree below it
module _ {K : Type 0} (before : K → K → Bool) (keys : List (Option K)) (n : ℕ) where
  pub none_sooner_without : (x : Option K) (F : Forest) → NoneSooner before keys x F → NoneSooner before keys x (without n F)
  none_sooner_without x nil h = rw (without_nil n) tt
  none_sooner_without x (node a k r) h = ⊎_elim (λ e. rw (without_here n a k r e) h.1) (λ e. rw (without_other n a k r e) (h.0, none_sooner_without x r h.1)) (cases_eq a n)

  pub ordered_without : (F : Forest) → Ordered before keys F → Ordered before keys (without n F)
  ordered_without nil h = rw (without_nil n) tt
  ordered_without (node a k r) h = ⊎_elim (λ e. rw (without_here n a k r e) h.2) (λ e. rw (without_other n a k r e) (none_sooner_without _ k h.0, ordered_without k h.1, ordered_without r h.2)) (cases_eq a n)

-- a column whose link at p, if it led to n, is now s
column_past : (xs ys : List (Option ℕ)) (n : ℕ) (s : Option ℕ) (p a : ℕ) → p < length xs → (get_or xs p None ≡ Some n → ys ≡ set xs p s) → ((get_or xs p None ≡ Some n → ⊥) → ys ≡ xs) → (get_or xs a None ≡ Some n → a ≡ p) → get_or ys a None ≡ past n s (get_or xs a None)
column_past xs ys n s p a b here other only =
    ⊎_elim
    (λ e. ap (λ zs. get_or zs a None) (here e) ∙ ⊎_elim
    (λ f. ap (λ x. get_or (set xs p s) x None) f ∙ get_or-set_same xs p s None b ∙ sym (past_here n s (get_or xs a None) (ap (λ x. get_or xs x None) f ∙ e)))
    (λ f. get_or-set_other xs p a s None f ∙ sym (past_other n s (get_or xs a None) (λ g. f (only g))))
    (cases_eq a p))
    (λ e. ap (λ zs. get_or zs a None) (other e) ∙ sym (past_other n s (get_or xs a None) (λ g. e (ap (λ x. get_or xs x None) (sym (only g)) ∙ g))))
    (cases_leads (get_or xs p None) n)

cond_kept : (v : Bool) (xs : List (Option ℕ)) (p : ℕ) (s : Option ℕ) (j : ℕ) → j ≢ p → get_or (cond v (set xs p s) xs) j None ≡ get_or xs j None
cond_kept true xs p s j ne = get_or-set_other xs p j s None ne
cond_kept false xs p s j ne = refl

cond_kept_else : (v : Bool) (xs : List (Option ℕ)) (p : ℕ) (s : Option ℕ) (j : ℕ) → j ≢ p → get_or (cond v xs (set xs p s)) j None ≡ get_or xs j None
cond_kept_else true xs p s j ne = refl
cond_kept_else false xs p s j ne = get_or-set_other xs p j s None ne

-- The ticket p stands before n, and the sibling after n takes the place of n.
module _ {K : Type 0} (t : Columns K) (even : Even t) (n p : ℕ) (bp : p < length t.key) (en : back_of t n ≡ Some p) (there : (child_of t p ≡ Some n) ⊎ (next_of t p ≡ Some n)) (after : (i : ℕ) → next_of t n ≡ Some i → back_of t i ≡ Some n) where
  abbrev pub cut_out : Columns K
  cut_out = taken_from t n (Some p)

  pub child_past : (a : ℕ) → (child_of t a ≡ Some n → a ≡ p) → child_of cut_out a ≡ past n (next_of t n) (child_of t a)
  child_past a only =
      column_past t.child cut_out.child n (next_of t n) p a (omega (arith, even.child))
      (λ e. cond-true (leads_to (child_of t p) n) _ _ (leads_here (child_of t p) n e)) (λ e. cond-false (leads_to (child_of t p) n) _ _ (leads_other (child_of t p) n e)) only

  pub next_past : (a : ℕ) → (next_of t a ≡ Some n → (a ≡ p) × (child_of t p ≡ Some n → ⊥)) → next_of cut_out a ≡ past n (next_of t n) (next_of t a)
  next_past a only =
      ⊎_elim
      (λ e. ap (λ zs. get_or zs a None) (cond-true (leads_to (child_of t p) n) t.next _ (leads_here (child_of t p) n e)) ∙ sym (past_other n (next_of t n) (next_of t a) (λ g. (only g).1 e)))
      (λ e.
      column_past t.next cut_out.next n (next_of t n) p a (omega (arith, even.next))
      (λ f. cond-false (leads_to (child_of t p) n) t.next _ (leads_other (child_of t p) n e)) (λ f. absurd (⊎_elim e f there)) (λ g. (only g).0))
      (cases_leads (child_of t p) n)

  pub child_kept : (j : ℕ) → j ≢ p → child_of cut_out j ≡ child_of t j
  child_kept j ne = cond_kept (leads_to (child_of t p) n) t.child p (next_of t n) j ne

  pub next_kept : (j : ℕ) → j ≢ p → next_of cut_out j ≡ next_of t j
  next_kept j ne = cond_kept_else (leads_to (child_of t p) n) t.next p (next_of t n) j ne

  pub back_kept : (j : ℕ) → (next_of t n ≡ Some j → ⊥) → back_of cut_out j ≡ back_of t j
  back_kept j ne = set_at_other t.back (next_of t n) j (Some p) ne

  -- the row that n leads, without n
  here_leads_on : (q : ℕ) (r : Forest) → q ≡ p → times q r ≡ 0 → ((j : ℕ) → times j r ≤ 1) → Leads t n (next_of t n) r → Leads cut_out q (next_of t n) r
  here_leads_on q r qp off once h =
      let ps : (i : ℕ) → next_of t n ≡ Some i → i ≢ p = λ i e f. first_apart t n (next_of t n) r q off h (e ∙ ap Some (f ∙ sym qp)) in
      rehead t cut_out refl n q (next_of t n) r h once
      (λ i e. (set_at_same t.back (next_of t n) i (Some p) e (omega (arith, even.back, first_cell t n (next_of t n) r i h e)) ∙ ap Some (sym qp), child_kept i (ps i e), next_kept i (ps i e)))
      (λ j c ne. let jp : j ≢ p = λ f. omega (arith, ap (λ x. times x r) (f ∙ sym qp)) in record { child = child_kept j jp; next = next_kept j jp; back = back_kept j ne })

  pub cut_leads : (q : ℕ) (link : Option ℕ) (F : Forest) → Leads t q link F → q ≢ n → times q F ≡ 0 → ((j : ℕ) → times j F ≤ 1) → Leads cut_out q (past n (next_of t n) link) (without n F)
  cut_leads q link nil h qn z once = rw (without_nil n, past_other n (next_of t n) link (λ e. some_none link n e h)) h
  cut_leads q link (node a k r) h qn z once =
      ⊎_elim
      (λ e.
      let qp : q ≡ p = same_some (back_of t n) q p (ap (back_of t) (sym e) ∙ h.2) en in
      let hr : Leads t n (next_of t n) r = subst (λ x. Leads t x (next_of t x) r) e h.4 in
      rw (without_here n a k r e, past_here n (next_of t n) link (h.0 ∙ ap Some e))
      (here_leads_on q r qp (omega arith) (λ j. omega (arith, once j)) hr))
      (λ e.
      let a≢s : next_of t n ≡ Some a → ⊥ = λ f. qn (same_some (back_of t a) q n h.2 (after a f)) in
      let up : (l : Option ℕ) (G : Forest) → Leads t a l G → l ≡ Some n → a ≡ p = λ l G g f. same_some (back_of t n) a p (first_back t a l G n g f) en in
      let twice : child_of t a ≡ Some n → next_of t a ≡ Some n → ⊥ = λ f g. omega (arith, once n, first_in t a (child_of t a) k n h.3 f, first_in t a (next_of t a) r n h.4 g) in
      let offk : times a k ≡ 0 = omega (arith, once a, one_same a) in
      let offr : times a r ≡ 0 = omega (arith, once a, one_same a) in
      let ck : child_of cut_out a ≡ past n (next_of t n) (child_of t a) = child_past a (λ f. up (child_of t a) k h.3 f) in
      let cr : next_of cut_out a ≡ past n (next_of t n) (next_of t a) = next_past a (λ f. (up (next_of t a) r h.4 f, λ g. twice (ap (child_of t) (up (next_of t a) r h.4 f) ∙ g) f)) in
      let rk : Leads cut_out a (past n (next_of t n) (child_of t a)) (without n k) = cut_leads a (child_of t a) k h.3 e offk (λ j. omega (arith, once j)) in
      let rr : Leads cut_out a (past n (next_of t n) (next_of t a)) (without n r) = cut_leads a (next_of t a) r h.4 e offr (λ j. omega (arith, once j)) in
      rw (without_other n a k r e, past_other n (next_of t n) link (λ f. e (same_some link a n h.0 f))) (
        h.0,
        h.1,
        back_kept a a≢s ∙ h.2,
        subst (λ l. Leads cut_out a l (without n k)) (sym ck) rk,
        subst (λ l. Leads cut_out a l (without n r)) (sym cr) rr,
      ))
      (cases_eq a n)

-- where n stands, in the forest F that the link of q leads to
pub record Found {K : Type 0} (before : K → K → Bool) (t : Columns K) (n q : ℕ) (link : Option ℕ) (F : Forest) : Type 0 where
  pub below : Forest
  pub beside : Forest
  pub children : Leads t n (child_of t n) below
  pub siblings : Leads t n (next_of t n) beside
  pub count : (j : ℕ) → times j F ≡ times j (without n F) + (one j n + times j below)
  pub size : nodes F ≡ nodes (without n F) + (1 + nodes below)
  pub inside : (j : ℕ) → times j beside ≤ times j (without n F)
  pub ordered : Ordered before t.key F → Ordered before t.key below
  -- the ticket before n: q, from which the link leads to n, or one of the forest
  pub prior : ℕ
  pub is : back_of t n ≡ Some prior
  pub place : ((prior ≡ q) × (link ≡ Some n)) ⊎ ((0 < times prior (without n F)) × (prior < length t.key) × ((child_of t prior ≡ Some n) ⊎ (next_of t prior ≡ Some n)))

module _ {K : Type 0} (before : K → K → Bool) (t : Columns K) (n : ℕ) where
  pub find : (q : ℕ) (link : Option ℕ) (F : Forest) → Leads t q link F → ((j : ℕ) → times j F ≤ 1) → 0 < times n F → Found before t n q link F
  find q link nil h once c = absurd (omega arith)
  find q link (node a k r) h once c =
      ⊎_elim
      (λ e.
      let w = without_here n a k r e in
      record {
        below = k;
        beside = r;
        children = subst (λ x. Leads t x (child_of t x) k) e h.3;
        siblings = subst (λ x. Leads t x (next_of t x) r) e h.4;
        count = λ j. omega (arith, ap (λ x. one j x) e, ap (times j) w);
        size = omega (arith, ap nodes w);
        inside = λ j. omega (arith, ap (times j) w);
        ordered = λ o. o.1;
        prior = q;
        is = ap (back_of t) (sym e) ∙ h.2;
        place = inl (refl, h.0 ∙ ap Some e);
      })
      (λ e.
      let w = without_other n a k r e in
      let z = one_other n a (λ f. e (sym f)) in
      ⊎_elim
      (λ ck.
      let f = find a _ k h.3 (λ j. omega (arith, once j)) ck in
      let v = without_absent n r (omega (arith, once n)) in
      record {
        below = f.below;
        beside = f.beside;
        children = f.children;
        siblings = f.siblings;
        count = λ j. omega (arith, f.count j, ap (times j) w, ap (times j) v);
        size = omega (arith, f.size, ap nodes w, ap nodes v);
        inside = λ j. omega (arith, f.inside j, ap (times j) w);
        ordered = λ o. f.ordered o.1;
        prior = f.prior;
        is = f.is;
        place = inr (⊎_elim
            (λ g. (omega (arith, one_eq f.prior a g.0, ap (times f.prior) w), omega (arith, h.1, g.0), inl (ap (child_of t) g.0 ∙ g.1)))
            (λ g. (omega (arith, g.0, ap (times f.prior) w), g.1, g.2))
            f.place);
      })
      (λ ck.
      let f = find a _ r h.4 (λ j. omega (arith, once j)) (omega arith) in
      let v = without_absent n k (omega arith) in
      record {
        below = f.below;
        beside = f.beside;
        children = f.children;
        siblings = f.siblings;
        count = λ j. omega (arith, f.count j, ap (times j) w, ap (times j) v);
        size = omega (arith, f.size, ap nodes w, ap nodes v);
        inside = λ j. omega (arith, f.inside j, ap (times j) w);
        ordered = λ o. f.ordered o.2;
        prior = f.prior;
        is = f.is;
        place = inr (⊎_elim
            (λ g. (omega (arith, one_eq f.prior a g.0, ap (times f.prior) w), omega (arith, h.1, g.0), inr (ap (next_of t) g.0 ∙ g.1)))
            (λ g. (omega (arith, g.0, ap (times f.prior) w), g.1, g.2))
            f.place);
      })
      (cases_lt 0 (times n k)))
      (cases_eq a n)
