-- What holds of each course of a list, of each two, or of each two neighbours, and still does after one is put in or
-- taken out, or neighbours are exchanged.
use Rattle.std.proofs.Common.{ℕ, zero, suc, ◌<◌, eqb, List, [], ◌∷◌, length, get_or, arith}
use Rattle.std.specs.List.{AllByRecursion, insert, remove}
use Rattle.std.proofs.ByRecursion.{All-weaker, All-get_or}
use Rattle.std.proofs.lemmas.Bool.{cond_both}
use Rattle.fairway.specs.Times.{Time}
use Rattle.fairway.specs.Behind.{behind}
use Rattle.fairway.specs.Pairwise.{Pairwise, Neighbours}
use Rattle.fairway.specs.Orders.{put, Exchange, here, there}
use Rattle.fairway.specs.Rosters.{without}
use Rattle.fairway.specs.declared.course.Course.{Course}

-- ---- of each
module _ (P : Course → Type 0) where
  pub all_exchange : {r f : Course} {xs ys : List Course} → Exchange r f xs ys → AllByRecursion P xs → AllByRecursion P ys
  all_exchange here h = (h.1.0, (h.0, h.1.1))
  all_exchange (there e) h = (h.0, all_exchange e h.1)

  pub all_put : (t : Time) (x : Course) (xs : List Course) → P x → AllByRecursion P xs → AllByRecursion P (put t x xs)
  all_put t x [] p h = (p, tt)
  all_put t x (y ∷ ys) p h =
      cond_both (behind t x y) (x ∷ y ∷ ys) (y ∷ put t x ys) (AllByRecursion P) (λ _. (p, h)) (λ _. (h.0, all_put t x ys p h.1))

  pub all_inserted : (xs : List Course) (i : ℕ) (x : Course) → P x → AllByRecursion P xs → AllByRecursion P (insert xs i x)
  all_inserted [] zero x p h = (p, tt)
  all_inserted [] (suc i) x p h = (p, tt)
  all_inserted (y ∷ ys) zero x p h = (p, h)
  all_inserted (y ∷ ys) (suc i) x p h = (h.0, all_inserted ys i x p h.1)

  pub all_without : (n : ℕ) (xs : List Course) → AllByRecursion P xs → AllByRecursion P (without n xs)
  all_without n [] h = tt
  all_without n (x ∷ xs) h = cond_both (eqb x.number n) xs (x ∷ without n xs) (AllByRecursion P) (λ t. h.1) (λ t. (h.0, all_without n xs h.1))

  pub all_removed : (xs : List Course) (i : ℕ) → AllByRecursion P xs → AllByRecursion P (remove xs i)
  all_removed [] zero h = tt
  all_removed [] (suc i) h = tt
  all_removed (x ∷ xs) zero h = h.1
  all_removed (x ∷ xs) (suc i) h = (h.0, all_removed xs i h.1)

-- ---- of each two
module _ (R : Course → Course → Type 0) where
  -- where R of the two holds the other way round too
  pub pairwise_exchange : {r f : Course} {xs ys : List Course} → (R r f → R f r) → Exchange r f xs ys → Pairwise R xs → Pairwise R ys
  pairwise_exchange back here s = ((back s.0.0, s.1.0), (s.0.1, s.1.1))
  pairwise_exchange back (there {x} e) s = (all_exchange (R x) e s.0, pairwise_exchange back e s.1)

  -- where R holds of the new one and of each that is there, either way round
  pub pairwise_put : (t : Time) (x : Course) (xs : List Course) → AllByRecursion (R x) xs → AllByRecursion (λ y. R y x) xs → Pairwise R xs → Pairwise R (put t x xs)
  pairwise_put t x [] before behind_it s = (tt, tt)
  pairwise_put t x (y ∷ ys) before behind_it s =
      let ih = pairwise_put t x ys before.1 behind_it.1 s.1 in
      cond_both (behind t x y) (x ∷ y ∷ ys) (y ∷ put t x ys) (Pairwise R) (λ _. (before, s)) (λ _. (all_put (R y) t x ys behind_it.0 s.0, ih))

  pub pairwise_inserted : (xs : List Course) (i : ℕ) (x : Course) → AllByRecursion (R x) xs → AllByRecursion (λ y. R y x) xs → Pairwise R xs → Pairwise R (insert xs i x)
  pairwise_inserted [] zero x before behind_it s = (tt, tt)
  pairwise_inserted [] (suc i) x before behind_it s = (tt, tt)
  pairwise_inserted (y ∷ ys) zero x before behind_it s = (before, s)
  pairwise_inserted (y ∷ ys) (suc i) x before behind_it s = (all_inserted (R y) ys i x behind_it.0 s.0, pairwise_inserted ys i x before.1 behind_it.1 s.1)

  pub pairwise_without : (n : ℕ) (xs : List Course) → Pairwise R xs → Pairwise R (without n xs)
  pairwise_without n [] s = tt
  pairwise_without n (x ∷ xs) s =
      cond_both (eqb x.number n) xs (x ∷ without n xs) (Pairwise R) (λ _. s.1) (λ _. (all_without (R x) n xs s.0, pairwise_without n xs s.1))

  pub pairwise_removed : (xs : List Course) (i : ℕ) → Pairwise R xs → Pairwise R (remove xs i)
  pairwise_removed [] zero s = tt
  pairwise_removed [] (suc i) s = tt
  pairwise_removed (x ∷ xs) zero s = s.1
  pairwise_removed (x ∷ xs) (suc i) s = (all_removed (R x) xs i s.0, pairwise_removed xs i s.1)

  -- by place
  pub pairwise_at : (xs : List Course) (i j : ℕ) (d : Course) → Pairwise R xs → i < j → j < length xs → R (get_or xs i d) (get_or xs j d)
  pairwise_at [] i j d s h l = absurd (omega arith)
  pairwise_at (x ∷ xs) i zero d s h l = absurd (omega arith)
  pairwise_at (x ∷ xs) zero (suc j) d s h l = All-get_or (R x) xs j d (omega arith) s.0
  pairwise_at (x ∷ xs) (suc i) (suc j) d s h l = pairwise_at xs i j d s.1 (omega arith) (omega arith)

  -- ---- of each two neighbours
  pub pairwise_near : (xs : List Course) → Pairwise R xs → Neighbours R xs
  pairwise_near [] s = tt
  pairwise_near (x ∷ []) s = tt
  pairwise_near (x ∷ y ∷ ys) s = (s.0.0, pairwise_near (y ∷ ys) s.1)

  -- neighbours are enough where the relation carries on
  pub near_pairwise : ((x y z : Course) → R x y → R y z → R x z) → (xs : List Course) → Neighbours R xs → Pairwise R xs
  near_pairwise carries [] n = tt
  near_pairwise carries (x ∷ []) n = (tt, tt)
  near_pairwise carries (x ∷ y ∷ ys) n =
      let ih = near_pairwise carries (y ∷ ys) n.1 in
      ((n.0, All-weaker (R y) (R x) (λ z h. carries x y z n.0 h) ys ih.0), ih)

-- ---- from one relation, or two, to another
all_both : {P Q R : Course → Type 0} → ((y : Course) → P y → Q y → R y) → (ys : List Course) → AllByRecursion P ys → AllByRecursion Q ys → AllByRecursion R ys
all_both f [] p q = tt
all_both f (y ∷ ys) p q = (f y p.0 q.0, all_both f ys p.1 q.1)

module _ (P Q R : Course → Course → Type 0) (f : (x y : Course) → P x y → Q x y → R x y) where
  pub pairwise_both : (xs : List Course) → Pairwise P xs → Pairwise Q xs → Pairwise R xs
  pairwise_both [] p q = tt
  pairwise_both (x ∷ xs) p q = (all_both {P = P x} {Q = Q x} {R = R x} (f x) xs p.0 q.0, pairwise_both xs p.1 q.1)

  pub near_both : (xs : List Course) → Neighbours P xs → Neighbours Q xs → Neighbours R xs
  near_both [] p q = tt
  near_both (x ∷ []) p q = tt
  near_both (x ∷ y ∷ ys) p q = (f x y p.0 q.0, near_both (y ∷ ys) p.1 q.1)

pub pairwise_weaker : (P R : Course → Course → Type 0) → ((x y : Course) → P x y → R x y) → (xs : List Course) → Pairwise P xs → Pairwise R xs
pairwise_weaker P R f xs p = pairwise_both P P R (λ x y h _. f x y h) xs p p
