-- Lists through an exchange, an insert and a remove, and the searches for a place.
use Rattle.std.proofs.Common.{◌≡◌, ℕ, zero, suc, ◌+◌, ◌<◌, ◌≤◌, Bool, true, false, not, cond, eqb, ltb, ◌≢◌, List, [], ◌∷◌, length, get_or, set, Some, None, Option, is_some, sym, refl, ap, ◌∙◌, subst, inl, ⊎_elim, add-one, arith, length-set, get_or-set_other}
use Rattle.std.specs.List.{remove, insert, swap, position_or_len}
use Rattle.std.specs.Option.{unwrap_or}
use Rattle.std.proofs.lemmas.List.Edits.{swap_is, length-insert, length-remove, get_or-insert_below, get_or-insert_above, get_or-remove_below, get_or-remove_above}
use Rattle.std.proofs.lemmas.List.Sums.{prefix_len-le-length, position_or_len_is}
use Rattle.std.proofs.Math.Numerals.{one-add}
use Rattle.std.proofs.lemmas.Bool.{false≢true, eqb-true, eq-eqb, ne_eqb, ltb-true, ltb-false, lt-ltb, le-ltb, cond-true, cond-false, cond_both, cases_lt}
use Rattle.fairway.specs.declared.course.Course.{Course}
use Rattle.fairway.specs.Times.{Time}
use Rattle.fairway.specs.Courses.{faster}
use Rattle.fairway.specs.Behind.{behind}
use Rattle.fairway.specs.Orders.{Apart, Sorted, put, load, Exchange, here, there}
use Rattle.fairway.proofs.Lists.{nobody}
use Rattle.fairway.proofs.Sorting.{holds_put}
use Rattle.fairway.proofs.Pairwise.{all_exchange, all_put, all_removed, pairwise_without}
use Rattle.fairway.proofs.Advance.{loses_one}
use Rattle.fairway.specs.Rosters.{course_of, without}
use Rattle.fairway.proofs.Rosters.{found, of_absent, apart_exchange, apart_put, apart_removed}
use Rattle.sorted_list.specs.Places.{place_in, NoneBefore, entry_place}
use Rattle.sorted_list.specs.Rosters.{well}
use Rattle.event_queue.proofs.Options.{none_some, some_same}
use Rattle.sorted_list.specs.RostersLemmas.{Fits, cert_is, cert_past, well_ranged, well_apart, to_well}
use Rattle.sorted_list.specs.Rosters.{certificate_at}

-- ---- an exchange
sets : (xs : List Course) (i : ℕ) (r f : Course) → certificate_at xs i ≡ Some (r, f) → Exchange r f xs (set (set xs i f) (suc i) r)
sets [] i r f e = absurd (none_some e)
sets (x ∷ []) i r f e = absurd (none_some e)
sets (x ∷ y ∷ ys) zero r f e =
    let q = some_same e in
    subst (λ z. Exchange r f (z ∷ y ∷ ys) (f ∷ r ∷ ys)) (sym (ap (λ z. z.0) q))
    (subst (λ z. Exchange r f (r ∷ z ∷ ys) (f ∷ r ∷ ys)) (sym (ap (λ z. z.1) q)) here)
sets (x ∷ y ∷ ys) (suc i) r f e = there (sets (y ∷ ys) i r f e)

exchanged_sets : (xs : List Course) (i : ℕ) (d : Course) → suc i < length xs → swap xs i (i + 1) ≡ set (set xs i (get_or xs (suc i) d)) (suc i) (get_or xs i d)
exchanged_sets xs i d h = rw add-one (sym (swap_is xs i (suc i) d (omega arith) h))

pub exchange : (xs : List Course) (i : ℕ) (r f : Course) → suc i < length xs → certificate_at xs i ≡ Some (r, f) → Exchange r f xs (swap xs i (i + 1))
exchange xs i r f h e =
    let q = some_same (sym (cert_is xs i r h) ∙ e) in
    subst (Exchange r f xs) (sym (exchanged_sets xs i r h ∙ ap (λ z. set (set xs i z) (suc i) (get_or xs i r)) (ap (λ z. z.1) q) ∙ ap (λ z. set (set xs i f) (suc i) z) (ap (λ z. z.0) q))) (sets xs i r f e)

two_ways : {A : Type 0} (p q : Bool) (x y z : A) → (p ≡ true → q ≡ true → ⊥) → cond p x (cond q y z) ≡ cond q y (cond p x z)
two_ways true true x y z h = absurd (h refl refl)
two_ways true false x y z h = refl
two_ways false true x y z h = refl
two_ways false false x y z h = refl

pub roster_exchange : {r f : Course} {xs ys : List Course} → Exchange r f xs ys → Apart xs → (n : ℕ) → course_of ys n ≡ course_of xs n
roster_exchange {r} {f} (here {xs}) a n =
    sym (two_ways (eqb r.number n) (eqb f.number n) (Some r) (Some f) (course_of xs n) (λ p q. a.0.0 (eqb-true r.number n p ∙ sym (eqb-true f.number n q))))
roster_exchange (there {x} e) a n = ap (λ o. cond (eqb x.number n) (Some x) o) (roster_exchange e a.1 n)

pub length_exchange : {r f : Course} {xs ys : List Course} → Exchange r f xs ys → length ys ≡ length xs
length_exchange here = refl
length_exchange (there e) = ap suc (length_exchange e)

-- certificates away from the two stay
same_sets : (xs : List Course) (i k : ℕ) (a b : Course) → k ≢ i → k ≢ suc i → suc k ≢ i → certificate_at (set (set xs i a) (suc i) b) k ≡ certificate_at xs k
same_sets xs i k a b p q r =
    let ys = set (set xs i a) (suc i) b in
    let l : length ys ≡ length xs = length-set (set xs i a) (suc i) b ∙ length-set xs i a in
    let s : suc k ≢ suc i = λ e. p (omega arith) in
    let u : get_or ys k a ≡ get_or xs k a = get_or-set_other (set xs i a) (suc i) k b a q ∙ get_or-set_other xs i k a a p in
    let v : get_or ys (suc k) a ≡ get_or xs (suc k) a = get_or-set_other (set xs i a) (suc i) (suc k) b a s ∙ get_or-set_other xs i (suc k) a a r in
    ⊎_elim
    (λ (h : suc k < length xs). cert_is ys k a (omega arith) ∙ ap (λ z. Some (z, get_or ys (suc k) a)) u ∙ ap (λ z. Some (get_or xs k a, z)) v ∙ sym (cert_is xs k a h))
    (λ (h : length xs ≤ suc k). cert_past ys k (omega arith) ∙ sym (cert_past xs k h))
    (cases_lt (suc k) (length xs))

pub same_certs : (xs : List Course) (i k : ℕ) → suc i < length xs → (k ≡ i → ⊥) → (k ≡ i + 1 → ⊥) → (k + 1 ≡ i → ⊥) → certificate_at (swap xs i (i + 1)) k ≡ certificate_at xs k
same_certs [] i k h p q r = absurd (omega arith)
same_certs (x ∷ xs) i k h p q r =
    ap (λ z. certificate_at z k) (exchanged_sets (x ∷ xs) i x h) ∙ same_sets (x ∷ xs) i k (get_or (x ∷ xs) (suc i) x) (get_or (x ∷ xs) i x) p (λ e. q (omega arith)) (λ e. r (omega arith))

pub passed : (xs ys : List Course) (i : ℕ) → suc i < length xs → ys ≡ swap xs i (i + 1) → ((r f : Course) → certificate_at xs i ≡ Some (r, f) → faster r f ≡ true) → well xs ≡ true → (well ys ≡ true) × (load xs ≡ load ys + 1)
passed [] ys i h e F w = absurd (omega arith)
passed (x ∷ xs) ys i h e F w =
    let r = get_or (x ∷ xs) i x in
    let f = get_or (x ∷ xs) (suc i) x in
    let c = cert_is (x ∷ xs) i x h in
    let X : Exchange r f (x ∷ xs) ys = subst (Exchange r f (x ∷ xs)) (sym e) (exchange (x ∷ xs) i r f h c) in
    (to_well ys (all_exchange Fits X (well_ranged (x ∷ xs) w)) (apart_exchange X (well_apart (x ∷ xs) w)), omega (arith, (loses_one r f (x ∷ xs) ys (F r f c) X).1))

-- ---- one put in
pub well_put : (t : Time) (x : Course) (xs : List Course) → Fits x → course_of xs x.number ≡ None → well xs ≡ true → well (put t x xs) ≡ true
well_put t x xs r n w =
    to_well (put t x xs) (all_put Fits t x xs r (well_ranged xs w)) (apart_put t x xs (of_absent x.number xs n) (well_apart xs w))

pub roster_put : (t : Time) (x : Course) (xs : List Course) (k : ℕ) → (k ≡ x.number → ⊥) → course_of (put t x xs) k ≡ course_of xs k
roster_put t x [] k n = cond-false (eqb x.number k) (Some x) None (ne_eqb x.number k (λ q. n (sym q)))
roster_put t x (y ∷ ys) k n =
    let ih = roster_put t x ys k n in
    cond_both (behind t x y) (x ∷ y ∷ ys) (y ∷ put t x ys) (λ l. course_of l k ≡ course_of (y ∷ ys) k)
    (λ _. cond-false (eqb x.number k) (Some x) (course_of (y ∷ ys) k) (ne_eqb x.number k (λ q. n (sym q))))
    (λ _. ap (λ o. cond (eqb y.number k) (Some y) o) ih)

pub roster_new : (t : Time) (x : Course) (xs : List Course) → well (put t x xs) ≡ true → course_of (put t x xs) x.number ≡ Some x
roster_new t x xs w = found (put t x xs) x (well_apart (put t x xs) w) ((holds_put t x xs x).1 (inl refl))

pub length_put : (t : Time) (x : Course) (xs : List Course) → length (put t x xs) ≡ length xs + 1
length_put t x [] = refl
length_put t x (y ∷ ys) =
    let ih = length_put t x ys in
    cond_both (behind t x y) (x ∷ y ∷ ys) (y ∷ put t x ys) (λ l. length l ≡ length (y ∷ ys) + 1) (λ _. omega arith) (λ _. omega (arith, ih))

-- ---- one taken out
pub well_removed : (xs : List Course) (i : ℕ) → well xs ≡ true → well (remove xs i) ≡ true
well_removed xs i w = to_well (remove xs i) (all_removed Fits xs i (well_ranged xs w)) (apart_removed xs i (well_apart xs w))

pub sorted_without : (t : Time) (n : ℕ) (xs : List Course) → Sorted t xs → Sorted t (without n xs)
sorted_without t = pairwise_without (λ x y. behind t x y ≡ true)

-- ---- the searches
-- whether a course has the number n
abbrev has_number : ℕ → Course → Bool
has_number n x = eqb x.number n

-- the first with the number, where there is one
first_there : (n : ℕ) (xs : List Course) → position_or_len (has_number n) xs < length xs →
    (remove xs (position_or_len (has_number n) xs) ≡ without n xs) × ((d : Course) → course_of xs n ≡ Some (get_or xs (position_or_len (has_number n) xs) d))
first_there n [] h = absurd (omega arith)
first_there n (x ∷ xs) h =
    let i = position_or_len (has_number n) xs in
    (elim (eqb x.number n) as (λ b. cond (not b) (1 + i) 0 < suc (length xs) → (remove (x ∷ xs) (cond (not b) (1 + i) 0) ≡ cond b xs (x ∷ without n xs)) × ((d : Course) → cond b (Some x) (course_of xs n) ≡ Some (get_or (x ∷ xs) (cond (not b) (1 + i) 0) d))) [
      | true ↦ λ _. (refl, (λ d. refl))
      | false ↦ λ l. let k = first_there n xs (omega arith) in (rw (one-add i) (ap (λ ys. x ∷ ys) k.0), (λ d. rw (one-add i) (k.1 d)))
    ]) h

none_there : (n : ℕ) (xs : List Course) → length xs ≤ position_or_len (has_number n) xs → course_of xs n ≡ None
none_there n [] h = refl
none_there n (x ∷ xs) h =
    let i = position_or_len (has_number n) xs in
    (elim (eqb x.number n) as (λ b. suc (length xs) ≤ cond (not b) (1 + i) 0 → cond b (Some x) (course_of xs n) ≡ None) [
      | true ↦ λ l. absurd (omega arith)
      | false ↦ λ l. none_there n xs (omega arith)
    ]) h

-- what the place of the vessel n tells
abbrev Place : List Course → ℕ → Option ℕ → Type 0
Place xs n None = course_of xs n ≡ None
Place xs n (Some i) = (i < length xs) × (remove xs i ≡ without n xs) × ((d : Course) → course_of xs n ≡ Some (get_or xs i d))

place_found : (n : ℕ) (xs : List Course) → Place xs n (place_in n xs)
place_found n xs =
    let i = position_or_len (has_number n) xs in
    cond_both (ltb i (length xs)) (Some i) None (Place xs n)
    (λ t. let h = ltb-true i (length xs) t in let k = first_there n xs h in (h, k.0, k.1))
    (λ f. none_there n xs (ltb-false i (length xs) f))

pub placed_at : (n : ℕ) (xs : List Course) (i : ℕ) → place_in n xs ≡ Some i →
    (i < length xs) × (remove xs i ≡ without n xs) × ((d : Course) → course_of xs n ≡ Some (get_or xs i d))
placed_at n xs i e = subst (Place xs n) e (place_found n xs)

pub not_placed : (n : ℕ) (xs : List Course) → place_in n xs ≡ None → course_of xs n ≡ None
not_placed n xs e = subst (Place xs n) e (place_found n xs)

-- the first with the number, by what stands before it
pub found_first : (n : ℕ) (xs : List Course) (i : ℕ) → i < length xs → NoneBefore xs i n → (get_or xs i nobody).number ≡ n → Some i ≡ place_in n xs
found_first n xs i h b e =
    let p : position_or_len (has_number n) xs ≡ i =
    position_or_len_is (has_number n) xs i nobody (omega arith) (λ k l. ne_eqb _ n (b k nobody l)) (λ l. eq-eqb _ n e) in
    let t : ltb (position_or_len (has_number n) xs) (length xs) ≡ true = rw p (lt-ltb i (length xs) h) in
    sym (cond-true (ltb (position_or_len (has_number n) xs) (length xs)) (Some (position_or_len (has_number n) xs)) None t ∙ ap Some p)

pub found_none : (n : ℕ) (xs : List Course) → NoneBefore xs (length xs) n → None ≡ place_in n xs
found_none n xs b =
    let p : position_or_len (has_number n) xs ≡ length xs =
    position_or_len_is (has_number n) xs (length xs) nobody (omega arith) (λ k l. ne_eqb _ n (b k nobody l)) (λ l. absurd (omega arith)) in
    let f : ltb (position_or_len (has_number n) xs) (length xs) ≡ false = rw p (le-ltb (length xs) (length xs) (omega arith)) in
    sym (cond-false (ltb (position_or_len (has_number n) xs) (length xs)) (Some (position_or_len (has_number n) xs)) None f)

pub there_is : (n : ℕ) (xs : List Course) (o : Option ℕ) → o ≡ place_in n xs → is_some o ≡ true → (d : Course) × (course_of xs n ≡ Some d)
there_is n xs None p e = absurd (false≢true e)
there_is n xs (Some i) p e = (get_or xs i nobody, (placed_at n xs i (sym p)).2 nobody)

pub there_is_none : (n : ℕ) (xs : List Course) (o : Option ℕ) → o ≡ place_in n xs → is_some o ≡ false → course_of xs n ≡ None
there_is_none n xs None p e = not_placed n xs (sym p)
there_is_none n xs (Some i) p e = absurd (false≢true (sym e))

-- the first place whose course the new one is behind
put_there : (t : Time) (c : Course) (xs : List Course) → insert xs (position_or_len (behind t c) xs) c ≡ put t c xs
put_there t c [] = refl
put_there t c (y ∷ ys) =
    let i = position_or_len (behind t c) ys in
    elim (behind t c y) as (λ b. insert (y ∷ ys) (cond (not b) (1 + i) 0) c ≡ cond b (c ∷ y ∷ ys) (y ∷ put t c ys)) [
      | true ↦ refl
      | false ↦ rw (one-add i) (ap (λ l. y ∷ l) (put_there t c ys))
    ]

pub put_found : (t : Time) (c : Course) (xs : List Course) → insert xs (entry_place t c xs) c ≡ put t c xs
put_found t c xs =
    let i = position_or_len (behind t c) xs in
    cond_both (ltb i (length xs)) (Some i) None (λ o. insert xs (unwrap_or o (length xs)) c ≡ put t c xs)
    (λ _. put_there t c xs)
    (λ f. ap (λ k. insert xs k c) (omega (arith, ltb-false i (length xs) f, prefix_len-le-length (λ y. not (behind t c y)) xs)) ∙ put_there t c xs)

-- certificates before a place stay
before_same : (xs ys : List Course) (d : Course) (p k : ℕ) → p ≤ length xs → p ≤ length ys → ((j : ℕ) → j < p → get_or ys j d ≡ get_or xs j d) → k + 1 < p → certificate_at ys k ≡ certificate_at xs k
before_same xs ys d p k hx hy e h =
    cert_is ys k d (omega arith) ∙ ap (λ z. Some (z, get_or ys (suc k) d)) (e k (omega arith)) ∙ ap (λ z. Some (get_or xs k d, z)) (e (suc k) (omega arith)) ∙ sym (cert_is xs k d (omega arith))

pub certs_in : (xs ys : List Course) (p : ℕ) (c : Course) → p ≤ length xs → ys ≡ insert xs p c → (k : ℕ) → k + 1 < p → certificate_at ys k ≡ certificate_at xs k
certs_in xs ys p c h e k l =
    before_same xs ys c p k h (omega (arith, ap length e, length-insert xs p c h)) (λ j i. ap (λ z. get_or z j c) e ∙ get_or-insert_below xs p c c j i h) l

pub certs_out : (xs ys : List Course) (d : Course) (p : ℕ) → p < length xs → ys ≡ remove xs p → (k : ℕ) → k + 1 < p → certificate_at ys k ≡ certificate_at xs k
certs_out xs ys d p h e k l =
    before_same xs ys d p k (omega arith) (omega (arith, ap length e, length-remove xs p h)) (λ j i. ap (λ z. get_or z j d) e ∙ get_or-remove_below xs p d j i h) l

-- one taken out at i and put in at p: those past both stay
same_after : (xs zs ys : List Course) (d x : Course) (i p : ℕ) → i < length xs → p ≤ length zs → zs ≡ remove xs i → ys ≡ insert zs p x → (j : ℕ) → i ≤ j → p ≤ j → get_or ys (j + 1) d ≡ get_or xs (j + 1) d
same_after xs zs ys d x i p h w e g j l m =
    ap (λ z. get_or z (j + 1) d) g ∙ get_or-insert_above zs p x d j m w ∙ ap (λ z. get_or z j d) e ∙ get_or-remove_above xs i d j l h

pub certs_after : (xs zs ys : List Course) (d x : Course) (i p : ℕ) → i < length xs → p ≤ length zs → zs ≡ remove xs i → ys ≡ insert zs p x → (k : ℕ) → i < k → p < k → certificate_at ys k ≡ certificate_at xs k
certs_after xs zs ys d x i p h w e g zero l m = absurd (omega arith)
certs_after xs zs ys d x i p h w e g (suc j) l m =
    let a = same_after xs zs ys d x i p h w e g j (omega arith) (omega arith) in
    let b = same_after xs zs ys d x i p h w e g (j + 1) (omega arith) (omega arith) in
    let a' : get_or ys (suc j) d ≡ get_or xs (suc j) d = subst (λ k. get_or ys k d ≡ get_or xs k d) (add-one j) a in
    let b' : get_or ys (suc (suc j)) d ≡ get_or xs (suc (suc j)) d = subst (λ k. get_or ys k d ≡ get_or xs k d) (add-one (j + 1) ∙ ap suc (add-one j)) b in
    let q : length ys ≡ length xs = omega (arith, ap length g, length-insert zs p x w, ap length e, length-remove xs i h) in
    ⊎_elim
    (λ (s : suc (suc j) < length xs). cert_is ys (suc j) d (omega arith) ∙ ap (λ z. Some (z, get_or ys (suc (suc j)) d)) a' ∙ ap (λ z. Some (get_or xs (suc j) d, z)) b' ∙ sym (cert_is xs (suc j) d s))
    (λ (s : length xs ≤ suc (suc j)). cert_past ys (suc j) (omega arith) ∙ sym (cert_past xs (suc j) s))
    (cases_lt (suc (suc j)) (length xs))
