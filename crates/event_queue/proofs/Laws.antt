-- Laws of refusals and of queues, for whoever calls a queue.
use Rattle.std.proofs.Common.{◌≡◌, ℕ, ◌<◌, ◌≤◌, Bool, true, false, leb, List, [], ◌∷◌, is_some, Some, None, Ok, Err, Option, Result, sym, refl, ap, ◌∙◌, subst, arith}
use Rattle.std.proofs.lemmas.Bool.{leb-true, leb-false, le-leb, lt-leb}
use Rattle.event_queue.specs.Refusals.{Line, ◌when◌, topmost}
use Rattle.event_queue.specs.Queues.{Meaning, Only, Unchanged, Put, Dropped, Rekeyed, put_refusal}
use Rattle.event_queue.specs.declared.refusal.Refusal.{Refusal}
use Rattle.event_queue.specs.declared.refusal.Refusal.TheVariants.{NoSuchTicket, TicketHeld}

-- tables of refusals, by their first line

module _ {E : Type 0} where
  -- a line whose condition holds answers
  pub topmost_true : (e : E) (b : Bool) (below : List (Line E)) → b ≡ true → topmost (e when b ∷ below) ≡ Some e
  topmost_true e true below h = refl
  topmost_true e false below h = cc

  -- a line whose condition fails is passed over
  pub topmost_false : (e : E) (b : Bool) (below : List (Line E)) → b ≡ false → topmost (e when b ∷ below) ≡ topmost below
  topmost_false e true below h = cc
  topmost_false e false below h = refl

  -- where no refusal comes, the first line's condition fails
  pub topmost_none : (e : E) (b : Bool) (below : List (Line E)) → topmost (e when b ∷ below) ≡ None → b ≡ false
  topmost_none e true below h = cc
  topmost_none e false below h = refl

  -- where one comes from a table of one line, its condition holds, and it is that line's
  pub topmost_some : (e f : E) (b : Bool) → topmost (e when b ∷ []) ≡ Some f → (b ≡ true) × (f ≡ e)
  topmost_some e f true h = (refl, (cc))
  topmost_some e f false h = cc

  -- a number that is not below the capacity is refused
  pub refused_past : (e : E) (capacity n : ℕ) (below : List (Line E)) → capacity ≤ n → topmost (e when leb capacity n ∷ below) ≡ Some e
  refused_past e capacity n below h = topmost_true e _ below (le-leb capacity n h)

  -- a number below the capacity is not
  pub accepted_below : (e : E) (capacity n : ℕ) (below : List (Line E)) → n < capacity → topmost (e when leb capacity n ∷ below) ≡ topmost below
  accepted_below e capacity n below h = topmost_false e _ below (lt-leb capacity n h)

  pub below_accepted : (e : E) (capacity n : ℕ) (below : List (Line E)) → topmost (e when leb capacity n ∷ below) ≡ None → n < capacity
  below_accepted e capacity n below h = leb-false capacity n (topmost_none e _ below h)

  pub past_refused : (e f : E) (capacity n : ℕ) → topmost (e when leb capacity n ∷ []) ≡ Some f → capacity ≤ n
  past_refused e f capacity n h = leb-true capacity n (topmost_some e f _ h).0

-- what a queue's calls leave

module _ {Q K : Type 0} (m : Meaning Q K) where
  -- a sound queue means what it means
  pub unchanged_itself : (q : Q) → m.sound q → Unchanged m q q
  unchanged_itself q s = record { sound = s; capacity = refl; same = λ i. refl }

  -- so does the queue that it is
  pub unchanged_is : {q q' : Q} → q' ≡ q → m.sound q → Unchanged m q q'
  unchanged_is {q} e s = subst (λ x. Unchanged m q x) (sym e) (unchanged_itself q s)

  -- a queue that means what it did, at a ticket without a key
  pub only_unchanged : (q q' : Q) (n : ℕ) → Unchanged m q q' → m.held q n ≡ None → Only m q q' n None
  only_unchanged q q' n u h = record { sound = u.sound; capacity = u.capacity; there = u.same n ∙ h; others = λ i other. u.same i }

  -- where the ticket has none, nothing changes
  pub only_itself : (q : Q) (n : ℕ) → m.sound q → m.held q n ≡ None → Only m q q n None
  only_itself q n s h = record { sound = s; capacity = refl; there = h; others = λ i other. refl }

  -- of two changes at one ticket the later one counts
  pub only_again : {q q' q'' : Q} {n : ℕ} {a b : Option K} → Only m q q' n a → Only m q' q'' n b → Only m q q'' n b
  only_again o p =
      record {
        sound = p.sound;
        capacity = p.capacity ∙ o.capacity;
        there = p.there;
        others = λ i other. p.others i other ∙ o.others i other;
      }

  -- a drop, whatever it answers, leaves the ticket without a key and the others as they were
  pub dropped_only : (q q' : Q) (n : ℕ) (r : Result (Option K) Refusal) → Dropped m q q' n r → m.sound q → Only m q q' n None
  dropped_only q q' n (Ok (Some key)) d s = (d s).2
  dropped_only q q' n (Ok None) d s = only_unchanged q q' n (d s).2 (d s).1
  dropped_only q q' n (Err e) d s =
      subst (λ x. Only m q x n None) (sym d.0) (only_itself q n s (m.within q s n (past_refused NoSuchTicket e _ n (d.1 s))))

  -- an accepted drop is of a ticket number
  pub dropped_below : (q q' : Q) (n : ℕ) (old : Option K) → Dropped m q q' n (Ok old) → m.sound q → n < m.capacity q
  dropped_below q q' n (Some key) d s = below_accepted NoSuchTicket _ n [] (d s).0
  dropped_below q q' n None d s = below_accepted NoSuchTicket _ n [] (d s).0

  -- and answers what the ticket held
  pub dropped_held : (q q' : Q) (n : ℕ) (old : Option K) → Dropped m q q' n (Ok old) → m.sound q → m.held q n ≡ old
  dropped_held q q' n (Some key) d s = (d s).1
  dropped_held q q' n None d s = (d s).1

  -- a refused one is of no ticket number
  pub dropped_past : (q q' : Q) (n : ℕ) (e : Refusal) → Dropped m q q' n (Err e) → m.sound q → m.capacity q ≤ n
  dropped_past q q' n e d s = past_refused NoSuchTicket e _ n (d.1 s)

  -- a ticket number without a key can be given one
  pub put_accepted : (q : Q) (n : ℕ) → n < m.capacity q → m.held q n ≡ None → put_refusal m q n ≡ None
  put_accepted q n h e = accepted_below NoSuchTicket _ n _ h ∙ topmost_false TicketHeld _ [] (ap is_some e)

  -- so a put there, whatever it answers, has given it the key
  pub put_only : (q q' : Q) (n : ℕ) (key : K) (r : Result Unit Refusal) → Put m q q' n key r → m.sound q → n < m.capacity q → m.held q n ≡ None → Only m q q' n (Some key)
  put_only q q' n key (Ok _) p s h e = (p s).1
  put_only q q' n key (Err x) p s h e =
      let a : put_refusal m q n ≡ Some x = p.1 s in
      let b : put_refusal m q n ≡ None = put_accepted q n h e in
      cc

  -- a drop that was accepted, and then a put: the ticket holds the key that was put
  pub replaced_only : (q q' q'' : Q) (n : ℕ) (key : K) (old : Option K) (r : Result Unit Refusal) → Dropped m q q' n (Ok old) → Put m q' q'' n key r → m.sound q → Only m q q'' n (Some key)
  replaced_only q q' q'' n key old r d p s =
      let o : Only m q q' n None = dropped_only q q' n (Ok old) d s in
      let h : n < m.capacity q = dropped_below q q' n old d s in
      let k : n < m.capacity q' = omega (arith, o.capacity) in
      only_again o (put_only q' q'' n key r p o.sound k o.there)

  -- a rekey of a ticket number gives it the key, whatever it answers
  pub rekeyed_only : (q q' : Q) (n : ℕ) (key : K) (r : Result Unit Refusal) → Rekeyed m q q' n key r → m.sound q → n < m.capacity q → Only m q q' n (Some key)
  rekeyed_only q q' n key (Ok u) p s h = (p s).1
  rekeyed_only q q' n key (Err e) p s h = let past = past_refused NoSuchTicket e _ n (p.1 s) in absurd (omega (arith, past, h))
