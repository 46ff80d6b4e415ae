-- The mends of an advance, one after the other, up to its limit.
use Rattle.std.proofs.Common.{◌≡◌, ℕ, ◌+◌, ◌<◌, ◌≤◌, true, false, ◌⊎◌, List, [], ◌∷◌, ◌++◌, length, set, take, slice_index_or, Some, sym, refl, ap, ◌∙◌, subst, inl, inr, ⊎_elim, arith}
use Rattle.std.proofs.lemmas.Bool.{cases_Bool, false≢true}
use Rattle.std.proofs.lemmas.Grind.{common_steps}
use Rattle.event_queue.specs.Queues as queues
use Rattle.fairway.specs.Times.{◌≤ᵗ◌}
use Rattle.fairway.specs.Courses.{faster}
use Rattle.fairway.specs.Meetings.{level}
use Rattle.fairway.specs.Stamps.{time_of, earlier, BelowOne}
use Rattle.fairway.specs.StampsLemmas.{proper, not_later, sooner, carries, asymmetric}
use Rattle.fairway.specs.Standing.{NotLevelBefore}
use Rattle.fairway.specs.declared.course.Course.{Course}
use Rattle.fairway.specs.declared.stamp.Stamp.{Stamp}
use Rattle.fairway.proofs.Advance.{due_faster}
use Rattle.fairway.proofs.Meetings.{not_level_yet}
use Rattle.kinetic.specs.Structures as structures
use Rattle.kinetic.specs.Structures.{InOrder, Lasting, NoneDue}
use Rattle.board.specs.Tickets.{Ticket}
use Rattle.board.specs.Passings.{Midway, NextMend, Passings, Arrived, Written, row_of}
use Rattle.board.specs.Passings.Passings.{none, more}
use Rattle.board.specs.declared.call.Row.{Row}
use Rattle.board.proofs.Meetings.{not_before, has_level, due_level}

-- b is after a and not after c, and so is c after a
pub later_on : (a b c : Stamp) → earlier a b ≡ true → earlier c b ≡ false → earlier a c ≡ true
later_on a b c t h = ⊎_elim (λ e. e) (λ e. absurd (false≢true (sym (carries b c a h e) ∙ t))) (cases_Bool (earlier a c))

row_by : Stamp → ℕ → ℕ → Row
row_by at r f = record { at = at; rear = r; front = f }

same_row : (row : Row) (r f : Course) → row.rear ≡ r.number → row.front ≡ f.number → row_of row.at r f ≡ row
unfolding row_by
same_row row r f a b = ap (λ z. row_by row.at z f.number) (sym a) ∙ ap (row_by row.at row.rear) (sym b)

module _ {S Q : Type 0} (m : structures.Meaning S) (n : queues.Meaning Q Ticket) where
  -- so many mends were made since s0 stood at u, with these rows
  pub record Way (u limit : Stamp) (s0 s : S) (q : Q) (count : ℕ) (rows : List Row) : Type 0 where
    pub now : Stamp
    pub midway : Midway m n now s q
    pub load : m.load s + count ≤ m.load s0
    pub reached : earlier limit now ≡ false
    pub begun : ((s ≡ s0) × (now ≡ u) × (count ≡ 0)) ⊎ (earlier u now ≡ true)
    pub passings : Passings m u limit s0 now rows s

  pub way_none : (u limit : Stamp) (s : S) (q : Q) → Midway m n u s q → earlier limit u ≡ false → Way u limit s s q 0 []
  way_none u limit s q mid e = record { now = u; midway = mid; load = omega arith; reached = e; begun = inl (refl, refl, refl); passings = none }

  pub way_more : (u limit : Stamp) (s0 s s' : S) (q q' : Q) (k : ℕ) (rows : List Row) (row : Row) → NoneDue m (time_of u) s0 → Way u limit s0 s q k rows →
      ((v : ℕ) → m.roster s' v ≡ m.roster s v) → ((v : Stamp) → Midway m n v s q → NextMend m n v limit s s' q' row) → Way u limit s0 s' q' (k + 1) (rows ++ (row ∷ []))
  way_more u limit s0 s s' q q' k rows row nd w roster next =
      let x = next w.now w.midway in
      let after : earlier u row.at ≡ true = ⊎_elim
      (λ b. subst (λ z. earlier z row.at ≡ true) b.1 (x.strict (subst (λ z. NoneDue m (time_of z) s) (sym b.1) (subst (λ z. NoneDue m (time_of u) z) (sym b.0) nd))))
      (λ b. later_on u w.now row.at b x.onward) w.begun in
      let l = w.load in
      let f = x.load in
      record {
        now = row.at;
        midway = x.midway;
        load = omega (arith, l, f);
        reached = x.within;
        begun = inr after;
        passings = subst (λ z. Passings m u limit s0 row.at (rows ++ (z ∷ [])) s') (same_row row x.rear x.front x.rear_is x.front_is) (more x.number x.rear x.front row.at w.passings x.pair x.meets after x.onward x.within roster x.mended);
      }

  module _ (ordered : InOrder m) (lasting : Lasting m) where
    -- none is left up to the limit
    pub arrives : (u limit : Stamp) (s0 s : S) (q q' : Q) (k : ℕ) (rows : List Row) → (w : Way u limit s0 s q k (take k rows)) → BelowOne limit → Midway m n w.now s q' →
        ((i : ℕ) (r f : Course) (at : Stamp) → m.certificate s i ≡ Some (r, f) → level r f ≡ Some at → earlier limit at ≡ true) → Arrived m n u limit s0 s q' k rows
    arrives u limit s0 s q q' k rows w below mid left =
        let late : time_of w.now ≤ᵗ time_of limit = not_later w.now limit mid.below_one w.reached in
        let leveled : (i : ℕ) (r f : Course) → m.certificate s i ≡ Some (r, f) → faster r f ≡ true → (at : Stamp) × (level r f ≡ Some at) =
        λ i r f c F. has_level (time_of w.now) (proper w.now) r f F (not_before (time_of w.now) r f (ordered (time_of w.now) s (proper w.now) mid.stands i r f c)) in
        let not_yet : (i : ℕ) (r f : Course) → m.certificate s i ≡ Some (r, f) → NotLevelBefore (time_of limit) r f =
        λ i r f c F. let l = leveled i r f c F in not_level_yet r f l.0 l.1 (time_of limit) (not_later limit l.0 below (asymmetric limit l.0 (left i r f l.0 c l.1))) F in
        record {
          midway = record {
            below_one = below;
            sound = mid.sound;
            room = mid.room;
            stands = lasting (time_of w.now) (time_of limit) s (proper w.now) (proper limit) late mid.stands not_yet;
            tickets = mid.tickets;
          };
          none_due = λ i r f c d.
              let l = leveled i r f c (due_faster (time_of limit) r f d) in
              let a = sooner limit l.0 below (left i r f l.0 c l.1) in
              let b = due_level (time_of limit) (proper limit) r f l.0 l.1 d in
              absurd (omega (arith, a, b));
          load = w.load;
          strict = λ p. ⊎_elim (λ b. let z = b.2 in absurd (omega (arith, p, z))) (λ b. later_on u w.now limit b w.reached) w.begun;
          last = w.now;
          passings = w.passings;
        }

-- one row more
pub written_more : (k : ℕ) (old rows : List Row) (row : Row) → k < length rows → Written k old rows → Written (k + 1) old (set rows k row)
written_more k old rows row lt w =
    let s = w.size in
    record {
      size = grind (arith, common_steps, s);
      within = omega (arith, s, lt);
      beyond = λ j d le. let b = w.beyond j d (omega (arith, le)) in let ne : k < j = omega (arith, le) in set_past rows k j row d ne ∙ b;
    }
  where
    set_past : (rows : List Row) (k j : ℕ) (row d : Row) → k < j → slice_index_or (set rows k row) j d ≡ slice_index_or rows j d
    set_past rows k j row d h = grind (arith, common_steps)
