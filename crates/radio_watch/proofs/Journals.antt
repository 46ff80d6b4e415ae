-- A journal that is being kept, item after item.
use Rattle.std.proofs.Common.{◌≡◌, ℕ, ◌+◌, ◌<◌, ◌≤◌, List, [], ◌∷◌, ◌++◌, map, length, get_or, set, take, drop, Ok, Err, refl, sym, ap, ap₂, ◌∙◌, subst, arith}
use Rattle.std.proofs.lemmas.List.{map_push, take_more, take_more_set, drop-set-lt}
use Rattle.event_queue.specs.Queues.{Meaning}
use Rattle.call_sheet.specs.History.{LedTo}
use Rattle.call_sheet.specs.declared.call.Event.{Event}
use Rattle.radio_watch.specs.Script.{Item}
use Rattle.radio_watch.specs.Journal.{Entry, item_of, log_from}

-- one more entry of a journal
log_push : (log : List Event) (xs : List Entry) (x : Entry) → log_from log (xs ++ x ∷ []) ≡ log_from (log_from log xs) (x ∷ [])
log_push log [] x = refl
log_push log (Ok event ∷ xs) x = log_push (event ∷ log) xs x
log_push log (Err unreadable ∷ xs) x = log_push log xs x

module _ {Q : Type 0} (m : Meaning Q ℕ) (items : List Item) (count : ℕ) (journal : List Entry) (q : Q) where
  -- i items were done, and their entries stand in the first lines of the journal, whose lines from `count` on are as
  -- they were; the queue q became q'
  pub record KeptSoFar (i : ℕ) (journal' : List Entry) (q' : Q) : Type 0 where
    pub in_turn : map item_of (take i journal') ≡ take i items
    pub past : drop count journal' ≡ drop count journal
    pub history : (log : List Event) → LedTo m log q → LedTo m (log_from log (take i journal')) q'
    pub sound : m.sound q → m.sound q'
    pub capacity : m.sound q → m.capacity q' ≡ m.capacity q
    pub keeps : m.keeps q q'

  -- before the first item
  pub kept_none : KeptSoFar 0 journal q
  kept_none = record { in_turn = refl; past = refl; history = λ log led. led; sound = λ s. s; capacity = λ s. refl; keeps = m.keeps_itself q }

  -- one item more
  pub kept_more : {i : ℕ} {journal' : List Entry} {q' q'' : Q} → KeptSoFar i journal' q' → (e : Entry) (d : Item) → item_of e ≡ get_or items i d → i < length items → i < count → i < length journal' → ((log : List Event) → LedTo m log q' → LedTo m (log_from log (e ∷ [])) q'') → (m.sound q' → m.sound q'') → (m.sound q' → m.capacity q'' ≡ m.capacity q') → m.keeps q' q'' → KeptSoFar (i + 1) (set journal' i e) q''
  kept_more {i} {journal'} {q'} {q''} h e d of there below room history sound capacity keeps =
      let pushed : take (i + 1) (set journal' i e) ≡ take i journal' ++ e ∷ [] = take_more_set journal' i e room in
      record {
        in_turn = ap (map item_of) pushed ∙ map_push item_of (take i journal') e ∙ ap₂ (λ (xs : List Item) (x : Item). xs ++ x ∷ []) h.in_turn of ∙ sym (take_more items i d there);
        past = drop-set-lt count journal' i e below ∙ h.past;
        history = λ log led. subst (λ (es : List Event). LedTo m es q'') (sym (ap (log_from log) pushed ∙ log_push log (take i journal') e)) (history _ (h.history log led));
        sound = λ s. sound (h.sound s);
        capacity = λ s. capacity (h.sound s) ∙ h.capacity s;
        keeps = m.keeps_on q q' q'' h.keeps keeps;
      }
