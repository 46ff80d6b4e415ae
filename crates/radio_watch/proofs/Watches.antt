-- A watch that was stood from beginning to end.
use Rattle.std.proofs.Common.{◌≡◌, ℕ, min, List, [], map, length, take, sym, refl, ap, ◌∙◌, subst, arith}
use Rattle.std.proofs.lemmas.List.{take_all}
use Rattle.event_queue.specs.Queues.{Meaning, Empty}
use Rattle.call_sheet.specs.History.{AllRight, LedTo}
use Rattle.call_sheet.specs.declared.call.Event.{Event}
use Rattle.radio_watch.specs.Script.{Item, items}
use Rattle.radio_watch.specs.Journal.{Entry, item_of, log_from, Kept}
use Rattle.radio_watch.specs.Watch.{Done, Reported, Watched}

module _ {Q : Type 0} (m : Meaning Q ℕ) (script : List ℕ) (q' : Q) where
  -- a journal that has a line for each item, kept to its end, is one of the whole script
  pub whole : (asked : List Item) (blank journal : List Entry) (count : ℕ) → asked ≡ items script → length blank ≡ length asked → length journal ≡ length blank → count ≡ min (length asked) (length blank) → map item_of (take count journal) ≡ take count asked → (log : List Event) → LedTo m (log_from log (take count journal)) q' → (done : Done m log script q') × (done.journal ≡ journal)
  whole asked blank journal count read room same counted in_turn log led =
      let all : take count journal ≡ journal = take_all count journal (omega arith) in (
        record {
          journal = journal;
          in_turn = ap (map item_of) (sym all) ∙ in_turn ∙ take_all count asked (omega arith) ∙ read;
          led = subst (λ (es : List Entry). LedTo m (log_from log es) q') all led;
        },
        refl,
      )

  -- what was reported on a sheet that awaited no line, told without the queue
  watched : (capacity : ℕ) (report : List ℕ) → m.capacity q' ≡ capacity → Reported m [] script q' report → Watched capacity script report
  watched capacity report e r = record {
    journal = r.done.journal;
    kept = record { in_turn = r.done.in_turn; right = subst (λ n. AllRight n (log_from [] r.done.journal)) e r.done.led.right };
    written = r.written;
  }

  -- A watch that was stood on a new sheet, q, over an empty queue, e, is one on a sheet that awaits no line: the premises
  -- are what setting the queue up, making the sheet and standing the watch promise.
  pub watched_anew : (e q : Q) (capacity : ℕ) (report : List ℕ) → Empty m e → m.capacity e ≡ capacity → (m.sound e → LedTo m [] q) → (m.sound e → m.capacity q ≡ m.capacity e) → (m.sound q → m.capacity q' ≡ m.capacity q) → ((log : List Event) → LedTo m log q → Reported m log script q' report) → Watched capacity script report
  watched_anew e q capacity report empty size led kept stayed reported =
      let begun : LedTo m [] q = led empty.sound in
      watched capacity report (stayed begun.sound ∙ kept empty.sound ∙ size) (reported [] begun)
