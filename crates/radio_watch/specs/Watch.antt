-- A whole watch: from a script of what happened on the channel to the report on it.
use Rattle.std.specs.Prelude.{◌≡◌, ℕ, List, map, ◌⊎◌}
use Rattle.event_queue.specs.Queues.{Meaning}
use Rattle.call_sheet.specs.History.{LedTo}
use Rattle.call_sheet.specs.declared.call.Event.{Event}
use Rattle.radio_watch.specs.Script.{items}
use Rattle.radio_watch.specs.Journal.{Entry, item_of, log_from, Kept}
use Rattle.radio_watch.specs.Report.{report_text}

module _ {Q : Type 0} (m : Meaning Q ℕ) where
  -- On a sheet where the log leads, all that the script asks for was done, and has led to the queue q: there is a
  -- journal of it, and each of its calls was answered rightly after the log.
  pub record Done (log : List Event) (script : List ℕ) (q : Q) : Type 0 where
    pub journal : List Entry
    pub in_turn : map item_of journal ≡ items script
    pub led : LedTo m (log_from log journal) q

  -- all that the script asks for was done, and the report is the text of the journal of it
  pub record Reported (log : List Event) (script : List ℕ) (q : Q) (report : List ℕ) : Type 0 where
    pub done : Done log script q
    pub written : report ≡ report_text done.journal

  -- Where memory is wanting: nothing that the script asks for was done, or all of it, from the queue q to q'.
  abbrev pub NoneOrAllDone : List ℕ → Q → Q → Type 0
  NoneOrAllDone script q q' = (q' ≡ q) ⊎ ((log : List Event) → LedTo m log q → Done log script q')

-- The report is the text of a journal that was rightly kept of what the script asks for, on a sheet of
-- this capacity that awaits no line at first.
pub record Watched (capacity : ℕ) (script report : List ℕ) : Type 0 where
  pub journal : List Entry
  pub kept : Kept capacity (items script) journal
  pub written : report ≡ report_text journal
