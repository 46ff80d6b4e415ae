-- From a text to a trace, and from a trace to a text.
use Rattle.std.specs.Prelude.{◌≡◌, ℕ, List, Err}
use Rattle.std.specs.List.{AllByRecursion}
use Rattle.trace.specs.declared.records.Record.{Record}
use Rattle.trace.specs.declared.whole.ReadError.{ReadError}
use Rattle.trace.specs.declared.whole.ReadError.TheVariants.{Stopped}
use Rattle.trace.specs.declared.whole.ReadError.TheVariants as reading
use Rattle.trace.specs.Layout.{FieldsFit, trace_of}
use Rattle.trace.specs.Walks.{decode}
use Rattle.trace_text.specs.declared.text.TextError.{TextError}
use Rattle.trace_text.specs.declared.text.TextError.TheVariants.{Memory, Unreadable}
use Rattle.trace_text.specs.Text.{text_of, IsUnreadable}

-- the text and the trace are of the same records
pub record Match (text trace : List ℕ) : Type 0 where
  pub records : List Record
  pub fit : AllByRecursion FieldsFit records
  pub text_is : text ≡ text_of records
  pub trace_is : trace ≡ trace_of records

-- why a text gives no trace, unless memory was wanting
abbrev pub TextStops : List ℕ → TextError → Type 0
TextStops text (Unreadable number) = IsUnreadable text number
TextStops text Memory = Unit {0}

-- why a trace gives no text, unless memory was wanting
abbrev pub TraceStops : List ℕ → ReadError → Type 0
TraceStops trace (Stopped stop) = decode trace ≡ Err stop
TraceStops trace reading.Memory = Unit {0}
