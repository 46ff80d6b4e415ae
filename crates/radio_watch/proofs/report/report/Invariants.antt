use Rattle.std.proofs.Common.{◌≡◌, ◌++◌, drop, string_bytes}
use Rattle.radio_watch.specs.Report.{report_text}
use Rattle.radio_watch.proofs.report.report.Given as goal

-- what was written, and then the report on the entries that are left, is the whole report
abbrev pub invariant-loop-entry : goal.invariant-loop-entry
invariant-loop-entry l = string_bytes l.text ++ report_text (drop l.entry-index l.entries) ≡ report_text l.entries
