-- The entries so far.
use Rattle.std.proofs.Common.{◌≡◌, ◌++◌, All, take}
use Rattle.std.specs.List.{flat_map}
use Rattle.dri_journal.specs.Journals.{FitsWords, entry_line}
use Rattle.dri_journal.proofs.print.push_entries.Given as goal

abbrev pub invariant-loop-entry : goal.invariant-loop-entry
invariant-loop-entry l = record {
  lines : l.bytes.items ≡ l.fn.bytes.items ++ flat_map entry_line (take l.entry-index l.entries);
  fit : All FitsWords (take l.entry-index l.entries);
}
