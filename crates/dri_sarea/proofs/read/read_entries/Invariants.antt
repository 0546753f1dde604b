use Rattle.std.proofs.Common.{◌≡◌, ◌<◌, ℕ, get_or, length}
use Rattle.dri_sarea.specs.Areas.{no_region}
use Rattle.dri_sarea.specs.Layouts.{pieces, entry_fields, entry_values}
use Rattle.dri_sarea.specs.Images.{numbers_at}
use Rattle.dri_sarea.proofs.read.read_entries.Given as goal

abbrev pub invariant-loop-i : goal.invariant-loop-i
invariant-loop-i l = record {
  values : numbers_at l.bytes 2216 (pieces (entry_fields l.count) l.i) ≡ pieces (λ k. entry_values l.count k (get_or l.list.items k no_region)) l.i;
  size : length l.list.items ≡ l.i;
  unused : (k : ℕ) → l.count < k → get_or l.list.items k no_region ≡ no_region;
}
