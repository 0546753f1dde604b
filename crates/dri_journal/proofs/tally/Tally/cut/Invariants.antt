-- The frames of the scripts so far are cut as they are to be, and the others stand as before.
use Rattle.std.proofs.Common.{◌≡◌, ◌≤◌, ℕ, length}
use Rattle.std.specs.Prelude.{slice_get}
use Rattle.dri_journal.specs.Tallies.{is_cut}
use Rattle.dri_journal.proofs.Cutting.{AreCutBefore}
use Rattle.dri_journal.proofs.tally.Tally.cut.Given as goal

abbrev pub invariant-loop-at : goal.invariant-loop-at
invariant-loop-at l = record {
  room : length l.self.standings.items ≡ length l.fn.self.standings.items;
  before : AreCutBefore (is_cut l.windows l.whole) l.clients l.at l.fn.self.standings.items l.self.standings.items;
  behind : (i : ℕ) → l.at ≤ i → slice_get l.self.standings.items i ≡ slice_get l.fn.self.standings.items i;
  frames : l.self.frames ≡ l.fn.self.frames;
  stood : l.self.stood ≡ l.fn.self.stood;
}
