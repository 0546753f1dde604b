use Rattle.std.proofs.Common.{◌≡◌, ◌<◌, ℕ, get_or, take}
use Rattle.dri_base.specs.Limits.{word_end}
use Rattle.dri_sarea.specs.Areas.{no_drawable}
use Rattle.dri_sarea.proofs.sarea.copied.Given as goal

abbrev pub invariant-loop-drawable : goal.invariant-loop-drawable
invariant-loop-drawable l = record {
  same : l.list.items ≡ take l.drawable-index l.drawables;
  small : (i : ℕ) → (get_or l.list.items i no_drawable).stamp < word_end;
}
