-- The paints so far.
use Rattle.std.proofs.Common.{ℕ, ◌≡◌, take, nat_lt, not}
use Rattle.std.specs.Prelude.{◌&&◌}
use Rattle.dri_base.specs.declared.colour.Rgb.{Rgb}
use Rattle.dri_clips.specs.Paints.{filled}
use Rattle.dri_flip.specs.Calls.{OnlyShown}
use Rattle.dri_flip.specs.Meanings.{KeepSides, Shows}
use Rattle.dri_flip.proofs.showing.paint.Given as goal

abbrev pub invariant-loop-paint : goal.invariant-loop-paint
invariant-loop-paint g l = record {
  shown : (shown : ℕ → ℕ → Rgb) → Shows l.fn.card shown → Shows l.card (filled (take l.paint-index l.paints) shown);
  others : OnlyShown l.fn.card l.card;
  sides : KeepSides l.fn.card l.card;
  owed : l.card.owed ≡ (l.fn.card.owed && not (nat_lt 0 l.paint-index));
}
