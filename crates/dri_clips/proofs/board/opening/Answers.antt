use Rattle.std.proofs.Common.{◌∙◌, refl}
use Rattle.dri_clips.proofs.Placing.{apart_pairs, ones}
use Rattle.dri_clips.proofs.board.opening.Goals as goal

pub from_windows-requires : goal.from_windows-requires
from_windows-requires g c = rw c.as_slice.ensures (apart_pairs c.args.scene.now.windows c.requires.scene.windowed.apart)

pub returns : goal.returns
returns g c = record {
  width = c.in_ok-new.ensures.width;
  height = c.in_ok-new.ensures.height;
  root = refl;
  stack = c.in_ok-new.ensures.stack ∙ c.in_ok-stack.ensures ∙ c.as_slice.ensures;
  stamps = λ i n. ones 65 n i;
  counter = refl;
}
