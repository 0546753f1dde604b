use Rattle.std.proofs.Common.{◌∙◌, ap}
use Rattle.std.specs.Prelude.{List}
use Rattle.dri_base.specs.declared.shape.Rect.{Rect}
use Rattle.dri_rect.specs.Pixels.{inside}
use Rattle.dri_clips.proofs.Lists.{list_put}
use Rattle.dri_clips.proofs.layout.Layout.put.Goals as goal

pub returns-clause-layout : goal.returns-clause-layout
returns-clause-layout c = record {
  wide = c.requires.layout.wide;
  high = c.requires.layout.high;
  ranged = c.requires.ranged;
  apart = c.requires.mended.apart;
  room = c.put_lists.ensures.room;
  clips = λ n b x y. ap (λ (rs : List Rect). inside rs x y) (c.put_lists.ensures.lists n b) ∙ list_put c.args.self.now.width c.args.self.now.height c.args.self.now.stack c.args.stack n _ _ (c.requires.layout.clips n b) (c.requires.mended.lists n b) x y;
  free = c.requires.mended.free;
}
