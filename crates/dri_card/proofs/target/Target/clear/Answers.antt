-- Both planes are filled.
use Rattle.dri_base.specs.Planes.{in_rect}
use Rattle.dri_plane.specs.Formats.{shown_by}
use Rattle.dri_plane.proofs.PairPlanes.{pairs_written}
use Rattle.dri_plane.proofs.Shown.{shown_filled}
use Rattle.dri_card.proofs.target.Target.clear.Goals as goal

pub returns-clause-pairs : goal.returns-clause-pairs
returns-clause-pairs g c = λ f holds.
    let F = g.F.ColourFormat in
    let old = c.args.self.now in
    let back = c.fill.new.self in
    let depth = c.fill-2.new.self in
    let shows = rw c.kept.ensures at (shown_filled F.all_shown F.shown g.met.F.ColourFormat.each_shown old.back back (in_rect c.args.rect.now) c.kept.result c.fill.ensures.pixels) in
    pairs_written (shown_by F.all_shown old.back) (shown_by F.all_shown back) old.depth depth (in_rect c.args.rect.now) (record { colour = F.shown (F.kept c.args.colour); depth = c.args.depth }) f
    (c.fill.ensures.width, c.fill.ensures.height) (c.fill-2.ensures.width, c.fill-2.ensures.height) shows c.fill-2.ensures.pixels holds
