-- What is read out of each plane and laid in it is carried; and so is what the colours show.
use Rattle.std.proofs.Common.{All, sym, ◌∙◌, w32}
use Rattle.std.proofs.lemmas.Int.{to_z-of_z}
use Rattle.dri_plane.specs.Formats.{shown_by}
use Rattle.dri_plane.specs.Grids.{Becomes}
use Rattle.dri_plane.specs.Moves.{StaysInside}
use Rattle.dri_card.specs.Drawing.{carried_by}
use Rattle.dri_card.proofs.Carrying.{carried_shows, pairs_carried, plane_carried, shown_carried}
use Rattle.dri_card.proofs.lifts.Lifts.carry.Goals as goal

pub returns-clause-shown : goal.returns-clause-shown
returns-clause-shown g c = λ shown shows.
    let F = g.F.ColourFormat in
    let rects = c.args.rects.now in
    let old = c.args.front.now in
    let new = c.write_in.new.front in
    let same_dx = to_z-of_z w32 c.args.dx c.ranges.dx in
    let same_dy = to_z-of_z w32 c.args.dy c.ranges.dy in
    let becomes : Becomes old new (carried_by rects c.args.dx c.args.dy) =
    plane_carried old new rects c.args.dx c.args.dy c.read_out.new.self.front.pixels c.read_out.ensures.front (λ f is. rw (same_dx, same_dy) at (c.write_in.ensures.front_laid f is)) in
    carried_shows (shown_by F.all_shown old) (shown_by F.all_shown new) rects c.args.dx c.args.dy shown c.write_in.ensures.front.0 c.write_in.ensures.front.1
    (shown_carried F.all_shown F.shown g.met.F.ColourFormat.each_shown (F.kept (record { r = 0; g = 0; b = 0 })) old new rects c.args.dx c.args.dy c.requires.stay becomes) shows

pub returns-clause-held : goal.returns-clause-held
returns-clause-held g c = λ f holds.
    let F = g.F.ColourFormat in
    let rects = c.args.rects.now in
    let old = c.args.target.now in
    let new = c.write_in.new.target in
    let wide = c.write_in.ensures.target.0 in
    let high = c.write_in.ensures.target.1 in
    let same_dx = to_z-of_z w32 c.args.dx c.ranges.dx in
    let same_dy = to_z-of_z w32 c.args.dy c.ranges.dy in
    let stay : All (StaysInside c.args.dx c.args.dy old.back.width old.back.height) rects = rw (c.requires.width, c.requires.height) c.requires.stay in
    let becomes : Becomes old.back new.back (carried_by rects c.args.dx c.args.dy) =
    plane_carried old.back new.back rects c.args.dx c.args.dy c.read_out.new.self.back.pixels c.read_out.ensures.back (λ h is. rw (same_dx, same_dy) at (c.write_in.ensures.back_laid h is)) in
    let deepens : Becomes old.depth new.depth (carried_by rects c.args.dx c.args.dy) =
    plane_carried old.depth new.depth rects c.args.dx c.args.dy c.read_out.new.self.depth.pixels c.read_out.ensures.depth (λ h is. rw (same_dx, same_dy) at (c.write_in.ensures.depth_laid h is)) in
    pairs_carried (shown_by F.all_shown old.back) (shown_by F.all_shown new.back) old.depth new.depth rects c.args.dx c.args.dy f
    wide high (new.same_width ∙ wide ∙ sym old.same_width) (new.same_height ∙ high ∙ sym old.same_height)
    (shown_carried F.all_shown F.shown g.met.F.ColourFormat.each_shown (F.kept (record { r = 0; g = 0; b = 0 })) old.back new.back rects c.args.dx c.args.dy stay becomes) deepens holds
