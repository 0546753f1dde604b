-- What is overwritten whole needs no copy.
use Rattle.std.proofs.Common.{◌∙◌}
use Rattle.dri_flip.proofs.Meant.{whole_alone, whole_held, whole_sides}
use Rattle.dri_flip.proofs.Pixels.{own_pair, pairs_own}
use Rattle.dri_flip.proofs.card.FlipCard.clear_whole.Goals as goal

pub returns-clause-held : goal.returns-clause-held
returns-clause-held g c = λ f holds.
    let inside = c.self.inside in
    let new = c.clear_all.new.target in
    whole_held inside c.args.self.now new.back new.depth c.args.rects.now c.args.colour c.args.depth f (own_pair inside.target.back inside.target.depth) c.self.view_is c.self.invariant c.clear_all.ensures.width c.clear_all.ensures.height new.same_width new.same_height c.requires.whole
    (c.clear_all.ensures.pairs (own_pair inside.target.back inside.target.depth) (pairs_own inside.target.back inside.target.depth c.own_pixels.ensures c.own_pixels-2.ensures))

pub returns-clause-others : goal.returns-clause-others
returns-clause-others g c = whole_alone c.self.inside c.args.self.now c.clear_all.new.target.back c.clear_all.new.target.depth c.self.view_is

pub returns-clause-sides : goal.returns-clause-sides
returns-clause-sides g c =
    let new = c.clear_all.new.target in
    whole_sides c.self.inside c.args.self.now new.back new.depth c.self.view_is c.self.invariant c.clear_all.ensures.width c.clear_all.ensures.height new.same_width new.same_height

pub invariant_of-self : goal.invariant_of-self
invariant_of-self g c =
    let fits = c.self.invariant in
    let new = c.clear_all.new.target in
    record {
      wide = fits.wide;
      high = fits.high;
      back_width = c.clear_all.ensures.width ∙ fits.back_width;
      back_height = c.clear_all.ensures.height ∙ fits.back_height;
      depth_width = new.same_width ∙ (c.clear_all.ensures.width ∙ fits.back_width);
      depth_height = new.same_height ∙ (c.clear_all.ensures.height ∙ fits.back_height);
      room = fits.room;
    }
