-- What is left is the pixel rule.
use Rattle.std.proofs.Common.{◌≡◌, ℕ, ℤ, refl, subst, rules}
use Rattle.dri_base.specs.Fragments.{passes, shaded}
use Rattle.dri_model.specs.Words.{card_image}
use Rattle.dri_walk.specs.Drawings.{fragment_kept, is_drawn, own_colour, pair_left, unscissored}
use Rattle.dri_walk.specs.Samplings.{byte_in}
use Rattle.dri_walk.proofs.PixelRules.{drawing_is}
use Rattle.dri_walk.proofs.drawing.Drawing.new.Goals as goal
use Rattle.dri_walk.proofs.drawing.Drawing.new.Goals.{in-Flat, in-Smooth}

pub returns-clause-some : goal.returns-clause-some
returns-clause-some c =
    let t = c.args.triangle.now in
    let r = c.args.registers.now in
    let same : t ≡ c.in_ok-setup.setup = search rules in
    let colours : (x y : ℤ) → own_colour c.match-registers.result t x y ≡ shaded r.shade t x y = elim c.match-registers.branch [ in-Flat w ↦ λ x y. rw (w.result-is, w.in-Flat.is) refl | in-Smooth w ↦ λ x y. rw (w.result-is, w.in-Smooth.is) refl ] in
    let depths : (z depth : ℕ) → is_drawn c.new-2.result z depth ≡ passes r.depth_func z depth = c.new-2.ensures in
    λ kept.
    subst (λ s. pair_left kept (record { setup = s; depth_test = c.new-2.result; depth_write = r.depth_write; blend = r.blend; flat = c.match-registers.result; texture = c.new-3.result }) ≡ fragment_kept kept (unscissored r) (card_image (byte_in c.args.memory.now) r.bound) t) same
    (drawing_is c.pixel_rule.ensures kept r (card_image (byte_in c.args.memory.now) r.bound) t c.new-2.result c.match-registers.result c.new-3.result depths colours c.new-3.ensures)
