-- The scene is the generator's, and so in range.
use Rattle.std.proofs.Common.{subst, sym}
use Rattle.dri_base.specs.Ranges.{InRange}
use Rattle.dri_scene.proofs.Generated.{generator_in_range, of_parts}
use Rattle.dri_scene.proofs.generator.make_scene.Goals as goal

pub returns-clause-scene : goal.returns-clause-scene
returns-clause-scene c = of_parts c.args.n c.in_ok-windows.windows c.in_ok-clients.clients c.in_ok-changes.changes c.new.result c.in_ok-windows.ensures c.in_ok-clients.ensures c.in_ok-changes.ensures c.new.ensures

pub returns-clause-range : goal.returns-clause-range
returns-clause-range c = subst InRange (sym (returns-clause-scene c)) (generator_in_range c.args.n c.requires)
