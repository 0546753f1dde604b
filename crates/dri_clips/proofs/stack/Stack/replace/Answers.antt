use Rattle.std.proofs.Common.{sym, subst, slice_get}
use Rattle.std.specs.Prelude.{List, IfSome, ◌≡◌}
use Rattle.dri_base.specs.declared.scene.Window.{Window}
use Rattle.dri_clips.proofs.Placing.{replaced_keys, replaced_values}
use Rattle.dri_clips.proofs.stack.Stack.replace.Goals as goal

pub invariant_of-self : goal.invariant_of-self
invariant_of-self c = replaced_keys _ c.args.at c.args.window c.self.invariant (subst (λ (ws : List Window). IfSome (slice_get ws c.args.at) (λ w. c.args.window.number ≡ w.number)) (sym c.self.view_is) c.requires.same)

pub returns : goal.returns
returns c = rw (← c.self.view_is) (replaced_values _ c.args.at c.args.window)
