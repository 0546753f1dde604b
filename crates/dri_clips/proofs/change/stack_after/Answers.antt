use Rattle.std.proofs.Common.{◌∙◌, ap}
use Rattle.dri_model.specs.Stacks.{changed}
use Rattle.dri_clips.proofs.Restacking.{after_allowed}
use Rattle.dri_clips.proofs.change.stack_after.Goals as goal

pub changed-requires : goal.changed-requires
changed-requires c = rw c.in_ok-next.ensures c.requires.there

pub returns : goal.returns
returns c = c.changed.ensures ∙ ap (changed c.args.change.now) c.in_ok-next.ensures ∙ after_allowed c.args.change.now c.args.stack.now c.requires.allowed
