use Rattle.std.proofs.Common.{◌∙◌, sym}
use Rattle.dri_clips.proofs.Lists.{all_named}
use Rattle.dri_clips.proofs.layout.Layout.new.Goals as goal

pub mend-requires-clause-others : goal.mend-requires-clause-others
mend-requires-clause-others g c = all_named c.in_ok-layout.layout.stack ∙ sym (all_named c.args.stack)
