use Rattle.std.proofs.Common.{sym, ◌∙◌}
use Rattle.std.proofs.lemmas.List.{nil_from_length}
use Rattle.dri_clips.proofs.Lists.{no_part}
use Rattle.dri_clips.proofs.mending.mend_list.Goals as goal

pub returns-then-len-eq0-clause-patch : goal.returns-then-len-eq0-clause-patch
returns-then-len-eq0-clause-patch g c = no_part c.args.old.now c.args.area.now c.args.part.now c.in_ok-kept.kept _ (nil_from_length c.args.part.now (sym c.len.ensures ∙ c.if-len-eq0.true)) c.empty.ensures.region c.in_ok-kept.ensures.region
