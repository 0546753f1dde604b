use Rattle.std.proofs.Common.{◌≡◌, ◌++◌, ◌∷◌, [], arith, ap, length, set, ◌∙◌, ℕ}
use Rattle.std.specs.Prelude.{Option}
use Rattle.dri_clips.specs.declared.mending.Patch.{Patch}
use Rattle.dri_clips.proofs.Lists.{put_first, put_some}
use Rattle.dri_clips.proofs.layout.put_lists.Goals as goal

pub loop-list-init : goal.loop-list-init
loop-list-init c = put_first _ _ c.requires.clips c.requires.lists

pub loop-list-preserved-in-Some-list : goal.loop-list-preserved-in-Some-list
loop-list-preserved-in-Some-list c =
    let long : c.len.result ≡ length c.pop.new.self.items = omega (arith, c.len.ensures, c.pop.new.self.ok) in
    put_some c.args.clips.now.items c.loop-list.clips.items _ c.args.lists.items c.loop-list.lists.items c.pop.new.self.items c.in-Some-list.patch c.loop-list.invariant
    (c.in-Some.ensures.items ∙ ap (λ (o : Option Patch). c.pop.new.self.items ++ o ∷ []) c.in-Some-list.is)
    (ap (λ (k : ℕ). set c.loop-list.clips.items k c.in-Some-list.patch.clips) long)
