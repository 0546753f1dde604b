use Rattle.dri_base.proofs.WindowRanges.{no_window}
use Rattle.std.proofs.Common.{refl, ◌≡◌, take, arith, ap, map, ◌∙◌}
use Rattle.std.proofs.lemmas.Grind.{common_steps}
use Rattle.dri_clips.proofs.Placing.{entry_of, entries_keys, entries_values, inserted}
use Rattle.dri_clips.proofs.stack.Stack.from_windows.Goals as goal

pub invariant_of-result : goal.invariant_of-result
invariant_of-result c =
    let e : take c.loop-window.window-index c.args.windows.now ≡ c.args.windows.now = grind (arith, common_steps) in
    entries_keys c.args.windows.now _ (c.loop-window.invariant ∙ ap (map entry_of) e)

pub returns : goal.returns
returns c =
    let e : take c.loop-window.window-index c.args.windows.now ≡ c.args.windows.now = grind (arith, common_steps) in
    entries_values c.args.windows.now _ (c.loop-window.invariant ∙ ap (map entry_of) e)

pub loop-window-preserved : goal.loop-window-preserved
loop-window-preserved c = inserted c.args.windows.now c.loop-window.window-index _ _ no_window _ _ refl c.loop-window-test.true c.requires refl c.loop-window.invariant c.in_ok-insert.ensures.entries
