use Rattle.std.proofs.Common.{◌≡◌, ◌∙◌, sym, refl, subst}
use Rattle.std.specs.Prelude.{Contains}
use Rattle.std.proofs.lemmas.Option.{slice_get_within}
use Rattle.dri_base.specs.Ranges.{client_numbers, window_numbers}
use Rattle.dri_base.specs.Scenes.{script_of}
use Rattle.dri_base.specs.declared.scene.ClientScript.{ClientScript}
use Rattle.dri_core.specs.Runs.{after}
use Rattle.dri_journal.specs.Replays.{ReplayState, world_of}
use Rattle.dri_journal.proofs.Keeping.{some_one}
use Rattle.dri_journal.proofs.Whom.{draws_on, found, is_there}
use Rattle.dri_meaning.specs.Scripts.{ScriptInRange}
use Rattle.dri_meaning.proofs.ScriptRanges.{script_in_range}
use Rattle.dri_journal.proofs.replay.Replay.script.Goals as goal

pub unwrap-at-requires : goal.unwrap-at-requires
unwrap-at-requires c =
    let s = c.self.inside.scene.now in
    let has : Contains (client_numbers s.clients) c.args.client = subst (λ (v : ReplayState). Contains (client_numbers v.scene.clients) c.args.client) (sym c.self.view_is) c.requires in
    is_there s c.as_slice.result.now c.place_of.result c.args.client c.args.client c.as_slice.ensures refl c.place_of.ensures.there has

pub get-requires : goal.get-requires
get-requires c =
    let s = c.self.inside.scene.now in
    slice_get_within s.clients c.unwrap-at.result (script_of s c.args.client) (found s c.as_slice.result.now c.place_of.result c.unwrap-at.result c.args.client c.args.client c.unwrap-at.ensures c.as_slice.ensures refl c.place_of.ensures.script)

pub returns : goal.returns
returns c =
    let i = c.self.inside in let s = i.scene.now in let j = i.entries.items in let n = c.args.client in let at = c.unwrap-at.result in
    let there = found s c.as_slice.result.now c.place_of.result at n n c.unwrap-at.ensures c.as_slice.ensures refl c.place_of.ensures.script in
    let script : script_of s n ≡ c.get.result.now = some_one (sym there ∙ c.get.ensures) in
    rw (← c.self.view_is) (record {
      same = sym script;
      range = subst ScriptInRange script (script_in_range s at (script_of s n) c.self.invariant.scene there);
      window = subst (λ (p : ClientScript). Contains (window_numbers (after s j).stack) p.window) script (draws_on s j n at c.self.invariant.scene there);
    })
