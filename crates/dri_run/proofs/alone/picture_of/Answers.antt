-- The script and the window that were found are the client's.
use Rattle.std.proofs.Common.{◌≡◌, ◌∙◌, refl, sym}
use Rattle.std.proofs.lemmas.Option.{same_Some, slice_get_within}
use Rattle.dri_base.specs.Scenes.{script_of}
use Rattle.dri_meaning.proofs.ScriptRanges.{script_in_range}
use Rattle.dri_run.proofs.Framed.{found_script, no_frame, not_found, own_window, window_ranged, window_there}
use Rattle.dri_run.proofs.alone.picture_of.Goals as goal

pub returns-in_default-clause-no_frame : goal.returns-in_default-clause-no_frame
returns-in_default-clause-no_frame c =
    (λ _. not_found c.args.scene.now c.as_slice.result.now c.args.client c.args.frame c.place_of.result c.as_slice.ensures c.in_default.not-Some c.place_of.ensures.there, λ _. refl)

pub get-script-requires : goal.get-script-requires
get-script-requires c =
    slice_get_within c.args.scene.now.clients c.in-Some.at (script_of c.args.scene.now c.args.client) (found_script c.args.scene.now c.as_slice.result.now c.args.client c.in-Some.at c.as_slice.ensures c.in-Some.ensures.script)

pub unwrap-window-requires : goal.unwrap-window-requires
unwrap-window-requires c = window_there c.args.scene.now c.in-Some.at c.get-script.result.now c.as_slice-2.result.now c.window_in.result c.requires c.get-script.ensures c.as_slice-2.ensures c.window_in.ensures

pub solo_picture-requires-clause-script : goal.solo_picture-requires-clause-script
solo_picture-requires-clause-script c = script_in_range c.args.scene.now c.in-Some.at c.get-script.result.now c.requires c.get-script.ensures

pub solo_picture-requires-clause-width : goal.solo_picture-requires-clause-width
solo_picture-requires-clause-width c =
    let s = c.args.scene.now in
    let own = own_window s c.get-script.result.now.window c.as_slice-2.result.now c.window_in.result c.unwrap-window.result c.as_slice-2.ensures c.window_in.ensures c.unwrap-window.ensures in
    (window_ranged s.windows c.get-script.result.now.window c.unwrap-window.result c.requires.windowed.each own).wide

pub solo_picture-requires-clause-height : goal.solo_picture-requires-clause-height
solo_picture-requires-clause-height c =
    let s = c.args.scene.now in
    let own = own_window s c.get-script.result.now.window c.as_slice-2.result.now c.window_in.result c.unwrap-window.result c.as_slice-2.ensures c.window_in.ensures c.unwrap-window.ensures in
    (window_ranged s.windows c.get-script.result.now.window c.unwrap-window.result c.requires.windowed.each own).high

pub returns-clause-no_frame : goal.returns-clause-no_frame
returns-clause-no_frame c =
    let s = c.args.scene.now in
    let there = found_script s c.as_slice.result.now c.args.client c.in-Some.at c.as_slice.ensures c.in-Some.ensures.script in
    let is : script_of s c.args.client ≡ c.get-script.result.now = same_Some (script_of s c.args.client) c.get-script.result.now (sym there ∙ c.get-script.ensures) in
    no_frame s c.args.client c.args.frame c.get-script.result.now _ is c.solo_picture.ensures.no_frame
