-- On a card that keeps each colour as it is a run leaves the world as it ever does.
use Rattle.std.proofs.Common.{◌≡◌, List, [], ◌∷◌, refl, sym, ap, ◌∙◌, ℕ, zero, suc, ◌+◌, ◌-◌, None, Some, Option}
use Rattle.dri_base.proofs.RangeLemmas.{IsWellFormed}
use Rattle.dri_base.specs.declared.command.Command.{Command}
use Rattle.dri_base.specs.declared.command.Command.TheVariants.{Clear, Triangle}
use Rattle.dri_base.specs.declared.journal.Entry.{Entry}
use Rattle.dri_base.specs.declared.journal.Entry.TheVariants.{Run}
use Rattle.dri_base.specs.declared.scene.ClientScript.{ClientScript}
use Rattle.dri_base.specs.declared.scene.Scene.{Scene}
use Rattle.dri_card16.specs.PixelRules.{drawn_at_with, drawn_with, plain_rule, solo_between_with, solo_frame_with, solo_with}
use Rattle.dri_card16.specs.RuleRuns.{after_entries_with, after_entry_with, after_with, back_with}
use Rattle.dri_core.proofs.PlaneSteps.{plane_step_at}
use Rattle.dri_core.proofs.Sound.{Sound, sound_kept, sound_opened}
use Rattle.dri_core.specs.EntryTable.{after_entry}
use Rattle.dri_core.specs.PlaneSteps.{IsPlaneStep, back_by}
use Rattle.dri_core.specs.Runs.{HoldRun, LegalEntries, after, after_entries}
use Rattle.dri_core.specs.Solo.{blank, drawn_at, drawn_by, frame, image_at, solo, solo_between, solo_frame}
use Rattle.dri_core.specs.Worlds.{World, opening}
use Rattle.dri_base.specs.Fragments.{Rules, rules_of}
use Rattle.dri_base.specs.declared.colour.Pixel.{Pixel}
use Rattle.dri_base.specs.States.{state_at}
use Rattle.dri_base.specs.Texels.{Image}
use Rattle.std.specs.Prelude.{pred, slice_get, ℤ}

drawn_as_ever : (r : Rules) (image : Option Image) (command : Option Command) (x y : ℤ) (under : Pixel) → drawn_with plain_rule r image command x y under ≡ drawn_by r image command x y under
drawn_as_ever r image (Some (Clear colour depth)) x y under = refl
drawn_as_ever r image (Some (Triangle t)) x y under = refl
drawn_as_ever r image _ x y under = refl

back_as_ever : (s : Scene) (w : World) (e : Entry) (x y : ℕ) → back_with plain_rule s w e x y ≡ back_by s w e x y
back_as_ever s w (Run c i) x y = rw drawn_as_ever refl
back_as_ever s w _ x y = refl

entry_as_ever : (s : Scene) (w : World) (e : Entry) → IsPlaneStep s w e → after_entry_with plain_rule s w e ≡ after_entry s w e
entry_as_ever s w e step = λ i. record (after_entry s w e) {
  front = λ x y. (sym (step.front x y)) i;
  back = λ x y. (back_as_ever s w e x y ∙ sym (step.back x y)) i;
}

entries_as_ever : (s : Scene) (w : World) (es : List Entry) → IsWellFormed s → Sound s w → LegalEntries s w es → after_entries_with plain_rule s w es ≡ after_entries s w es
entries_as_ever s w [] good sound legal = refl
entries_as_ever s w (e ∷ es) good sound legal =
    ap (λ u. after_entries_with plain_rule s u es) (entry_as_ever s w e (plane_step_at s w e good sound legal.0))
    ∙ entries_as_ever s (after_entry s w e) es good (sound_kept s w e good sound legal.0) legal.1

pub as_ever : (s : Scene) (journal : List Entry) → IsWellFormed s → HoldRun s journal → after_with plain_rule s journal ≡ after s journal
as_ever s journal good run = entries_as_ever s (opening s) journal good (sound_opened s good) run

-- and a script alone
at_as_ever : (p : ClientScript) (i : ℕ) (x y : ℤ) (under : Pixel) → drawn_at_with plain_rule p i x y under ≡ drawn_at p i x y under
at_as_ever p i = drawn_as_ever (rules_of (state_at p.commands i)) (image_at p i) (slice_get p.commands (pred i))

solo_as_ever : (p : ClientScript) (first n : ℕ) (x y : ℤ) → solo_with plain_rule p first n x y ≡ solo p first n x y
solo_as_ever p first zero x y = at_as_ever p first x y blank
solo_as_ever p first (suc n) x y = at_as_ever p (first + suc n) x y (solo_with plain_rule p first n x y) ∙ ap (drawn_at p (first + suc n) x y) (solo_as_ever p first n x y)

between_as_ever : (p : ClientScript) (f : Option (ℕ × ℕ)) (x y : ℤ) → solo_between_with plain_rule p f x y ≡ solo_between p f x y
between_as_ever p None x y = refl
between_as_ever p (Some f) x y = ap (λ (v : Pixel). Some v.colour) (solo_as_ever p f.0 (f.1 - suc f.0) x y)

pub frame_as_ever : (p : ClientScript) (k : ℕ) (x y : ℤ) → solo_frame_with plain_rule p k x y ≡ solo_frame p k x y
frame_as_ever p k x y = between_as_ever p (frame p.commands k) x y
