-- What a deed makes of the planes of a card with a pixel rule of its own is what its entry makes of them.
use Rattle.std.proofs.Common.{◌≡◌, ◌<◌, ℕ, List, Bool, true, false, if◌then◌else◌, Option, Some, None, refl, ◌∙◌, sym, ap}
use Rattle.dri_base.specs.Fragments.{rules_of}
use Rattle.dri_base.specs.Ranges.{InRange}
use Rattle.dri_base.specs.Scenes.{command_at, commands_of, script_of, textures_of}
use Rattle.dri_base.specs.States.{state_at}
use Rattle.dri_base.specs.Texels.{own_image}
use Rattle.dri_base.specs.declared.colour.Pixel.{Pixel}
use Rattle.dri_base.specs.declared.command.Command.{Command}
use Rattle.dri_base.specs.declared.command.Command.TheVariants as Command_is
use Rattle.dri_base.specs.declared.journal.Entry.{Entry}
use Rattle.dri_base.specs.declared.journal.Entry.TheVariants as Entry_is
use Rattle.dri_base.specs.declared.scene.Scene.{Scene}
use Rattle.dri_card16.proofs.Differing.{differ_after}
use Rattle.dri_card16.proofs.Planes.{back_kept, kept_after}
use Rattle.dri_card16.specs.Following.{back_made_with, front_made_with}
use Rattle.dri_card16.specs.PixelRules.{KeepsForGood, PixelRule, kept_pair}
use Rattle.dri_card16.specs.RuleRuns.{after_with, back_with, front_with}
use Rattle.dri_core.specs.EntryTable.{LegalEntry}
use Rattle.dri_core.specs.Frames.{across, down}
use Rattle.dri_core.specs.PlaneSteps.{back_by, front_by}
use Rattle.dri_core.specs.Runs.{HoldRun, after, client_of}
use Rattle.dri_core.specs.Solo.{image_at}
use Rattle.dri_core.specs.Worlds.{World, clips_in}
use Rattle.dri_journal.specs.Deeds.{Does, deed_by}
use Rattle.dri_journal.specs.declared.deed.Deed.{Deed}
use Rattle.dri_journal.specs.declared.deed.Deed.TheVariants as Deed_is
use Rattle.dri_replay.proofs.Lifted.{across_same, back_lifted, clips_same, down_same, front_lifted, planed, state_same, with_entry}
use Rattle.dri_replay.specs.Makings.{back_made, clips_now}

-- a pair of a kept colour is all that is kept of it
pub pair_kept : (rule : PixelRule) (p : Pixel) → rule.kept p.colour ≡ p.colour → kept_pair rule.kept p ≡ p
pair_kept rule p is = λ k. record { colour = is k; depth = p.depth }

-- where nothing is written, what is there is all that is kept
left : (rule : PixelRule) (b : Bool) (p : Pixel) → rule.kept p.colour ≡ p.colour → kept_pair rule.kept p ≡ (if b then p else p)
left rule true p is = pair_kept rule p is
left rule false p is = pair_kept rule p is

-- and where a pair is, what is kept of it
written : (rule : PixelRule) (a b : Bool) (p q : Pixel) → a ≡ b → rule.kept q.colour ≡ q.colour → kept_pair rule.kept (if a then p else q) ≡ (if b then kept_pair rule.kept p else q)
written rule a true p q same is = ap (λ (c : Bool). kept_pair rule.kept (if c then p else q)) same
written rule a false p q same is = ap (λ (c : Bool). kept_pair rule.kept (if c then p else q)) same ∙ pair_kept rule q is

module _ (rule : PixelRule) (keeps : KeepsForGood rule) (s : Scene) (j : List Entry) (good : InRange s) (run : HoldRun s j) where
  -- the world that the entries leave on the card
  abbrev w : World
  w = after_with rule s j

  is : planed s j w.back w.front ≡ w
  is = sym (differ_after rule s j)

  clips : (c i : ℕ) → LegalEntry s (after s j) (Entry_is.Run c i) → (x y : ℕ) → clips_now (with_entry s j (Entry_is.Run c i)) c x y ≡ clips_in s w c x y
  clips c i legal x y = clips_same s j good run c i legal x y ∙ ap (λ (u : World). clips_in s u c x y) is

  under : (x y : ℕ) → rule.kept (w.back x y).colour ≡ (w.back x y).colour
  under = (kept_after rule s j keeps).back

  -- back after the run of a command
  back_ran : (c i : ℕ) → LegalEntry s (after s j) (Entry_is.Run c i) → (o : Option Command) → command_at s c i ≡ o → (x y : ℕ) →
      back_made_with rule (with_entry s j (Entry_is.Run c i)) c (deed_by o) w.back x y ≡ back_with rule s w (Entry_is.Run c i) x y
  back_ran c i legal (Some (Command_is.Clear colour depth)) e x y =
      rw e (written rule (clips_now (with_entry s j (Entry_is.Run c i)) c x y) (clips_in s w c x y) (record { colour = colour; depth = depth }) (w.back x y) (clips c i legal x y) (under x y))
  back_ran c i legal (Some (Command_is.Triangle t)) e x y =
      let st = state_same s j good run c i legal t e in
      (λ k. if clips_same s j good run c i legal x y k then rule.triangle (rules_of (st k)) (own_image (textures_of s c) (st k).bound) t (across_same s j good run c i legal x k) (down_same s j good run c i legal y k) (w.back x y) else w.back x y)
      ∙ ap (λ (u : World). if clips_in s u c x y then rule.triangle (rules_of (state_at (commands_of s c) i)) (image_at (script_of s c) i) t (across s u c x) (down s u c y) (w.back x y) else w.back x y) is
      ∙ rw e refl
  back_ran c i legal None e x y = rw e (left rule (clips_in s w c x y) (w.back x y) (under x y))
  back_ran c i legal (Some Command_is.Swap) e x y = rw e (left rule (clips_in s w c x y) (w.back x y) (under x y))
  back_ran c i legal (Some Command_is.Yield) e x y = rw e (left rule (clips_in s w c x y) (w.back x y) (under x y))
  back_ran c i legal (Some Command_is.Die) e x y = rw e (left rule (clips_in s w c x y) (w.back x y) (under x y))
  back_ran c i legal (Some (Command_is.Set setting)) e x y = rw e (left rule (clips_in s w c x y) (w.back x y) (under x y))

  module _ (e : Entry) (deed : Deed) (legal : LegalEntry s (after s j) e) (does : Does s (after s j) e deed) where
    -- front after an entry
    pub front_made : (x y : ℕ) → x < s.width → y < s.height → front_made_with rule (with_entry s j e) (client_of e) deed w.back w.front x y ≡ front_with rule s w e x y
    front_made x y column row = ap rule.kept (front_lifted s j good run e deed legal does w.back w.front x y column row ∙ ap (λ (u : World). front_by s u e x y) is)

    -- what is kept of what the entry makes of back
    back_kept_made : (x y : ℕ) → kept_pair rule.kept (back_made (with_entry s j e) (client_of e) deed w.back x y) ≡ kept_pair rule.kept (back_by s w e x y)
    back_kept_made x y = ap (kept_pair rule.kept) (back_lifted s j good run e deed legal does w.back w.front x y ∙ ap (λ (u : World). back_by s u e x y) is)

    still : (x y : ℕ) → kept_pair rule.kept (back_with rule s w e x y) ≡ back_with rule s w e x y
    still x y = pair_kept rule (back_with rule s w e x y) (back_kept rule s w e x y keeps (kept_after rule s j keeps))

  -- back where nothing is done
  nothing : (e : Entry) (deed : Deed) → LegalEntry s (after s j) e → deed ≡ Deed_is.Nothing → (x y : ℕ) → w.back x y ≡ back_with rule s w e x y → back_made_with rule (with_entry s j e) (client_of e) deed w.back x y ≡ back_with rule s w e x y
  nothing e deed legal does x y stays = ap (λ d. back_made_with rule (with_entry s j e) (client_of e) d w.back x y) does ∙ pair_kept rule (w.back x y) (under x y) ∙ stays

  -- back after an entry
  pub back_after : (e : Entry) (deed : Deed) → LegalEntry s (after s j) e → Does s (after s j) e deed → (x y : ℕ) → back_made_with rule (with_entry s j e) (client_of e) deed w.back x y ≡ back_with rule s w e x y
  back_after (Entry_is.Run c i) deed legal does x y = ap (λ d. back_made_with rule (with_entry s j (Entry_is.Run c i)) c d w.back x y) does ∙ back_ran c i legal (command_at s c i) refl x y
  back_after (Entry_is.Change i) (Deed_is.Touched touched) legal does x y = back_kept_made (Entry_is.Change i) (Deed_is.Touched touched) legal does x y ∙ still (Entry_is.Change i) (Deed_is.Touched touched) legal does x y
  back_after (Entry_is.Change i) Deed_is.Nothing legal does x y = back_kept_made (Entry_is.Change i) Deed_is.Nothing legal does x y ∙ still (Entry_is.Change i) Deed_is.Nothing legal does x y
  back_after (Entry_is.Change i) (Deed_is.Clear colour depth) legal does x y = absurd does
  back_after (Entry_is.Change i) (Deed_is.Triangle t) legal does x y = absurd does
  back_after (Entry_is.Change i) Deed_is.Swap legal does x y = absurd does
  back_after (Entry_is.Gone c) (Deed_is.Touched touched) legal does x y = back_kept_made (Entry_is.Gone c) (Deed_is.Touched touched) legal does x y ∙ still (Entry_is.Gone c) (Deed_is.Touched touched) legal does x y
  back_after (Entry_is.Gone c) Deed_is.Nothing legal does x y = back_kept_made (Entry_is.Gone c) Deed_is.Nothing legal does x y ∙ still (Entry_is.Gone c) Deed_is.Nothing legal does x y
  back_after (Entry_is.Gone c) (Deed_is.Clear colour depth) legal does x y = absurd does
  back_after (Entry_is.Gone c) (Deed_is.Triangle t) legal does x y = absurd does
  back_after (Entry_is.Gone c) Deed_is.Swap legal does x y = absurd does
  back_after (Entry_is.Light c) deed legal does x y = nothing (Entry_is.Light c) deed legal does x y refl
  back_after (Entry_is.Kernel c found) deed legal does x y = nothing (Entry_is.Kernel c found) deed legal does x y refl
  back_after (Entry_is.Stale c) deed legal does x y = nothing (Entry_is.Stale c) deed legal does x y refl
  back_after (Entry_is.Emit c groups) deed legal does x y = nothing (Entry_is.Emit c groups) deed legal does x y refl
  back_after (Entry_is.Place c t first count) deed legal does x y = nothing (Entry_is.Place c t first count) deed legal does x y refl
  back_after (Entry_is.Leave c) deed legal does x y = nothing (Entry_is.Leave c) deed legal does x y refl
  back_after (Entry_is.Info c) deed legal does x y = nothing (Entry_is.Info c) deed legal does x y refl
