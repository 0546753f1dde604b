-- What the planes of a card with a pixel rule of its own have.
use Rattle.std.proofs.Common.{◌≡◌, List, [], ◌∷◌, Bool, true, false, None, Some, Option, refl, sym, ap, ◌∙◌, subst, ℕ, if◌then◌else◌}
use Rattle.std.specs.Prelude.{ℤ}
use Rattle.std.proofs.lemmas.Bool.{and_right}
use Rattle.dri_base.specs.Fragments.{Rules, rules_of}
use Rattle.dri_base.specs.declared.colour.Pixel.{Pixel}
use Rattle.dri_base.specs.Scenes.{command_at, commands_of, script_of}
use Rattle.dri_base.specs.States.{state_at}
use Rattle.dri_base.specs.Texels.{Image}
use Rattle.dri_base.specs.declared.command.Command.{Command}
use Rattle.dri_base.specs.declared.command.Command.TheVariants.{Clear, Triangle}
use Rattle.dri_base.specs.declared.journal.Entry.{Entry}
use Rattle.dri_base.specs.declared.journal.Entry.TheVariants.{Change, Gone, Run}
use Rattle.dri_base.specs.declared.scene.Scene.{Scene}
use Rattle.dri_card16.proofs.Differing.{differ_after, with_push}
use Rattle.dri_card16.specs.PixelRules.{KeepsForGood, PixelRule, drawn_at_with, drawn_with}
use Rattle.dri_card16.specs.RuleRuns.{ConfinedWith, OwnWith, PlanesAreKept, after_entries_with, after_entry_with, after_with, back_with, opening_with}
use Rattle.dri_core.specs.Frames.{across, down}
use Rattle.dri_core.specs.Restacks.{next_moved, next_stack}
use Rattle.dri_core.specs.Runs.{SameOutside, after}
use Rattle.dri_core.specs.Solo.{image_at, is_swap}
use Rattle.dri_core.specs.Worlds.{World, clips_in}
use Rattle.dri_model.specs.Stacks.{carried, carried_from, without_owner}

-- a command leaves a kept colour on a kept one
pub drawn_kept : (rule : PixelRule) (r : Rules) (image : Option Image) (command : Option Command) (x y : ℤ) (under : Pixel) → KeepsForGood rule → rule.kept under.colour ≡ under.colour →
    rule.kept (drawn_with rule r image command x y under).colour ≡ (drawn_with rule r image command x y under).colour
drawn_kept rule r image (Some (Clear colour depth)) x y under keeps is = keeps.colour colour
drawn_kept rule r image (Some (Triangle t)) x y under keeps is = keeps.pair r image t x y under is
drawn_kept rule r image _ x y under keeps is = is

-- and so does a place of which one was carried
carried_kept : (rule : PixelRule) (from : Option (ℕ × ℕ)) (plane : ℕ → ℕ → Pixel) (x y : ℕ) → ((x y : ℕ) → rule.kept (plane x y).colour ≡ (plane x y).colour) →
    rule.kept (carried from plane (plane x y)).colour ≡ (carried from plane (plane x y)).colour
carried_kept rule None plane x y each = each x y
carried_kept rule (Some p) plane x y each = each p.0 p.1

pub back_kept : (rule : PixelRule) (s : Scene) (w : World) (e : Entry) (x y : ℕ) → KeepsForGood rule → PlanesAreKept rule w → rule.kept (back_with rule s w e x y).colour ≡ (back_with rule s w e x y).colour
back_kept rule s w (Run c i) x y keeps are = by_clip (clips_in s w c x y)
  where
    drawn : Pixel
    drawn = drawn_at_with rule (script_of s c) i (across s w c x) (down s w c y) (w.back x y)

    by_clip : (b : Bool) → rule.kept (if b then drawn else w.back x y).colour ≡ (if b then drawn else w.back x y).colour
    by_clip true = drawn_kept rule _ _ (command_at s c i) (across s w c x) (down s w c y) (w.back x y) keeps (are.back x y)
    by_clip false = are.back x y
back_kept rule s w (Change i) x y keeps are = carried_kept rule (carried_from s.width s.height w.stack (next_stack s w) (next_moved s w) x y) w.back x y are.back
back_kept rule s w (Gone c) x y keeps are = carried_kept rule (carried_from s.width s.height w.stack (without_owner c w.stack) None x y) w.back x y are.back
back_kept rule s w _ x y keeps are = are.back x y

kept_along : (rule : PixelRule) (s : Scene) (w : World) (es : List Entry) → KeepsForGood rule → PlanesAreKept rule w → PlanesAreKept rule (after_entries_with rule s w es)
kept_along rule s w [] keeps are = are
kept_along rule s w (e ∷ es) keeps are = kept_along rule s (after_entry_with rule s w e) es keeps (record { front = λ x y. keeps.colour _; back = λ x y. back_kept rule s w e x y keeps are })

-- each colour that a journal leaves is a kept one
pub kept_after : (rule : PixelRule) (s : Scene) (journal : List Entry) → KeepsForGood rule → PlanesAreKept rule (after_with rule s journal)
kept_after rule s journal keeps = kept_along rule s (opening_with rule s) journal keeps (record { front = λ x y. keeps.colour _; back = λ x y. keeps.colour _ })

-- the run of a command leaves what lies outside its client's clips
pub confined : (rule : PixelRule) (s : Scene) (journal : List Entry) → KeepsForGood rule → ConfinedWith rule s journal
confined rule s journal keeps past rest c i e = subst (SameOutside (clips_in s (after s past) c) w) (sym (with_push rule s past (Run c i)))
    (record { front = λ x y out. front x y (now x y ∙ out); back = λ x y out. rw (now x y ∙ out) refl })
  where
    w : World
    w = after_with rule s past

    now : (x y : ℕ) → clips_in s w c x y ≡ clips_in s (after s past) c x y
    now x y = ap (λ v. clips_in s v c x y) (differ_after rule s past)

    front : (x y : ℕ) → clips_in s w c x y ≡ false → (after_entry_with rule s w (Run c i)).front x y ≡ w.front x y
    front x y out =
        ap (λ (b : Bool). rule.kept (if b then (w.back x y).colour else w.front x y)) (and_right (is_swap (command_at s c i)) (clips_in s w c x y) out)
        ∙ (kept_after rule s past keeps).front x y

-- a triangle is drawn with its client's own state and image
pub own : (rule : PixelRule) (s : Scene) (journal : List Entry) → OwnWith rule s journal
own rule s journal past rest c i x y t e is inside = ap (λ v. v.back x y) (with_push rule s past (Run c i))
    ∙ subst (λ v. (after_entry_with rule s v (Run c i)).back x y ≡ rule.triangle (rules_of (state_at (commands_of s c) i)) (image_at (script_of s c) i) t (across s (after s past) c x) (down s (after s past) c y) (v.back x y))
    (sym (differ_after rule s past)) (rw (inside, is) refl)
