-- What isn't touched stays.
use Rattle.std.proofs.Common.{◌≡◌, ℕ, List, [], ◌∷◌, ◌++◌, Bool, true, false, ◌&&◌, ◌||◌, not, if◌then◌else◌, Option, Some, None, is_some, refl, ◌∙◌, ap}
use Rattle.dri_base.specs.Ranges.{InRange}
use Rattle.dri_base.specs.Scenes.{command_at, script_of}
use Rattle.dri_base.specs.declared.colour.Rgb.{Rgb}
use Rattle.dri_base.specs.declared.command.Command.{Command}
use Rattle.dri_base.specs.declared.command.Command.TheVariants as Command_is
use Rattle.dri_base.specs.declared.journal.Entry.{Entry}
use Rattle.dri_base.specs.declared.journal.Entry.TheVariants as Entry_is
use Rattle.dri_base.specs.declared.scene.Scene.{Scene}
use Rattle.dri_base.specs.declared.scene.Window.{Window}
use Rattle.dri_core.proofs.Laws.{LegalEntries-append, after-push}
use Rattle.dri_core.proofs.PlaneSteps.{plane_step}
use Rattle.dri_core.specs.Frames.{across, down}
use Rattle.dri_core.specs.PlaneSteps.{back_by, front_by}
use Rattle.dri_core.specs.Restacks.{back_restacked, front_restacked, next_moved, next_stack}
use Rattle.dri_core.specs.Runs.{HoldRun, after}
use Rattle.dri_core.specs.Solo.{drawn_at, is_swap}
use Rattle.dri_core.specs.Worlds.{World, clips_in, opening}
use Rattle.dri_history.specs.Touches.{command_kind, kind_at, sample, stack_kind}
use Rattle.dri_history.specs.declared.touch.Kind.{Kind}
use Rattle.dri_history.specs.declared.touch.Kind.TheVariants as Kind_is
use Rattle.dri_model.specs.Stacks.{carried, carried_from, ground_colour, is_displaced, repaint, same_top, top, without_owner}

some_none : (kind : Kind) → ◌≡◌ {A = Option Kind} (Some kind) None → ⊥
some_none kind e = cc

-- a command that does nothing isn't a swap
front_unswapped : (o : Option Command) (b : Bool) (p q : Rgb) → (if b then command_kind o else None) ≡ None → (if is_swap o && b then p else q) ≡ q
front_unswapped (Some Command_is.Swap) true p q none = absurd (some_none Kind_is.Swap none)
front_unswapped (Some Command_is.Swap) false p q none = refl
front_unswapped (Some (Command_is.Clear colour depth)) b p q none = refl
front_unswapped (Some (Command_is.Triangle t)) b p q none = refl
front_unswapped (Some Command_is.Yield) b p q none = refl
front_unswapped (Some Command_is.Die) b p q none = refl
front_unswapped (Some (Command_is.Set setting)) b p q none = refl
front_unswapped None b p q none = refl

module _ (s : Scene) (w : World) (x y : ℕ) where
  -- nor does it draw
  back_undrawn : (c i : ℕ) (o : Option Command) → command_at s c i ≡ o → (b : Bool) → (if b then command_kind o else None) ≡ None → (if b then drawn_at (script_of s c) i (across s w c x) (down s w c y) (w.back x y) else w.back x y) ≡ w.back x y
  back_undrawn c i o e false none = refl
  back_undrawn c i (Some (Command_is.Clear colour depth)) e true none = absurd (some_none Kind_is.Clear none)
  back_undrawn c i (Some (Command_is.Triangle t)) e true none = absurd (some_none Kind_is.Triangle none)
  back_undrawn c i (Some Command_is.Swap) e true none = rw e refl
  back_undrawn c i (Some Command_is.Yield) e true none = rw e refl
  back_undrawn c i (Some Command_is.Die) e true none = rw e refl
  back_undrawn c i (Some (Command_is.Set setting)) e true none = rw e refl
  back_undrawn c i None e true none = rw e refl

  -- a new stack that does nothing at the place
  module _ (moved : Option ℕ) (new : List Window) where
    front_unpainted : (o : Option (ℕ × ℕ)) (b : Bool) (d : Rgb) → (if is_some o then Some Kind_is.Carry else if is_some {T = Rgb} (if is_some o || b then None else Some d) then Some Kind_is.Paint else None) ≡ None →
        carried o w.front (if b then w.front x y else d) ≡ w.front x y
    front_unpainted (Some p) b d none = absurd (some_none Kind_is.Carry none)
    front_unpainted None true d none = refl
    front_unpainted None false d none = absurd (some_none Kind_is.Paint none)

    back_uncarried : (o : Option (ℕ × ℕ)) (k : Option Kind) → (if is_some o then Some Kind_is.Carry else k) ≡ None → carried o w.back (w.back x y) ≡ w.back x y
    back_uncarried (Some p) k none = absurd (some_none Kind_is.Carry none)
    back_uncarried None k none = refl

    front_same : stack_kind s w moved new x y ≡ None → front_restacked s w moved new x y ≡ w.front x y
    front_same none = front_unpainted (carried_from s.width s.height w.stack new moved x y) (same_top (top w.stack x y) (top new x y) && not (is_displaced moved w.stack new (top new x y))) (ground_colour s.root (top new x y)) none

    back_same : stack_kind s w moved new x y ≡ None → back_restacked s w moved new x y ≡ w.back x y
    back_same none = back_uncarried (carried_from s.width s.height w.stack new moved x y) (if is_some (repaint s.width s.height s.root w.stack new moved x y) then Some Kind_is.Paint else None) none

  front_kept : (e : Entry) → kind_at s w e x y ≡ None → front_by s w e x y ≡ w.front x y
  front_kept (Entry_is.Run c i) none = front_unswapped (command_at s c i) (clips_in s w c x y) (w.back x y).colour (w.front x y) none
  front_kept (Entry_is.Change i) none = front_same (next_moved s w) (next_stack s w) none
  front_kept (Entry_is.Gone c) none = front_same None (without_owner c w.stack) none
  front_kept (Entry_is.Light c) none = refl
  front_kept (Entry_is.Kernel c found) none = refl
  front_kept (Entry_is.Stale c) none = refl
  front_kept (Entry_is.Emit c groups) none = refl
  front_kept (Entry_is.Place c t first count) none = refl
  front_kept (Entry_is.Leave c) none = refl
  front_kept (Entry_is.Info c) none = refl

  back_kept : (e : Entry) → kind_at s w e x y ≡ None → back_by s w e x y ≡ w.back x y
  back_kept (Entry_is.Run c i) none = back_undrawn c i (command_at s c i) refl (clips_in s w c x y) none
  back_kept (Entry_is.Change i) none = back_same (next_moved s w) (next_stack s w) none
  back_kept (Entry_is.Gone c) none = back_same None (without_owner c w.stack) none
  back_kept (Entry_is.Light c) none = refl
  back_kept (Entry_is.Kernel c found) none = refl
  back_kept (Entry_is.Stale c) none = refl
  back_kept (Entry_is.Emit c groups) none = refl
  back_kept (Entry_is.Place c t first count) none = refl
  back_kept (Entry_is.Leave c) none = refl
  back_kept (Entry_is.Info c) none = refl

pub untouched_stays : (s : Scene) (past : List Entry) (e : Entry) (x y : ℕ) → InRange s → HoldRun s (past ++ e ∷ []) → kind_at s (after s past) e x y ≡ None → sample (after s (past ++ e ∷ [])) x y ≡ sample (after s past) x y
untouched_stays s past e x y good run none =
    let parts = LegalEntries-append s (opening s) past (e ∷ []) run in
    let step = plane_step s past e good parts.0 parts.1.0 in
    ap (λ (u : World). sample u x y) (after-push s past e)
    ∙ (λ k. record { front = (step.front x y ∙ front_kept s (after s past) x y e none) k; back = (step.back x y ∙ back_kept s (after s past) x y e none) k })
