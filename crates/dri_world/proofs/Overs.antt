-- Who has ended or is dead, as a world's parts show it.
use Rattle.std.proofs.Common.{◌≡◌, ℕ, List, Bool, true, false, refl, sym, ap, ◌∙◌, subst, inl, inr}
use Rattle.std.specs.Prelude.{◌⊎◌}
use Rattle.dri_base.specs.declared.journal.Event.{Event}
use Rattle.dri_base.specs.declared.scene.Scene.{Scene}
use Rattle.dri_core.specs.CoreRuns.{after_events, world_of}
use Rattle.dri_core.specs.Cores.{opening_core}
use Rattle.dri_core.specs.Phases as Kept
use Rattle.dri_core.specs.Phases.{is_done}
use Rattle.dri_core.specs.Privates.{Private}
use Rattle.dri_core.specs.Worlds.{World}
use Rattle.dri_driver.specs.Clients.{ClientState, part_of}
use Rattle.dri_driver.specs.Shown.{shown_phase}
use Rattle.dri_driver.specs.declared.phase.Phase.{Phase}
use Rattle.dri_driver.specs.declared.phase.Phase.TheVariants.{Out, Old, In, Over, Ask, Asking, Dying, Ended, Dead}
use Rattle.dri_shared.specs.States as States
use Rattle.dri_world.specs.Courses.{Course}
use Rattle.dri_world.specs.Currents.{is_over}
use Rattle.dri_world.specs.Holding.{IsClientOf}
use Rattle.dri_world.specs.declared.site.Site.{Site}
use Rattle.dri_world.proofs.Answering.{ClientAt}
use Rattle.dri_world.proofs.Held.{going, world_is}

-- a client that shows this has ended or is dead
abbrev pub is_through : Phase → Bool
is_through Ended = true
is_through Dead = true
is_through p = false

shown_over : (d : Bool) (p : Kept.Phase) → (d ≡ true → is_done p ≡ false) → is_done p ≡ is_through (shown_phase d p)
shown_over true p live = live refl
shown_over false Kept.Out live = refl
shown_over false Kept.Old live = refl
shown_over false Kept.In live = refl
shown_over false Kept.Over live = refl
shown_over false Kept.Ask live = refl
shown_over false Kept.Asking live = refl
shown_over false Kept.Ended live = refl
shown_over false Kept.Dead live = refl

over_at : (s : Scene) (es : List Event) (t : Site) (ks : List ClientState) (i n : ℕ) (k : ClientState) → ClientAt s es t ks i n k → is_over (world_of s es) n ≡ is_through (shown_phase k.dying k.phase)
over_at s es t ks i n k at = ap (λ (p : Private). is_done p.phase) part ∙ shown_over k.dying k.phase live
  where
    was : IsClientOf t.shared (after_events s (opening_core s) es) n k
    was = at.held.clients.each i n k at.number at.client

    part : (world_of s es).client n ≡ part_of k
    part = sym (was.fits.part ∙ ap (States.world_of t.shared).client was.numbered ∙ ap (λ (w : World). w.client n) (world_is s es t ks at.held))

    live : k.dying ≡ true → is_done k.phase ≡ false
    live d = ap (λ (p : Private). is_done p.phase) (sym part) ∙ ((going s es t ks at.held).known.tied.dying n (sym was.dying ∙ d)).1

-- what a world tells of a client that shows this phase
pub over_told : (s : Scene) (es : List Event) (t : Site) (ks : List ClientState) (i n : ℕ) (k : ClientState) (w : Course) (p : Phase) → ClientAt s es t ks i n k → record { scene = s; events = es } ≡ w → p ≡ shown_phase k.dying k.phase → is_through p ≡ is_over (world_of w.scene w.events) n
over_told s es t ks i n k w p at view is = sym (subst (λ (x : Course). is_over (world_of x.scene x.events) n ≡ is_through (shown_phase k.dying k.phase)) view (over_at s es t ks i n k at) ∙ ap is_through (sym is))

pub through_either : (p : Phase) → (p ≡ Ended) ⊎ (p ≡ Dead) → true ≡ is_through p
through_either p (inl e) = ap is_through (sym e)
through_either p (inr e) = ap is_through (sym e)

pub through_neither : (p : Phase) → (p ≡ Ended → ⊥) → (p ≡ Dead → ⊥) → false ≡ is_through p
through_neither Ended a b = absurd (a refl)
through_neither Dead a b = absurd (b refl)
through_neither Out a b = refl
through_neither Old a b = refl
through_neither In a b = refl
through_neither Over a b = refl
through_neither Ask a b = refl
through_neither Asking a b = refl
through_neither Dying a b = refl
