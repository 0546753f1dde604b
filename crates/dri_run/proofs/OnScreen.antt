-- Where a frame stood and nothing followed, the screen shows it as it is drawn alone.
use Rattle.std.proofs.Common.{◌≡◌, ◌<◌, ◌+◌, ◌*◌, ℕ, pos, List, [], ◌∷◌, ◌++◌, Option, Some, None, sym, ap, ◌∙◌, subst, arith}
use Rattle.std.specs.Option.{option_map}
use Rattle.std.proofs.lemmas.Bool.Decides.{nat_tests}
use Rattle.std.proofs.lemmas.Option.{same_Some, slice_get-map}
use Rattle.dri_base.specs.declared.colour.Rgb.{Rgb}
use Rattle.dri_base.specs.declared.journal.Event.{Event}
use Rattle.dri_base.specs.declared.journal.Event.TheVariants.{Run}
use Rattle.dri_base.specs.declared.scene.Scene.{Scene}
use Rattle.dri_base.specs.Planes.{at}
use Rattle.dri_base.specs.Scenes.{script_of}
use Rattle.dri_base.proofs.PlaneLists.{plane_at}
use Rattle.dri_core.specs.CoreRuns.{SoloLeftRun, after_events, world_of}
use Rattle.dri_core.specs.Cores.{Core, opening_core}
use Rattle.dri_core.specs.Frames.{Shows, across}
use Rattle.dri_core.specs.Solo.{solo_frame}
use Rattle.dri_core.proofs.Rounds.{after_append}
use Rattle.dri_core.proofs.RoundsEnd.{append_nothing}
use Rattle.dri_run.specs.FrameAlone.{IsShot}
use Rattle.dri_run.specs.FrameShown.{IsOnScreen, StoodLast, after_run}

-- the core that the whole run leaves
at_the_end : (s : Scene) (events : List Event) (c k : ℕ) (it : StoodLast s events c k) →
    after_events s (after_run s (after_run s (opening_core s) it.past c it.first) it.middle c it.last) it.later ≡ after_events s (opening_core s) events
at_the_end s events c k it = sym
    (ap (after_events s (opening_core s)) it.swapped
    ∙ after_append s (opening_core s) it.past (Run c it.first ∷ (it.middle ++ Run c it.last ∷ it.later))
    ∙ after_append s (after_run s (opening_core s) it.past c it.first) it.middle (Run c it.last ∷ it.later))

shows : (s : Scene) (events : List Event) (c k : ℕ) → SoloLeftRun s events → StoodLast s events c k → Shows s c k (world_of s events)
shows s events c k left it =
    let whole : events ≡ it.past ++ Run c it.first ∷ (it.middle ++ Run c it.last ∷ (it.later ++ [])) =
    it.swapped ∙ ap (λ (rest : List Event). it.past ++ Run c it.first ∷ (it.middle ++ Run c it.last ∷ rest)) (sym (append_nothing it.later)) in
    subst (λ (core : Core). Shows s c k core.world) (at_the_end s events c k it) (left c k it.first it.last it.past it.middle it.later [] it.numbered whole it.stood it.stays it.no_more)

-- what is some of a list is of the list
of_some : (o : Option Rgb) (p : Rgb) → option_map Some o ≡ Some (Some p) → o ≡ Some p
of_some None p is = absurd (cc)
of_some (Some q) p is = same_Some (Some q) (Some p) is

-- a pixel of the frame
pixel_alone : (s : Scene) (c k width height : ℕ) (pixels : List Rgb) → IsShot c k s width height pixels → (u v : ℕ) → u < width → v < height → (p : Rgb) → solo_frame (script_of s c) k (pos u) (pos v) ≡ Some p → at width pixels u v ≡ Some p
pixel_alone s c k width height pixels shot u v column row p is =
    of_some (at width pixels u v) p
    (sym (slice_get-map Some pixels (v * width + u)) ∙ ap (λ all. at width all u v) shot.drawn
    ∙ plane_at width height (λ x y. solo_frame (script_of s c) k (pos x) (pos y)) u v column row ∙ ap Some is)

pub on_screen : (s : Scene) (events : List Event) (c k width height : ℕ) (pixels : List Rgb) → SoloLeftRun s events → StoodLast s events c k → IsShot c k s width height pixels → IsOnScreen s events c width height pixels
on_screen s events c k width height pixels left it shot x y u v clip here there column row =
    let wide : x < s.width = grind (arith, nat_tests, clip) in
    let high : y < s.height = grind (arith, nat_tests, clip) in
    let shown = shows s events c k left it x y clip in
    let alone : solo_frame (script_of s c) k (pos u) (pos v) ≡ Some ((world_of s events).front x y) = ap (λ a. solo_frame (script_of s c) k a (pos v)) (sym here) ∙ ap (solo_frame (script_of s c) k (across s (world_of s events) c x)) (sym there) ∙ sym shown in
    plane_at s.width s.height (world_of s events).front x y wide high ∙ sym (pixel_alone s c k width height pixels shot u v column row ((world_of s events).front x y) alone)
