-- A client's frame, its window and its picture, as they stand in a scene in range.
use Rattle.std.proofs.Common.{◌≡◌, ℕ, ◌*◌, true, false, List, [], ◌∷◌, length, map, Option, Some, None, ℤ, refl, sym, ap, ◌∙◌, subst, inl, inr}
use Rattle.std.specs.Prelude.{◌↔◌, Contains, IsSome, is_some, pos, slice_get}
use Rattle.std.specs.List.{All}
use Rattle.std.proofs.lemmas.Bool.{true≢false}
use Rattle.std.proofs.lemmas.Bool.Decides.{eqb_tells}
use Rattle.std.proofs.lemmas.List.{length-map}
use Rattle.std.proofs.lemmas.Option.{get_or_from_slice_get, same_Some, slice_get_within}
use Rattle.std.proofs.lemmas.List.Elements.{All-head, All-tail, Contains-append_left, Contains-append_right, Contains-push}
use Rattle.dri_base.specs.declared.colour.Rgb.{Rgb}
use Rattle.dri_base.specs.declared.scene.ClientScript.{ClientScript}
use Rattle.dri_base.specs.declared.scene.Scene.{Scene}
use Rattle.dri_base.specs.declared.scene.Window.{Window}
use Rattle.dri_base.specs.Planes.{plane}
use Rattle.dri_base.specs.Ranges.{ClientInRange, InRange, IsSide, WindowInRange, client_numbers, heap_bytes, owner_of}
use Rattle.dri_base.specs.Scenes.{commands_of, script_in, script_of, window_of}
use Rattle.dri_base.proofs.PlaneLists.{length-first_pixels}
use Rattle.dri_core.specs.Solo.{frame, solo_between, solo_frame}
use Rattle.dri_model.specs.Stacks.{window_in}
use Rattle.dri_run.specs.FrameAlone.{IsShot, has_frame}

-- a client that isn't there has no commands
no_commands : (ps : List ClientScript) (c : ℕ) → (Contains (client_numbers ps) c → ⊥) → (script_in ps c).commands ≡ []
no_commands [] c none = refl
no_commands (p ∷ ps) c none = elim (eqb_tells p.number c) as (λ _. (script_in (p ∷ ps) c).commands ≡ []) [
  | inl same ↦ absurd (none (subst (λ n. Contains (n ∷ client_numbers ps) c) (sym same.1) (Contains-append_left (c ∷ []) (client_numbers ps) c (Contains-push [] c))))
  | inr other ↦ rw other.0 (no_commands ps c (λ inside. none (Contains-append_right (p.number ∷ []) (client_numbers ps) c inside)))
]

-- and so no frame
pub no_client : (s : Scene) (c k : ℕ) → (Contains (client_numbers s.clients) c → ⊥) → has_frame c k s ≡ false
no_client s c k none = ap (λ cs. is_some (frame cs k)) (no_commands s.clients c none)

-- what isn't found isn't there
pub not_found : (s : Scene) (ps : List ClientScript) (c k : ℕ) (o : Option ℕ) → ps ≡ s.clients → ((i : ℕ) → o ≡ Some i → ⊥) → (IsSome o ↔ Contains (client_numbers ps) c) → has_frame c k s ≡ false
not_found s ps c k None same none there = no_client s c k (λ inside. true≢false (sym (there.1 (subst (λ (qs : List ClientScript). Contains (client_numbers qs) c) (sym same) inside))))
not_found s ps c k (Some i) same none there = absurd (none i refl)

-- the script that was found
pub found_script : (s : Scene) (ps : List ClientScript) (c i : ℕ) → ps ≡ s.clients → slice_get ps i ≡ Some (script_in ps c) → slice_get s.clients i ≡ Some (script_of s c)
found_script s ps c i same there = subst (λ (qs : List ClientScript). slice_get qs i ≡ Some (script_in qs c)) same there

-- a frame is drawn nowhere exactly where it isn't there
between : (p : ClientScript) (f : Option (ℕ × ℕ)) (x y : ℤ) → (solo_between p f x y ≡ None) ↔ (is_some f ≡ false)
between p None x y = (λ _. refl, λ _. refl)
between p (Some f) x y = (λ e. absurd (cc), λ e. absurd (true≢false e))

pub nowhere : (s : Scene) (c k : ℕ) (x y : ℤ) → (solo_frame (script_of s c) k x y ≡ None) ↔ (has_frame c k s ≡ false)
nowhere s c k x y = between (script_of s c) (frame (commands_of s c) k) x y

pub no_frame : (s : Scene) (c k : ℕ) (p : ClientScript) (R : Type 0) → script_of s c ≡ p → ((x y : ℤ) → R ↔ (solo_frame p k x y ≡ None)) → R ↔ (has_frame c k s ≡ false)
no_frame s c k p R is all =
    let here = all (pos 0) (pos 0) in
    let there = nowhere s c k (pos 0) (pos 0) in
    (λ r. there.0 (subst (λ (q : ClientScript). solo_frame q k (pos 0) (pos 0) ≡ None) (sym is) (here.0 r)), λ f. here.1 (subst (λ (q : ClientScript). solo_frame q k (pos 0) (pos 0) ≡ None) is (there.1 f)))

-- a window that has an owner is there
pub owned_there : (ws : List Window) (n owner : ℕ) → owner_of ws n ≡ Some owner → is_some (window_in ws n) ≡ true
owned_there [] n owner owned = absurd (cc)
owned_there (w ∷ ws) n owner owned = elim (eqb_tells w.number n) as (λ _. is_some (window_in (w ∷ ws) n) ≡ true) [
  | inl same ↦ rw same.0 refl
  | inr other ↦ rw other.0 (owned_there ws n owner (rw other.0 at owned))
]

-- and in range
pub window_ranged : (ws : List Window) (n : ℕ) (w : Window) → All WindowInRange ws → window_in ws n ≡ Some w → WindowInRange w
window_ranged [] n w all found = absurd (cc)
window_ranged (v ∷ ws) n w all found = elim (eqb_tells v.number n) as (λ _. WindowInRange w) [
  | inl same ↦ let is : v ≡ w = same_Some v w (rw same.0 at found) in subst WindowInRange is (All-head WindowInRange v ws all)
  | inr other ↦ window_ranged ws n w (All-tail WindowInRange v ws all) (rw other.0 at found)
]

-- so a client's window is
pub window_there : (s : Scene) (i : ℕ) (p : ClientScript) (ws : List Window) (o : Option Window) → InRange s → slice_get s.clients i ≡ Some p → ws ≡ s.windows → o ≡ window_in ws p.window → IsSome o
window_there s i p ws o good here same is =
    let client = subst (ClientInRange s.windows (heap_bytes s)) (get_or_from_slice_get s.clients i p p here) (good.scripted.each i p (slice_get_within s.clients i p here)) in
    ap is_some (is ∙ ap (λ (vs : List Window). window_in vs p.window) same) ∙ owned_there s.windows p.window p.number client.owns

pub own_window : (s : Scene) (n : ℕ) (ws : List Window) (o : Option Window) (w : Window) → ws ≡ s.windows → o ≡ window_in ws n → o ≡ Some w → window_in s.windows n ≡ Some w
own_window s n ws o w same is there = sym (is ∙ ap (λ (vs : List Window). window_in vs n) same) ∙ there

-- a picture has a pixel for each place
pub as_many : (width height : ℕ) (pixels : List Rgb) (f : ℕ → ℕ → Option Rgb) → map Some pixels ≡ plane width height f → length pixels ≡ width * height
as_many width height pixels f drawn = sym (length-map pixels Some) ∙ ap length drawn ∙ length-first_pixels width f (width * height)

-- and sides in range
pub sides : (s : Scene) (c k width height : ℕ) (pixels : List Rgb) → InRange s → IsShot c k s width height pixels → IsSide width × IsSide height
sides s c k width height pixels good shot =
    let ranged = window_ranged s.windows (window_of s c) shot.window good.windowed.each shot.own in
    (subst IsSide (sym shot.wide) ranged.wide, subst IsSide (sym shot.high) ranged.high)
