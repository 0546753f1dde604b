-- Places of a window's surface that are painted along a row, and what a triangle makes of all of them.
use Rattle.std.proofs.Common.{◌≡◌, ℕ, ◌+◌, ◌<◌, ◌≤◌, Bool, true, false, ◌&&◌, ◌==◌, if◌then◌else◌, List, Option, Some, None, pos, map, get_or, refl, sym, ap, ◌∙◌, arith}
use Rattle.std.specs.Prelude.{◌-ℤ◌}
use Rattle.std.proofs.lemmas.Bool.Decides.{nat_tests}
use Rattle.std.proofs.lemmas.Bool.{eqb-true}
use Rattle.std.proofs.lemmas.Int.{ints}
use Rattle.dri_base.specs.declared.colour.Pixel.{Pixel}
use Rattle.dri_base.specs.declared.colour.Rgb.{Rgb}
use Rattle.dri_base.specs.declared.command.Command.{Command}
use Rattle.dri_base.specs.declared.command.Command.TheVariants as Command_is
use Rattle.dri_base.specs.declared.scene.ClientScript.{ClientScript}
use Rattle.dri_base.specs.declared.shape.ClipRect.{ClipRect}
use Rattle.dri_base.specs.declared.shape.Triangle.{Triangle}
use Rattle.dri_base.specs.declared.state.Registers.{Registers}
use Rattle.dri_base.specs.declared.state.Setting.TheVariants as Setting_is
use Rattle.dri_base.specs.declared.state.State.{State}
use Rattle.dri_base.specs.declared.texture.Texture.{Texture}
use Rattle.dri_base.specs.Fragments.{fragment, rules_of}
use Rattle.dri_base.specs.Planes.{at, in_rect, plane}
use Rattle.dri_base.specs.Ranges.{CommandInRange, texture_numbers}
use Rattle.dri_base.specs.Scenes.{bytes_of}
use Rattle.dri_base.specs.States.{default_state, state_after, state_at, states}
use Rattle.dri_base.specs.Texels.{given_image}
use Rattle.dri_base.proofs.PlaneLists.{plane_at, plane_same}
use Rattle.dri_model.specs.Words.{IsScissorInRange, card_image, rules_in}
use Rattle.dri_plane.specs.Grids.{Becomes, Grid, is_place}
use Rattle.dri_walk.specs.Drawings.{after_drawing}
use Rattle.dri_walk.specs.Samplings.{byte_in}
use Rattle.dri_walk.specs.Surfaces.{in_row, left_by, run_painted}
use Rattle.dri_meaning.specs.Canvases.{HasPairs, bound_first, pairs_alike, registers_alone}
use Rattle.dri_meaning.specs.Scripts.{ScriptInRange}
use Rattle.dri_meaning.proofs.SoloPixels.{mapped_plane}
use Rattle.std.proofs.lemmas.List.Elements.{All-head, All-tail, All-take}
use Rattle.std.specs.Prelude.{All, pred, take, [], ◌∷◌}

-- the pairs after one place is painted
abbrev pub place_painted : (ℕ → Pixel → Option Pixel) → ℕ → ℕ → (ℕ → ℕ → Pixel) → ℕ → ℕ → Pixel
place_painted paint x y f a b = if is_place x y a b then left_by (λ p. p) (paint a (f a b)) (f a b) else f a b

some_same : {A : Type 0} (x y : A) → Some x ≡ Some y → x ≡ y
some_same x y e = cc

-- the pair at a place
pub pair_read : (g : Grid Pixel) (f : ℕ → ℕ → Pixel) (x y : ℕ) (pixel : Pixel) → x < g.width → y < g.height → HasPairs g f → at g.width g.pixels x y ≡ Some pixel → pixel ≡ f x y
pair_read g f x y pixel column row has is = some_same pixel (f x y) (sym is ∙ ap (λ ps. at g.width ps x y) has ∙ plane_at g.width g.height f x y column row)

-- a pair that is written where it is painted
pub written_painted : (g : Grid Pixel) (x y : ℕ) (paint : ℕ → Pixel → Option Pixel) (under pixel : Pixel) (f : ℕ → ℕ → Pixel) → under ≡ f x y → Some pixel ≡ paint x under
    → HasPairs g (λ a b. if is_place x y a b then pixel else f a b) → HasPairs g (place_painted paint x y f)
written_painted g x y paint under pixel f reads is writes =
    pairs_alike g _ _ (λ a b. by a b (a == x) (b == y) (eqb-true a x) (eqb-true b y)) writes
  where
    by : (a b : ℕ) (p q : Bool) → (p ≡ true → a ≡ x) → (q ≡ true → b ≡ y) → (if p && q then pixel else f a b) ≡ (if p && q then left_by (λ v. v) (paint a (f a b)) (f a b) else f a b)
    by a b true true ex ey = rw (ex refl, ey refl) (ap (λ o. left_by (λ v. v) o (f x y)) (is ∙ ap (paint x) reads))
    by a b true false ex ey = refl
    by a b false q ex ey = refl

-- a pair that stays, since nothing is painted
pub stayed_painted : (g : Grid Pixel) (x y : ℕ) (paint : ℕ → Pixel → Option Pixel) (under : Pixel) (f : ℕ → ℕ → Pixel) → under ≡ f x y → None ≡ paint x under
    → HasPairs g f → HasPairs g (place_painted paint x y f)
stayed_painted g x y paint under f reads is has =
    pairs_alike g _ _ (λ a b. by a b (a == x) (b == y) (eqb-true a x) (eqb-true b y)) has
  where
    by : (a b : ℕ) (p q : Bool) → (p ≡ true → a ≡ x) → (q ≡ true → b ≡ y) → f a b ≡ (if p && q then left_by (λ v. v) (paint a (f a b)) (f a b) else f a b)
    by a b true true ex ey = rw (ex refl, ey refl) (ap (λ o. left_by (λ v. v) o (f x y)) (is ∙ ap (paint x) reads))
    by a b true false ex ey = refl
    by a b false q ex ey = refl

-- the first place of a run
pub run_begins : (g : Grid Pixel) (paint : ℕ → Pixel → Option Pixel) (y left : ℕ) (f : ℕ → ℕ → Pixel) → HasPairs g (place_painted paint left y f) → HasPairs g (run_painted (λ p. p) paint y left (left + 1) f)
run_begins g paint y left f has =
    pairs_alike g _ _ (λ a b. ap (λ here. if here then left_by (λ p. p) (paint a (f a b)) (f a b) else f a b) (one a b)) has
  where
    one : (a b : ℕ) → is_place left y a b ≡ in_row y left (left + 1) a b
    one a b = grind (arith, nat_tests)

-- and one place more
pub run_more : (g : Grid Pixel) (paint : ℕ → Pixel → Option Pixel) (y left x : ℕ) (f : ℕ → ℕ → Pixel) → left ≤ x
    → HasPairs g (place_painted paint x y (run_painted (λ p. p) paint y left x f)) → HasPairs g (run_painted (λ p. p) paint y left (x + 1) f)
run_more g paint y left x f from has =
    pairs_alike g _ _ (λ a b. by a b (in_row y left x a b) (is_place x y a b) (joined a b) (apart a b)) has
  where
    joined : (a b : ℕ) (drawn kept : Pixel) → (if in_row y left x a b then (if is_place x y a b then kept else drawn) else (if is_place x y a b then drawn else kept)) ≡ (if in_row y left (x + 1) a b then drawn else kept)
    joined a b drawn kept = grind (arith, nat_tests)

    apart : (a b : ℕ) → (in_row y left x a b && is_place x y a b) ≡ false
    apart a b = grind (arith, nat_tests)

    drawn_on : (a b : ℕ) → Pixel → Pixel
    drawn_on a b under = left_by (λ p. p) (paint a under) under

    by : (a b : ℕ) (p q : Bool) → ((drawn kept : Pixel) → (if p then (if q then kept else drawn) else (if q then drawn else kept)) ≡ (if in_row y left (x + 1) a b then drawn else kept)) → (p && q) ≡ false
        → (if q then drawn_on a b (if p then drawn_on a b (f a b) else f a b) else (if p then drawn_on a b (f a b) else f a b)) ≡ (if in_row y left (x + 1) a b then drawn_on a b (f a b) else f a b)
    by a b true true joined apart = cc
    by a b true false joined apart = joined _ _
    by a b false true joined apart = joined _ _
    by a b false false joined apart = joined _ _

-- pairs that are changed
pub changed : (old new : Grid Pixel) (change : (ℕ → ℕ → Pixel) → ℕ → ℕ → Pixel) (f : ℕ → ℕ → Pixel) → new.width ≡ old.width → new.height ≡ old.height → Becomes old new change → HasPairs old f → HasPairs new (change f)
changed old new change f wide high becomes has = rw (wide, high) (becomes f has)

-- every place of the window lies in its rectangle
in_window : (width height x y : ℕ) → x < width → y < height → in_rect (record { x1 = 0; y1 = 0; x2 = width; y2 = height }) x y ≡ true
in_window width height x y column row = grind (arith, nat_tests)

-- what is changed in all of the window is changed at each place
pub all_changed : (g : Grid Pixel) (window : ClipRect) (change f : ℕ → ℕ → Pixel) → window ≡ record { x1 = 0; y1 = 0; x2 = g.width; y2 = g.height }
    → HasPairs g (λ x y. if in_rect window x y then change x y else f x y) → HasPairs g change
all_changed g window change f is has =
    has ∙ plane_same g.width g.height _ change (λ x y column row.
    ap (λ r. if in_rect r x y then change x y else f x y) is ∙ ap (λ here. if here then change x y else f x y) (in_window g.width g.height x y column row))

-- the card finds the image of the texture that is bound
pub image_found : (texture : Option Texture) → card_image (byte_in (bytes_of texture)) (bound_first texture) ≡ given_image texture
image_found None = refl
image_found (Some t) = λ i. Some (record { shape = t.shape; byte = λ n. get_or t.bytes (first n i) 0 }) where
  first : (n : ℕ) → 0 + n ≡ n
  first n = omega arith

-- the pixel of the window is that of its surface
same_place : (n : ℕ) → (pos n -ℤ pos 0) ≡ pos n
same_place n = omega (arith, ints)

-- what a triangle leaves on the window's surface
pub drawn_alone : (g : Grid Pixel) (s : State) (texture : Option Texture) (registers : Registers) (memory : List ℕ) (window : ClipRect) (t : Triangle) (f : ℕ → ℕ → Pixel)
    → registers ≡ registers_alone s texture → memory ≡ bytes_of texture → window ≡ record { x1 = 0; y1 = 0; x2 = g.width; y2 = g.height }
    → HasPairs g (after_drawing (λ p. p) (rules_in registers) (card_image (byte_in memory) registers.bound) t window (record { x = pos 0; y = pos 0 }) f)
    → HasPairs g (λ x y. fragment (rules_of s) (given_image texture) t (pos x) (pos y) (f x y))
drawn_alone g s texture registers memory window t f same_registers same_memory is has =
    pairs_alike g _ _ same (all_changed g window (λ x y. fragment (rules_in registers) (card_image (byte_in memory) registers.bound) t (pos x -ℤ pos 0) (pos y -ℤ pos 0) (f x y)) f is has)
  where
    same : (x y : ℕ) → fragment (rules_in registers) (card_image (byte_in memory) registers.bound) t (pos x -ℤ pos 0) (pos y -ℤ pos 0) (f x y) ≡ fragment (rules_of s) (given_image texture) t (pos x) (pos y) (f x y)
    same x y =
        ap (λ (r : Registers). fragment (rules_in r) (card_image (byte_in memory) r.bound) t (pos x -ℤ pos 0) (pos y -ℤ pos 0) (f x y)) same_registers
        ∙ ap (λ m. fragment (rules_of s) (card_image (byte_in m) (bound_first texture)) t (pos x -ℤ pos 0) (pos y -ℤ pos 0) (f x y)) same_memory
        ∙ ap (λ image. fragment (rules_of s) image t (pos x -ℤ pos 0) (pos y -ℤ pos 0) (f x y)) (image_found texture)
        ∙ ap (λ a. fragment (rules_of s) (given_image texture) t a (pos y -ℤ pos 0) (f x y)) (same_place x)
        ∙ ap (λ b. fragment (rules_of s) (given_image texture) t (pos x) b (f x y)) (same_place y)

-- the scissor that a script sets is in range
setting_ranged : (numbers : List ℕ) (command : Command) (s : State) → CommandInRange numbers command → IsScissorInRange s.scissor → IsScissorInRange (state_after command s).scissor
setting_ranged numbers (Command_is.Set (Setting_is.Scissor None)) s good before = tt
setting_ranged numbers (Command_is.Set (Setting_is.Scissor (Some r))) s good before = good
setting_ranged numbers (Command_is.Set (Setting_is.Shade v)) s good before = before
setting_ranged numbers (Command_is.Set (Setting_is.DepthFunc v)) s good before = before
setting_ranged numbers (Command_is.Set (Setting_is.DepthWrite v)) s good before = before
setting_ranged numbers (Command_is.Set (Setting_is.Blend v)) s good before = before
setting_ranged numbers (Command_is.Set (Setting_is.TexMode v)) s good before = before
setting_ranged numbers (Command_is.Set (Setting_is.Wrap v)) s good before = before
setting_ranged numbers (Command_is.Set (Setting_is.Bind v)) s good before = before
setting_ranged numbers (Command_is.Clear colour depth) s good before = before
setting_ranged numbers (Command_is.Triangle t) s good before = before
setting_ranged numbers Command_is.Swap s good before = before
setting_ranged numbers Command_is.Yield s good before = before
setting_ranged numbers Command_is.Die s good before = before

states_ranged : (numbers : List ℕ) (commands : List Command) (s : State) → All (CommandInRange numbers) commands → IsScissorInRange s.scissor → IsScissorInRange (states s commands).scissor
states_ranged numbers [] s good before = before
states_ranged numbers (command ∷ commands) s good before =
    states_ranged numbers commands (state_after command s) (All-tail (CommandInRange numbers) command commands good) (setting_ranged numbers command s (All-head (CommandInRange numbers) command commands good) before)

pub scissor_ranged : (p : ClientScript) (i : ℕ) → ScriptInRange p → IsScissorInRange (state_at p.commands i).scissor
scissor_ranged p i good = states_ranged (texture_numbers p.textures) (take (pred i) p.commands) default_state (All-take (CommandInRange (texture_numbers p.textures)) (pred i) p.commands good.commanded.each) tt

-- the colours of the pairs
pub colours_are : (pixels : List Rgb) (g : Grid Pixel) (width height : ℕ) (f : ℕ → ℕ → Pixel) → pixels ≡ map (λ p. p.colour) g.pixels → HasPairs g f → g.width ≡ width → g.height ≡ height → pixels ≡ plane width height (λ x y. (f x y).colour)
colours_are pixels g width height f are has wide high =
    are ∙ ap (map (λ p. p.colour)) has ∙ mapped_plane (λ p. p.colour) g.width g.height f ∙ ap (λ w. plane w g.height (λ x y. (f x y).colour)) wide ∙ ap (λ h. plane width h (λ x y. (f x y).colour)) high
