-- What planes of words show.
use Rattle.std.proofs.Common.{◌≡◌, ℕ, ◌+◌, ◌*◌, ◌<◌, List, map, length, get_or, Bool, true, false, if◌then◌else◌, refl, sym, ap, ◌∙◌, Ok, Err}
use Rattle.std.specs.Prelude.{IfOk}
use Rattle.std.specs.declared.result.Result.{Result}
use Rattle.std.proofs.Math.ListN.{get_or-map}
use Rattle.std.proofs.lemmas.List.{length-map}
use Rattle.std.proofs.lemmas.Nat.{div-add-mod', div-mul-add, mod-mul-add, mul-add-lt}
use Rattle.dri_base.specs.declared.colour.Rgb.{Rgb}
use Rattle.dri_base.specs.Planes.{plane}
use Rattle.dri_base.specs.Texels.{sixteen_bits}
use Rattle.dri_base.proofs.PlaneLists.{length-first_pixels, pixel_at, pixels_by_all, plane_same}
use Rattle.dri_plane.specs.Grids.{Grid, Becomes}
use Rattle.dri_plane.proofs.Shown.{shown_becomes}
use Rattle.dri_card16.specs.Widened.{seen}

-- a plane of words, widened
pub plane_seen : (width height : ℕ) (f : ℕ → ℕ → ℕ) → map sixteen_bits (plane width height f) ≡ plane width height (λ x y. sixteen_bits (f x y))
plane_seen width height f =
    pixels_by_all width (λ x y. sixteen_bits (f x y)) (width * height) (map sixteen_bits (plane width height f)) (sixteen_bits (f 0 0)) (length-map (plane width height f) sixteen_bits ∙ length-first_pixels width f (width * height))
    (λ k within. get_or-map sixteen_bits (plane width height f) k (f 0 0) ∙ ap sixteen_bits (pixel_at width f (width * height) k (f 0 0) within))

-- the word at a place of a list of rows
abbrev pub word_in : ℕ → List ℕ → ℕ → ℕ → ℕ
word_in width words x y = get_or words (y * width + x) 0

-- words that show the pixels of a plane are a plane, and each shows its pixel
words_are : (width height : ℕ) (words : List ℕ) (f : ℕ → ℕ → Rgb) → map sixteen_bits words ≡ plane width height f → words ≡ plane width height (word_in width words)
words_are width height words f shows =
    pixels_by_all width (word_in width words) (width * height) words 0 (sym (length-map words sixteen_bits) ∙ ap length shows ∙ length-first_pixels width f (width * height))
    (λ k within. ap (λ i. get_or words i 0) (sym (div-add-mod' k width)))

word_shows : (width height : ℕ) (words : List ℕ) (f : ℕ → ℕ → Rgb) (x y : ℕ) → x < width → y < height → map sixteen_bits words ≡ plane width height f → sixteen_bits (word_in width words x y) ≡ f x y
word_shows width height words f x y column row shows =
    sym (get_or-map sixteen_bits words (y * width + x) 0) ∙ ap (λ l. get_or l (y * width + x) (sixteen_bits 0)) shows
    ∙ pixel_at width f (width * height) (y * width + x) (sixteen_bits 0) (mul-add-lt y width x height row column)
    ∙ rw (mod-mul-add y width x column, div-mul-add y width x column) refl

-- words of another plane with the same sides come at some places
pub words_copied : (from old new : Grid ℕ) (places : ℕ → ℕ → Bool) (f : ℕ → ℕ → Rgb) → from.width ≡ old.width → from.height ≡ old.height
    → ((source : ℕ → ℕ → ℕ) → from.pixels ≡ plane from.width from.height source → Becomes old new (λ g x y. if places x y then source x y else g x y))
    → (seen from).pixels ≡ plane from.width from.height f → Becomes (seen old) (seen new) (λ g x y. if places x y then f x y else g x y)
words_copied from old new places f wide high copies shows = λ g was.
    shown_becomes (map sixteen_bits) sixteen_bits (λ l. refl) 0 old new (λ h x y. if places x y then own x y else h x y) (λ h x y. if places x y then sixteen_bits (own x y) else h x y)
    (λ h x y. by (places x y) (own x y) (h x y)) (λ h k same x y lx ly. ap (λ (c : Rgb). if places x y then sixteen_bits (own x y) else c) (same x y lx ly))
    (copies own (words_are from.width from.height from.pixels f shows)) g was
    ∙ plane_same old.width old.height _ _ (λ x y lx ly. ap (λ (c : Rgb). if places x y then c else g x y) (word_shows from.width from.height from.pixels f x y (rw wide lx) (rw high ly) shows))
  where
    own : ℕ → ℕ → ℕ
    own = word_in from.width from.pixels

    by : (b : Bool) (u v : ℕ) → sixteen_bits (if b then u else v) ≡ (if b then sixteen_bits u else sixteen_bits v)
    by true u v = refl
    by false u v = refl

-- what follows of an answer, where there is one
pub ok_then : {A B : Type 0} {P Q : A → Type 0} (r : Result A B) → ((x : A) → P x → Q x) → IfOk r P → IfOk r Q
ok_then (Ok x) follows p = follows x p
ok_then (Err e) follows p = p
