-- Jobs: which are good, and what each makes of the planes.
use Rattle.std.specs.Prelude.{ℕ, ◌≡◌, ◌==◌, ◌-ℤ◌, ℤ, pos, List, get_or, Bool, true, ◌&&◌, nat_lt, if◌then◌else◌, Option}
use Rattle.dri_base.specs.Fragments.{Rules, fragment}
use Rattle.dri_base.specs.Ranges.{IsPlace, TriangleInRange}
use Rattle.dri_base.specs.Scenes.{textures_of}
use Rattle.dri_base.specs.Texels.{own_image, texture_bound}
use Rattle.dri_base.specs.declared.colour.Pixel.{Pixel}
use Rattle.dri_base.specs.declared.colour.Rgb.{Rgb}
use Rattle.dri_base.specs.declared.scene.Scene.{Scene}
use Rattle.dri_base.specs.declared.shape.Rect.{Rect}
use Rattle.dri_context.specs.Reading.{blend_of, depth_of, mode_of, scissor_of, shade_of, wrap_of}
use Rattle.dri_draw.specs.Drawing.{cleared_in, has_place, in_clips, swapped_in}
use Rattle.dri_meaning.specs.Canvases.{bound_first}
use Rattle.dri_model.specs.Groups.{all_groups}
use Rattle.dri_model.specs.Words.{Spelled}
use Rattle.dri_rect.specs.Pixels.{inside}
use Rattle.dri_ring.specs.declared.job.Job.{Job}
use Rattle.dri_ring.specs.declared.job.Job.TheVariants as Job_is

-- at each place a colour in front, and the pair that is drawn behind it
pub record Planes : Type 0 where
  pub front : ℕ → ℕ → Rgb
  pub back : ℕ → ℕ → Pixel

-- the place lies on a screen with these sides
abbrev pub on_screen : ℕ → ℕ → ℕ → ℕ → Bool
on_screen width height x y = nat_lt x width && nat_lt y height

-- each pixel of the rectangles is one of a screen with these sides
abbrev pub AreWithin : ℕ → ℕ → List Rect → Type 0
AreWithin width height rects = (x y : ℤ) → inside rects x y ≡ true → has_place (on_screen width height) x y ≡ true

-- word k, counted from 0
abbrev pub word_at : List ℕ → ℕ → ℕ
word_at words k = get_or words k 0

-- the rules of the state that words of all seven groups spell: each group's values stand behind its header
abbrev pub spelled_rules : List ℕ → Rules
spelled_rules words = record {
  shade = shade_of (word_at words 1);
  depth_func = depth_of (word_at words 3);
  depth_write = word_at words 4 == 1;
  blend = blend_of (word_at words 6);
  tex_mode = mode_of (word_at words 8);
  wrap = wrap_of (word_at words 10);
  scissor = scissor_of (word_at words 16) (word_at words 17) (word_at words 18);
}

-- the words spell all seven groups, and the texture that they bind is this one of the client's, with its first byte at 0, or none
pub record SpellAll (s : Scene) (client : ℕ) (texture : Option ℕ) (words : List ℕ) : Type 0 where
  pub spelled : Spelled words
  pub all : spelled.groups ≡ all_groups
  pub bound : spelled.registers.bound ≡ bound_first (texture_bound (textures_of s client) texture)

-- a good job: its clips are within the screen, and its words spell all that it is drawn with
abbrev pub IsGood : Scene → Job → Type 0
IsGood s (Job_is.Clear clips colour depth) = AreWithin s.width s.height clips
IsGood s (Job_is.Draw clips origin words client texture t) = AreWithin s.width s.height clips × SpellAll s client texture words
IsGood s (Job_is.Swap clips) = AreWithin s.width s.height clips

-- a job that a card can draw: its triangle's corners and its window's are in range
abbrev pub IsDrawable : Job → Type 0
IsDrawable (Job_is.Clear clips colour depth) = Unit {0}
IsDrawable (Job_is.Draw clips origin words client texture t) = IsPlace origin.x × IsPlace origin.y × TriangleInRange t
IsDrawable (Job_is.Swap clips) = Unit {0}

-- back, with its depth, after a job
abbrev pub back_after : Scene → Job → (ℕ → ℕ → Pixel) → ℕ → ℕ → Pixel
back_after s (Job_is.Clear clips colour depth) f x y = cleared_in clips colour depth f x y
back_after s (Job_is.Draw clips origin words client texture t) f x y =
    if in_clips clips x y then fragment (spelled_rules words) (own_image (textures_of s client) texture) t (pos x -ℤ origin.x) (pos y -ℤ origin.y) (f x y) else f x y
back_after s (Job_is.Swap clips) f x y = f x y

-- front after a job, where back had these pairs
abbrev pub front_after : Job → (ℕ → ℕ → Pixel) → (ℕ → ℕ → Rgb) → ℕ → ℕ → Rgb
front_after (Job_is.Clear clips colour depth) f shown x y = shown x y
front_after (Job_is.Draw clips origin words client texture t) f shown x y = shown x y
front_after (Job_is.Swap clips) f shown x y = swapped_in clips f shown x y

-- the planes after a job: a clear, the pixel rule with the state that its words spell and its client's image, or a copy of back to front, at each pixel of its clips
abbrev pub effect : Scene → Planes → Job → Planes
effect s p job = record { front = front_after job p.back p.front; back = back_after s job p.back }
