-- Register words, and the registers that they leave.
use Rattle.std.specs.Prelude.{◌≡◌, ℕ, ◌+◌, ◌*◌, List, [], ◌∷◌, ◌++◌, Bool, true, false, if◌then◌else◌, Option, Some, None}
use Rattle.dri_base.specs.declared.state.Registers.{Registers}
use Rattle.dri_base.specs.declared.texture.BoundTexture.{BoundTexture}
use Rattle.dri_base.specs.declared.shape.ClipRect.{ClipRect}
use Rattle.dri_base.specs.declared.texture.TexFormat.{TexFormat}
use Rattle.dri_base.specs.declared.texture.TexFormat.TheVariants.{L8, Rgb565}
use Rattle.dri_base.specs.declared.state.State.{State}
use Rattle.dri_model.specs.Groups.{Groups, shade_word, depth_word, flag_word, blend_word, mode_word, wrap_word}
use Rattle.dri_base.specs.Fragments.{Rules}
use Rattle.dri_base.specs.Ranges.{IsWithin, ScissorInRange}
use Rattle.dri_base.specs.Texels.{Image}

-- the registers of a state, with the bound texture where it is placed
abbrev pub registers_for : State → Option BoundTexture → Registers
registers_for s bound = record {
  shade = s.shade;
  depth_func = s.depth_func;
  depth_write = s.depth_write;
  blend = s.blend;
  tex_mode = s.tex_mode;
  wrap = s.wrap;
  bound = bound;
  scissor = s.scissor;
}

-- the card's registers after new ones are loaded in these groups
abbrev pub loaded : Groups → Registers → Registers → Registers
loaded g new old = record {
  shade = if g.shade then new.shade else old.shade;
  depth_func = if g.depth then new.depth_func else old.depth_func;
  depth_write = if g.depth then new.depth_write else old.depth_write;
  blend = if g.blend then new.blend else old.blend;
  tex_mode = if g.mode then new.tex_mode else old.tex_mode;
  wrap = if g.wrap then new.wrap else old.wrap;
  bound = if g.bound then new.bound else old.bound;
  scissor = if g.scissor then new.scissor else old.scissor;
}

-- the rules of the card's registers
abbrev pub rules_in : Registers → Rules
rules_in r = record {
  shade = r.shade;
  depth_func = r.depth_func;
  depth_write = r.depth_write;
  blend = r.blend;
  tex_mode = r.tex_mode;
  wrap = r.wrap;
  scissor = r.scissor;
}

-- the image that the card finds in its memory
abbrev pub card_image : (ℕ → ℕ) → Option BoundTexture → Option Image
card_image memory None = None
card_image memory (Some b) = Some (record { shape = b.shape; byte = λ n. memory (b.base + n) })

-- l8, rgb565
abbrev pub format_word : TexFormat → ℕ
format_word L8 = 1
format_word Rgb565 = 2

-- two numbers of sixteen bits in one word
abbrev pub halves : ℕ → ℕ → ℕ
halves low high = low + 65536 * high

-- none, or the format, the base and the sides
abbrev pub bound_words : Option BoundTexture → List ℕ
bound_words None = 0 ∷ 0 ∷ 0 ∷ []
bound_words (Some b) = format_word b.shape.format ∷ b.base ∷ halves b.shape.width b.shape.height ∷ []

-- none, or the two corners
abbrev pub scissor_words : Option ClipRect → List ℕ
scissor_words None = 0 ∷ 0 ∷ 0 ∷ []
scissor_words (Some r) = 1 ∷ halves r.x1 r.y1 ∷ halves r.x2 r.y2 ∷ []

-- a group's header and its words, where the group is named
abbrev pub group_words : Bool → ℕ → List ℕ → List ℕ
group_words true number words = (0x52000000 + number) ∷ words
group_words false number words = []

-- the words that spell these groups of the registers, in rising number
abbrev pub register_words : Groups → Registers → List ℕ
register_words g r =
    group_words g.shade 0 (shade_word r.shade ∷ []) ++
    (group_words g.depth 1 (depth_word r.depth_func ∷ flag_word r.depth_write ∷ []) ++
    (group_words g.blend 2 (blend_word r.blend ∷ []) ++
    (group_words g.mode 3 (mode_word r.tex_mode ∷ []) ++
    (group_words g.wrap 4 (wrap_word r.wrap ∷ []) ++
    (group_words g.bound 5 (bound_words r.bound) ++
    group_words g.scissor 6 (scissor_words r.scissor))))))

-- the words that a driver emits for these groups of its state, with the bound texture where it is placed
abbrev pub emitted_words : Groups → State → Option BoundTexture → List ℕ
emitted_words g s bound = register_words g (registers_for s bound)

-- the sides of a bound image are 1 to 256
abbrev pub IsBoundInRange : Option BoundTexture → Type 0
IsBoundInRange None = Unit {0}
IsBoundInRange (Some b) = IsWithin 1 256 b.shape.width × IsWithin 1 256 b.shape.height

-- each half of a scissor is at most 2,048
abbrev pub IsScissorInRange : Option ClipRect → Type 0
IsScissorInRange None = Unit {0}
IsScissorInRange (Some r) = ScissorInRange r

-- words that the card takes: they spell some groups of some registers in range, which are then loaded
pub record Spelled (words : List ℕ) : Type 0 where
  pub groups : Groups
  pub registers : Registers
  pub bound : IsBoundInRange registers.bound
  pub scissor : IsScissorInRange registers.scissor
  pub spells : words ≡ register_words groups registers
