-- The groups of registers: the number of each value in a register word, and sets of groups.
use Rattle.std.specs.Prelude.{ℕ, ◌+◌, ◌*◌, Bool, true, false, not, ◌==◌, ◌&&◌, ◌||◌, Option, Some, None}
use Rattle.dri_base.specs.declared.shape.ClipRect.{ClipRect}
use Rattle.dri_base.specs.declared.state.Shade.{Shade}
use Rattle.dri_base.specs.declared.state.Shade.TheVariants as Shade_is
use Rattle.dri_base.specs.declared.state.DepthFunc.{DepthFunc}
use Rattle.dri_base.specs.declared.state.DepthFunc.TheVariants as Depth_is
use Rattle.dri_base.specs.declared.state.Blend.{Blend}
use Rattle.dri_base.specs.declared.state.Blend.TheVariants as Blend_is
use Rattle.dri_base.specs.declared.state.TexMode.{TexMode}
use Rattle.dri_base.specs.declared.state.TexMode.TheVariants as Mode_is
use Rattle.dri_base.specs.declared.state.Wrap.{Wrap}
use Rattle.dri_base.specs.declared.state.Wrap.TheVariants as Wrap_is
use Rattle.dri_base.specs.declared.state.State.{State}

-- flat, smooth
abbrev pub shade_word : Shade → ℕ
shade_word Shade_is.Flat = 0
shade_word Shade_is.Smooth = 1

-- depth functions in their order, from never to always
abbrev pub depth_word : DepthFunc → ℕ
depth_word Depth_is.Never = 0
depth_word Depth_is.Less = 1
depth_word Depth_is.Equal = 2
depth_word Depth_is.LessEqual = 3
depth_word Depth_is.Greater = 4
depth_word Depth_is.NotEqual = 5
depth_word Depth_is.GreaterEqual = 6
depth_word Depth_is.Always = 7

-- off, alpha, add
abbrev pub blend_word : Blend → ℕ
blend_word Blend_is.Off = 0
blend_word Blend_is.Alpha = 1
blend_word Blend_is.Add = 2

-- off, replace, modulate
abbrev pub mode_word : TexMode → ℕ
mode_word Mode_is.Off = 0
mode_word Mode_is.Replace = 1
mode_word Mode_is.Modulate = 2

-- repeat, clamp
abbrev pub wrap_word : Wrap → ℕ
wrap_word Wrap_is.Repeat = 0
wrap_word Wrap_is.Clamp = 1

-- off, on
abbrev pub flag_word : Bool → ℕ
flag_word false = 0
flag_word true = 1

-- both are none, or one number
abbrev pub same_number : Option ℕ → Option ℕ → Bool
same_number None None = true
same_number (Some a) (Some b) = a == b
same_number None (Some b) = false
same_number (Some a) None = false

-- both are none, or one rectangle
abbrev pub same_rect : Option ClipRect → Option ClipRect → Bool
same_rect None None = true
same_rect (Some a) (Some b) = ((a.x1 == b.x1) && (a.y1 == b.y1)) && ((a.x2 == b.x2) && (a.y2 == b.y2))
same_rect None (Some b) = false
same_rect (Some a) None = false

-- a set of the seven groups of registers
pub record Groups : Type 0 where
  pub shade : Bool
  pub depth : Bool
  pub blend : Bool
  pub mode : Bool
  pub wrap : Bool
  pub bound : Bool
  pub scissor : Bool

-- the set of all seven
abbrev pub all_groups : Groups
all_groups = record { shade = true; depth = true; blend = true; mode = true; wrap = true; bound = true; scissor = true }

-- the empty set
abbrev pub no_groups : Groups
no_groups = record { shade = false; depth = false; blend = false; mode = false; wrap = false; bound = false; scissor = false }

-- all groups where it is so, else the set as it is
abbrev pub all_where : Bool → Groups → Groups
all_where so g = record {
  shade = so || g.shade;
  depth = so || g.depth;
  blend = so || g.blend;
  mode = so || g.mode;
  wrap = so || g.wrap;
  bound = so || g.bound;
  scissor = so || g.scissor;
}

-- the set with the group of the bound texture where it is so, else the set as it is
abbrev pub with_bound : Bool → Groups → Groups
with_bound so g = record g { bound = g.bound || so }

-- the number of a set: a bit for each group, from 1 for shade to 64 for scissor
abbrev pub bits : Groups → ℕ
bits g = flag_word g.shade + (2 * flag_word g.depth + (4 * flag_word g.blend + (8 * flag_word g.mode + (16 * flag_word g.wrap + (32 * flag_word g.bound + 64 * flag_word g.scissor)))))

-- no group is in the set
abbrev pub is_empty : Groups → Bool
is_empty g = not g.shade && (not g.depth && (not g.blend && (not g.mode && (not g.wrap && (not g.bound && not g.scissor)))))

-- the dirty groups after a setting: those that were dirty, and those whose value differs
abbrev pub dirtied : State → State → Groups → Groups
dirtied old new g = record {
  shade = g.shade || not (shade_word old.shade == shade_word new.shade);
  depth = g.depth || not ((depth_word old.depth_func == depth_word new.depth_func) && (flag_word old.depth_write == flag_word new.depth_write));
  blend = g.blend || not (blend_word old.blend == blend_word new.blend);
  mode = g.mode || not (mode_word old.tex_mode == mode_word new.tex_mode);
  wrap = g.wrap || not (wrap_word old.wrap == wrap_word new.wrap);
  bound = g.bound || not (same_number old.bound new.bound);
  scissor = g.scissor || not (same_rect old.scissor new.scissor);
}
