-- What the ranges of a line say of it, in the words of a scene in range.
use Rattle.std.specs.Prelude.{◌≡◌, ℕ, ◌*◌, List, length, Some}
use Rattle.dri_base.specs.declared.command.Change.{Change}
use Rattle.dri_base.specs.declared.command.Change.TheVariants as Change_is
use Rattle.dri_base.specs.declared.command.Command.{Command}
use Rattle.dri_base.specs.declared.command.Command.TheVariants as Command_is
use Rattle.dri_base.specs.declared.state.Setting.{Setting}
use Rattle.dri_base.specs.declared.state.Setting.TheVariants as Setting_is
use Rattle.dri_base.specs.declared.texture.TexShape.{TexShape}
use Rattle.dri_base.specs.Ranges.{IsWithin, IsSide, IsPlace, IsRegionSize, WindowInRange, TriangleInRange, ScissorInRange}
use Rattle.dri_base.specs.Scenes.{texel_bytes}
use Rattle.dri_scene.specs.declared.form.CommandForm.{CommandForm}
use Rattle.dri_scene.specs.declared.form.CommandForm.TheVariants as commands
use Rattle.dri_scene.specs.declared.form.Form.{Form}
use Rattle.dri_scene.specs.declared.form.Form.TheVariants as forms
use Rattle.dri_scene.specs.declared.line.Line.{Line}
use Rattle.dri_scene.specs.declared.line.Line.TheVariants as lines

-- a scissor is in range
abbrev pub IsSettingRanged : Setting → Type 0
IsSettingRanged (Setting_is.Scissor (Some r)) = ScissorInRange r
IsSettingRanged setting = Unit {0}

-- the command of a form, its numbers in range
abbrev pub IsCommandOf : CommandForm → Command → Type 0
IsCommandOf (commands.Set form) (Command_is.Set setting) = IsSettingRanged setting
IsCommandOf (commands.Clear old z) (Command_is.Clear colour depth) = Unit {0}
IsCommandOf (commands.Triangle a b c) (Command_is.Triangle triangle) = TriangleInRange triangle
IsCommandOf commands.Swap Command_is.Swap = Unit {0}
IsCommandOf commands.Yield Command_is.Yield = Unit {0}
IsCommandOf commands.Die Command_is.Die = Unit {0}
IsCommandOf form command = ⊥

-- the numbers of a change but its window are in range
abbrev pub IsChangeRanged : Change → Type 0
IsChangeRanged (Change_is.Move w x y) = IsPlace x × IsPlace y
IsChangeRanged (Change_is.Resize w width height) = IsSide width × IsSide height
IsChangeRanged change = Unit {0}

-- a texture line's numbers are in range, with two digits for each byte of the shape
pub record IsTextureRanged (number : ℕ) (shape : TexShape) (image : List ℕ) : Type 0 where
  pub numbered : IsWithin 1 64 number
  pub wide : IsWithin 1 256 shape.width
  pub high : IsWithin 1 256 shape.height
  pub whole : length image ≡ 2 * (texel_bytes shape.format * (shape.width * shape.height))

-- the line of a form, its numbers in range
abbrev pub IsLineOf : Form → Line → Type 0
IsLineOf forms.Title lines.Title = Unit {0}
IsLineOf (forms.Screen w h colour) (lines.Screen width height root) = IsSide width × IsSide height
IsLineOf (forms.Heap n s) (lines.Heap regions size) = IsWithin 1 64 regions × IsRegionSize size
IsLineOf (forms.Window form) (lines.Window window) = WindowInRange window
IsLineOf (forms.Client c w) (lines.Client number window) = IsWithin 1 32 number
IsLineOf (forms.Texture form) (lines.Texture number shape image) = IsTextureRanged number shape image
IsLineOf (forms.Command form) (lines.Command command) = IsCommandOf form command
IsLineOf forms.Server lines.Server = Unit {0}
IsLineOf (forms.Change form) (lines.Change change) = IsChangeRanged change
IsLineOf forms.Turns lines.Turns = Unit {0}
IsLineOf (forms.Item form) (lines.Item item) = Unit {0}
IsLineOf forms.End lines.End = Unit {0}
IsLineOf forms.Done lines.Done = Unit {0}
IsLineOf form line = ⊥
