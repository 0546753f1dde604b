-- Scissors that differ only beyond what a screen shows of a window.
use Rattle.std.specs.Prelude.{◌≡◌, ℤ, pos, ◌<ℤ◌, Option}
use Rattle.dri_base.specs.declared.shape.ClipRect.{ClipRect}
use Rattle.dri_base.specs.Fragments.{Rules, in_scissor}

-- of the window's pixels that a screen can show, the two scissors have the same
abbrev pub HoldSame : Option ClipRect → Option ClipRect → Type 0
HoldSame a b = (x y : ℤ) → x <ℤ pos 2048 → y <ℤ pos 2048 → in_scissor a x y ≡ in_scissor b x y

-- two rules differ only so
pub record DrawAlike (r s : Rules) : Type 0 where
  pub others : r ≡ record s { scissor = r.scissor }
  pub scissors : HoldSame r.scissor s.scissor
