-- A client's drawing state, and the groups of it that the card has not seen yet.
use Rattle.dri_base.specs.declared.state.State.{State}
use Rattle.dri_base.specs.declared.state.Setting.{Setting}
use Rattle.dri_base.specs.declared.state.Setting.TheVariants as Setting_is
use Rattle.dri_model.specs.Groups.{Groups}
use Rattle.dri_model.specs.Words.{IsScissorInRange}

-- a state, and its dirty groups
pub record Context : Type 0 where
  pub state : State
  pub dirty : Groups

-- a setting that a state can hold: a scissor's numbers are at most 2,048
abbrev pub IsSettingInRange : Setting → Type 0
IsSettingInRange (Setting_is.Scissor scissor) = IsScissorInRange scissor
IsSettingInRange setting = Unit {0}
