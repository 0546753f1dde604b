-- The board of a scene, as a window stack with stamps.
use Rattle.std.specs.Prelude.{◌≡◌, ℕ, List}
use Rattle.dri_base.specs.declared.scene.Scene.{Scene}
use Rattle.dri_base.specs.declared.scene.Window.{Window}
use Rattle.dri_clips.specs.Boards.{Screen, stamps_of}

-- the board has the scene's sides and root colour, and this stack with these stamps
pub record IsBoardOf (s : Scene) (stack : List Window) (stamps : ℕ → ℕ) (counter : ℕ) (board : Screen) : Type 0 where
  pub width : board.width ≡ s.width
  pub height : board.height ≡ s.height
  pub root : board.root ≡ s.root
  pub windows : board.stack ≡ stack
  pub given : stamps_of board ≡ stamps
  pub last : board.counter ≡ counter
