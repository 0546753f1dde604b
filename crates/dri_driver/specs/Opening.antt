-- The clients of a scene before anything happened.
use Rattle.std.specs.Prelude.{◌≡◌, ℕ, List, length, Some, false, slice_get}
use Rattle.dri_base.specs.Scenes.{commands_of}
use Rattle.dri_base.specs.declared.scene.Scene.{Scene}
use Rattle.dri_core.specs.Privates.{opening_part}
use Rattle.dri_driver.specs.Clients.{ClientState, part_of}

-- a client of the scene at the opening
pub record IsOpening (s : Scene) (number : ℕ) (k : ClientState) : Type 0 where
  pub scene : k.scene ≡ s
  pub numbered : k.number ≡ number
  pub living : k.dying ≡ false
  pub part : part_of k ≡ opening_part (commands_of s number)

-- a client at the opening for each of these numbers, in their order
pub record AreOpening (s : Scene) (numbers : List ℕ) (ks : List ClientState) : Type 0 where
  pub number : length ks ≡ length numbers
  pub each : (i n : ℕ) (k : ClientState) → slice_get numbers i ≡ Some n → slice_get ks i ≡ Some k → IsOpening s n k
