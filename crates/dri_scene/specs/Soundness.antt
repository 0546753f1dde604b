-- A reading of lines that are allowed is a scene in range, as far as it goes.
use Rattle.std.specs.Prelude.{◌≡◌, ◌≢◌, ◌<◌, ◌≤◌, ◌+◌, [], length, All}
use Rattle.dri_base.specs.declared.command.Command.TheVariants as Command_is
use Rattle.dri_base.specs.declared.scene.Scene.{Scene}
use Rattle.dri_base.specs.Ranges.{IsSide, CardInRange, WindowsInRange, ClientInRange, ClientsInRange, ChangesInRange, TurnsInRange, heap_bytes, client_numbers, command_count, window_numbers, texture_numbers}
use Rattle.dri_base.specs.Limits.{most_commands}
use Rattle.dri_scene.specs.declared.place.Place.{Place}
use Rattle.dri_scene.specs.declared.place.Place.TheVariants as places
use Rattle.dri_scene.specs.declared.reading.Reading.{Reading}

-- no client, change or item yet
pub record IsEarly (s : Scene) : Type 0 where
  pub clients : s.clients ≡ []
  pub changes : s.changes ≡ []
  pub turns : s.turns ≡ []

-- the card's numbers were read, and no change or item yet
pub record IsMiddle (s : Scene) : Type 0 where
  pub card : CardInRange s
  pub changes : s.changes ≡ []
  pub turns : s.turns ≡ []

-- what the place says of the scene
abbrev pub HeadAt : Place → Scene → Type 0
HeadAt places.Title s = IsEarly s
HeadAt places.Screen s = IsEarly s
HeadAt places.Heap s = IsEarly s × IsSide s.width × IsSide s.height
HeadAt places.Windows s = IsEarly s × CardInRange s
HeadAt places.Clients s = IsMiddle s
HeadAt places.Textures s = IsMiddle s
HeadAt places.Commands s = IsMiddle s
HeadAt places.Dead s = IsMiddle s
HeadAt place s = CardInRange s

-- the block that is being read is that of a client in range, whose number and whose textures' numbers are the last ones
pub record IsBlock (r : Reading) : Type 0 where
  pub client : ClientInRange r.scene.windows (heap_bytes r.scene) r.script
  pub above : All (λ n. n < r.script.number) (client_numbers r.scene.clients)
  pub last : r.last_client ≡ r.script.number
  pub textures : All (λ n. n ≤ r.last_texture) (texture_numbers r.script.textures)

-- what the place says of the block
abbrev pub BlockAt : Place → Reading → Type 0
BlockAt places.Textures r = IsBlock r × (r.script.commands ≡ [])
BlockAt places.Commands r = IsBlock r × All (λ c. c ≢ Command_is.Die) r.script.commands
BlockAt places.Dead r = IsBlock r
BlockAt place r = r.script.commands ≡ []

-- what was read is in range
pub record IsSoFar (r : Reading) : Type 0 where
  pub windows : WindowsInRange r.scene.windows
  pub clients : ClientsInRange r.scene.windows (heap_bytes r.scene) r.scene.clients
  pub most : All (λ n. n ≤ r.last_client) (client_numbers r.scene.clients)
  pub counted : command_count r.scene.clients + length r.script.commands ≡ r.commands
  pub few : r.commands ≤ most_commands
  pub changes : ChangesInRange (window_numbers r.scene.windows) r.scene.changes
  pub turns : TurnsInRange (client_numbers r.scene.clients) r.scene.turns

-- a reading of lines that are allowed
pub record IsSound (r : Reading) : Type 0 where
  pub so_far : IsSoFar r
  pub head : HeadAt r.place r.scene
  pub block : BlockAt r.place r
