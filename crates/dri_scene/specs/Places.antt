-- Which lines may stand where: the sections of a text in their order.
use Rattle.std.specs.Prelude.{Some, None, Bool, true, false}
use Rattle.std.specs.declared.option.Option.{Option}
use Rattle.dri_scene.specs.declared.form.CommandForm.TheVariants as commands
use Rattle.dri_scene.specs.declared.form.Form.{Form}
use Rattle.dri_scene.specs.declared.form.Form.TheVariants as forms
use Rattle.dri_scene.specs.declared.place.Place.{Place}
use Rattle.dri_scene.specs.declared.place.Place.TheVariants as places

-- in a client's block behind its textures: commands and the end; after a die the end alone
unfoldable pub place_in_script : Form → Option Place
place_in_script (forms.Command commands.Die) = Some places.Dead
place_in_script (forms.Command command) = Some places.Commands
place_in_script forms.End = Some places.Clients
place_in_script form = None

-- behind the clients: a server block, a turns block and done, each further than the last
unfoldable pub place_behind_clients : Form → Option Place
place_behind_clients forms.Server = Some places.Changes
place_behind_clients forms.Turns = Some places.Turns
place_behind_clients forms.Done = Some places.End
place_behind_clients form = None

-- where a line of this form leads, where it is allowed
unfoldable pub place_after : Place → Form → Option Place
place_after places.Title forms.Title = Some places.Screen
place_after places.Screen (forms.Screen width height root) = Some places.Heap
place_after places.Heap (forms.Heap regions size) = Some places.Windows
place_after places.Windows (forms.Window window) = Some places.Windows
place_after places.Windows (forms.Client number window) = Some places.Textures
place_after places.Windows form = place_behind_clients form
place_after places.Clients (forms.Client number window) = Some places.Textures
place_after places.Clients form = place_behind_clients form
place_after places.Textures (forms.Texture texture) = Some places.Textures
place_after places.Textures form = place_in_script form
place_after places.Commands form = place_in_script form
place_after places.Dead forms.End = Some places.Clients
place_after places.Changes (forms.Change change) = Some places.Changes
place_after places.Changes forms.End = Some places.Schedule
place_after places.Schedule forms.Turns = Some places.Turns
place_after places.Schedule forms.Done = Some places.End
place_after places.Turns (forms.Item item) = Some places.Turns
place_after places.Turns forms.End = Some places.Done
place_after places.Done forms.Done = Some places.End
place_after place form = None

-- the scene is whole
abbrev pub is_end : Place → Bool
is_end places.End = true
is_end place = false

-- an end here is that of a client's block
abbrev pub is_in_client : Place → Bool
is_in_client places.Textures = true
is_in_client places.Commands = true
is_in_client places.Dead = true
is_in_client place = false
