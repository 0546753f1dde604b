-- What a text leads to: line by line, a scene or the first refusal.
use Rattle.std.specs.Prelude.{◌≡◌, ℕ, ◌+◌, ◌*◌, ◌/◌, ◌-◌, List, [], ◌∷◌, ◌++◌, length, Bool, true, false, not, ◌==◌, ◌&&◌, ◌||◌, nat_lt, nat_le, if◌then◌else◌, Some, None, Result, Ok, Err}
use Rattle.std.specs.List.{list_any}
use Rattle.std.specs.declared.option.Option.{Option}
use Rattle.dri_base.specs.declared.colour.Rgb.{Rgb}
use Rattle.dri_base.specs.declared.command.Change.{Change}
use Rattle.dri_base.specs.declared.command.Command.{Command}
use Rattle.dri_base.specs.declared.command.Command.TheVariants as Command_is
use Rattle.dri_base.specs.declared.command.Item.{Item}
use Rattle.dri_base.specs.declared.command.Item.TheVariants as Item_is
use Rattle.dri_base.specs.declared.scene.ClientScript.{ClientScript}
use Rattle.dri_base.specs.declared.scene.Scene.{Scene}
use Rattle.dri_base.specs.declared.scene.Window.{Window}
use Rattle.dri_base.specs.declared.state.Setting.TheVariants as Setting_is
use Rattle.dri_base.specs.declared.texture.Texture.{Texture}
use Rattle.dri_base.specs.declared.texture.TexShape.{TexShape}
use Rattle.dri_base.specs.Ranges.{heap_bytes, owner_of}
use Rattle.dri_base.specs.Scenes.{kills_in, named_by}
use Rattle.dri_base.specs.Limits.{most_changes, most_commands, most_items}
use Rattle.dri_words.specs.declared.reason.Reason.{Reason}
use Rattle.dri_words.specs.declared.reason.Reason.TheVariants as reasons
pub use Rattle.dri_words.specs.declared.lines.Refusal.{Refusal}
use Rattle.dri_words.specs.Lines.{◌>>=◌, at_line, ends, is_passed_over, or_else}
use Rattle.dri_words.specs.Parts.{parts_at, is_nil}
use Rattle.dri_scene.specs.declared.fault.SceneFault.{SceneFault}
use Rattle.dri_scene.specs.declared.fault.SceneFault.TheVariants as faults
use Rattle.dri_scene.specs.declared.fault.Stop.{Stop}
use Rattle.dri_scene.specs.declared.fault.Stop.TheVariants as stops
use Rattle.dri_scene.specs.declared.line.Line.{Line}
use Rattle.dri_scene.specs.declared.line.Line.TheVariants as lines
use Rattle.dri_scene.specs.declared.part.Begun.{Begun}
use Rattle.dri_scene.specs.declared.part.Part.{Part}
use Rattle.dri_scene.specs.declared.place.Place.TheVariants as places
use Rattle.dri_scene.specs.declared.reading.Reading.{Reading}
use Rattle.dri_scene.specs.Forms.{form_of}
use Rattle.dri_scene.specs.Lines.{line_in}
use Rattle.dri_scene.specs.Places.{place_after, is_end, is_in_client}

-- a block without lines
abbrev pub no_script : ClientScript
no_script = record { number = 0; window = 0; textures = []; commands = [] }

-- before the first line
abbrev pub opening : Reading
opening = record {
  place = places.Title;
  scene = record {
    width = 0;
    height = 0;
    root = record { r = 0; g = 0; b = 0 };
    regions = 0;
    region_size = 0;
    windows = [];
    clients = [];
    changes = [];
    turns = [];
  };
  script = no_script;
  commands = 0;
  last_client = 0;
  last_texture = 0;
}

-- one of the windows has this number
abbrev pub has_window : ℕ → List Window → Bool
has_window n windows = list_any (λ w. w.number == n) windows

-- one of the clients has this number
abbrev pub has_client : ℕ → List ClientScript → Bool
has_client n clients = list_any (λ c. c.number == n) clients

-- one of the textures has this number
abbrev pub has_texture : ℕ → List Texture → Bool
has_texture n textures = list_any (λ t. t.number == n) textures

-- a window more; twice: its number was given before
unfoldable pub with_window : Reading → Window → Result Reading Reason
with_window r w = if has_window w.number r.scene.windows then Err reasons.Twice
    else Ok (record r { scene = record r.scene { windows = r.scene.windows ++ w ∷ [] } })

-- the owner is there and is this client
abbrev pub is_owner : Option ℕ → ℕ → Bool
is_owner None client = false
is_owner (Some owner) client = owner == client

-- the window is there and has this owner
abbrev pub owns : List Window → ℕ → ℕ → Bool
owns windows window client = is_owner (owner_of windows window) client

-- a client's block begins; unknown: the client doesn't own such a window; order: its number isn't above the last
unfoldable pub with_client : Reading → ℕ → ℕ → Result Reading Reason
with_client r number window =
    if not (owns r.scene.windows window number) then Err reasons.Unknown
    else if nat_le number r.last_client then Err reasons.Order
    else Ok (record r { script = record { number = number; window = window; textures = []; commands = [] }; last_client = number; last_texture = 0 })

-- the value of a hexadecimal digit
abbrev pub digit_value : ℕ → ℕ
digit_value c = if nat_le 48 c && nat_le c 57 then c - 48 else if nat_le 97 c && nat_le c 102 then c - 87 else 0

-- the bytes of an image: two digits each, the higher first
abbrev pub image_bytes : List ℕ → List ℕ
image_bytes [] = []
image_bytes (high ∷ []) = []
image_bytes (high ∷ low ∷ more) = (16 * digit_value high + digit_value low) ∷ image_bytes more

-- a texture more; order: its number isn't above the last; heap: it has more bytes than all regions together
unfoldable pub with_texture : Reading → ℕ → TexShape → List ℕ → Result Reading Reason
with_texture r number shape digits =
    if nat_le number r.last_texture then Err reasons.Order
    else if nat_lt (heap_bytes r.scene) (length digits / 2) then Err reasons.Heap
    else Ok (record r { script = record r.script { textures = r.script.textures ++ record { number = number; shape = shape; bytes = image_bytes digits } ∷ [] }; last_texture = number })

-- the textures that a command names are there
abbrev pub names_textures : List Texture → Command → Bool
names_textures textures (Command_is.Set (Setting_is.Bind (Some t))) = has_texture t textures
names_textures textures command = true

-- a command more; unknown: it binds a texture that isn't there; limit: it is the 100,001st of all clients
unfoldable pub with_command : Reading → Command → Result Reading Reason
with_command r command =
    if not (names_textures r.script.textures command) then Err reasons.Unknown
    else if nat_le most_commands r.commands then Err reasons.Limit
    else Ok (record r { script = record r.script { commands = r.script.commands ++ command ∷ [] }; commands = r.commands + 1 })

-- a change more; unknown: its window isn't there; limit: it is the 4,097th
unfoldable pub with_change : Reading → Change → Result Reading Reason
with_change r change =
    if not (has_window (named_by change) r.scene.windows) then Err reasons.Unknown
    else if nat_le most_changes (length r.scene.changes) then Err reasons.Limit
    else Ok (record r { scene = record r.scene { changes = r.scene.changes ++ change ∷ [] } })

-- the client that an item names is there; the server always is
abbrev pub names_client : List ClientScript → Item → Bool
names_client clients (Item_is.Turn actor) = actor == 0 || has_client actor clients
names_client clients (Item_is.Kill client) = has_client client clients

-- the item kills a client that an item before kills
abbrev pub kills_again : List Item → Item → Bool
kills_again items (Item_is.Turn actor) = false
kills_again items (Item_is.Kill client) = kills_in items client

-- an item more; unknown: its client isn't there; twice: a second kill of one client; limit: it is the 1,000,001st
unfoldable pub with_item : Reading → Item → Result Reading Reason
with_item r item =
    if not (names_client r.scene.clients item) then Err reasons.Unknown
    else if kills_again r.scene.turns item then Err reasons.Twice
    else if nat_le most_items (length r.scene.turns) then Err reasons.Limit
    else Ok (record r { scene = record r.scene { turns = r.scene.turns ++ item ∷ [] } })

-- a block is whole: a client's block joins the scene
unfoldable pub with_end : Reading → Reading
with_end r = if is_in_client r.place then record r { script = no_script; scene = record r.scene { clients = r.scene.clients ++ r.script ∷ [] } } else r

-- the screen's numbers
abbrev pub with_screen : Reading → ℕ → ℕ → Rgb → Reading
with_screen r width height root = record r { scene = record r.scene { width = width; height = height; root = root } }

-- the heap's numbers
abbrev pub with_heap : Reading → ℕ → ℕ → Reading
with_heap r regions size = record r { scene = record r.scene { regions = regions; region_size = size } }

-- the reading takes on a line that may stand there
unfoldable pub taken : Reading → Line → Result Reading Reason
taken r (lines.Screen width height root) = Ok (with_screen r width height root)
taken r (lines.Heap regions size) = Ok (with_heap r regions size)
taken r (lines.Window window) = with_window r window
taken r (lines.Client number window) = with_client r number window
taken r (lines.Texture number shape digits) = with_texture r number shape digits
taken r (lines.Command command) = with_command r command
taken r (lines.Change change) = with_change r change
taken r (lines.Item item) = with_item r item
taken r lines.End = Ok (with_end r)
taken r lines.Title = Ok r
taken r lines.Server = Ok r
taken r lines.Turns = Ok r
taken r lines.Done = Ok r

-- a line: its form and place, then its ranges, then what it does to the scene
unfoldable pub after_words : Reading → List (List ℕ) → Result Reading Reason
after_words r words = do
  form ← or_else reasons.Shape (form_of words)
  place ← or_else reasons.Shape (place_after r.place form)
  line ← or_else reasons.Range (line_in form)
  next ← taken r line
  Ok (record next { place = place })

-- what a line's bytes lead to
unfoldable pub after_bytes : Reading → List ℕ → Result Reading Reason
after_bytes r bytes = if is_passed_over bytes then Ok r else after_words r (parts_at 32 bytes)

-- from line n at byte b on: the lines up to done. The last part, behind the last newline, is no line of the text
abbrev pub up_to_done : ℕ → ℕ → Reading → List (List ℕ) → Result Begun Refusal
up_to_done n b r [] = Err record { line = n; reason = reasons.Ended }
up_to_done n b r (line ∷ more) =
    if is_nil more then Err record { line = n; reason = reasons.Ended }
    else (at_line n (after_bytes r line) >>= λ next.
    if is_end next.place then Ok record { scene = next.scene; part = record { bytes = b + length line + 1; lines = n }; rest = more }
    else up_to_done (n + 1) (b + length line + 1) next more)

-- the lines of a text up to its done line
abbrev pub begun : List ℕ → Result Begun Refusal
begun bytes = up_to_done 1 0 opening (parts_at 10 bytes)

-- the scene that begins the bytes, and how many bytes and lines it takes, or the first line that is refused
unfoldable pub part_of : List ℕ → Result (Scene × Part) Refusal
part_of bytes = begun bytes >>= λ b. Ok (b.scene, b.part)

-- the scene that the bytes spell, where the text ends behind it, or the first line that is refused
unfoldable pub scene_of : List ℕ → Result Scene Refusal
scene_of bytes = do
  b ← begun bytes
  end ← ends (b.part.lines + 1) b.rest
  Ok b.scene

-- a step on a reading leads to what the definition says, unless memory ran out
abbrev pub Leads : {A : Type 0} → Result A Stop → Result Reading Reason → Reading → Type 0
Leads (Ok x) read r = read ≡ Ok r
Leads (Err (stops.Refused reason)) read r = read ≡ Err reason
Leads (Err stops.OutOfMemory) read r = Unit {0}

-- why line n leads no further
abbrev pub fault_at : ℕ → Stop → SceneFault
fault_at n (stops.Refused reason) = faults.Refused n reason
fault_at n stops.OutOfMemory = faults.OutOfMemory

-- a text gives what the definition says, unless memory ran out
abbrev pub Gives : {A : Type 0} → Result A SceneFault → Result A Refusal → Type 0
Gives (Ok x) read = read ≡ Ok x
Gives (Err (faults.Refused line reason)) read = read ≡ Err (record { line = line; reason = reason })
Gives (Err faults.OutOfMemory) read = Unit {0}
