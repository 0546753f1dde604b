-- What the shared value keeps beside its journal, and that it is what the journal leaves.
use Rattle.std.specs.Prelude.{◌≡◌, ◌<◌, ℕ, List, Option, length, slice_index_or}
use Rattle.dri_base.specs.Ranges.{InRange, heap_bytes}
use Rattle.dri_base.specs.declared.colour.Pixel.{Pixel}
use Rattle.dri_base.specs.declared.colour.Rgb.{Rgb}
use Rattle.dri_base.specs.declared.journal.Entry.{Entry}
use Rattle.dri_base.specs.declared.scene.Scene.{Scene}
use Rattle.dri_base.specs.declared.scene.Window.{Window}
use Rattle.dri_base.specs.declared.state.Registers.{Registers}
use Rattle.dri_card.specs.Contents.{Contents, HaveSides, Holds, KeepSides, Shows, memory_of}
use Rattle.dri_card.specs.Drawing.{OnlyCarried}
use Rattle.dri_clips.specs.Boards.{IsRestacked, Screen}
use Rattle.dri_clips.specs.SceneBoards.{IsBoardOf}
use Rattle.dri_core.specs.Privates.{Private}
use Rattle.dri_core.specs.Runs.{HoldRun, after}
use Rattle.dri_core.specs.Worlds.{World}
use Rattle.dri_model.specs.Stacks.{carried, carried_from, painted}
use Rattle.dri_shared.specs.declared.holdings.Holdings.{Holdings}
use Rattle.dri_texheap.specs.RegionStates.{AreRegionsOf}

-- the card has the scene's sides and as much texture memory as all regions together, and holds these
pub record IsCardOf (s : Scene) (front : ℕ → ℕ → Rgb) (back : ℕ → ℕ → Pixel) (registers : Registers) (memory : ℕ → ℕ) (card : Contents) : Type 0 where
  pub sides : HaveSides card s.width s.height
  pub shown : Shows card front
  pub held : Holds card back
  pub loaded : card.registers ≡ registers
  pub bytes : length card.memory ≡ heap_bytes s
  pub uploads : memory_of card ≡ memory

-- by client number, 1 to 32, the place of the client's next command
pub record ArePlacesOf (client : ℕ → Private) (places : List ℕ) : Type 0 where
  pub room : length places ≡ 33
  pub each : (c : ℕ) → c < 33 → slice_index_or places c 0 ≡ (client c).place

-- the holdings are the world's
pub record IsWorld (s : Scene) (h : Holdings) (w : World) : Type 0 where
  pub card : IsCardOf s w.front w.back w.registers w.memory h.card
  pub board : IsBoardOf s w.stack w.stamps w.counter h.board
  pub regions : AreRegionsOf s w.heap h.regions
  pub places : ArePlacesOf w.client h.places
  pub owner : h.owner ≡ w.owner
  pub holder : h.holder ≡ w.holder
  pub left : h.left ≡ w.left
  pub made : h.made ≡ w.made

-- the scene is in range, the journal is a hold-run of it, and the holdings are what it leaves
pub record IsFaithful (s : Scene) (journal : List Entry) (h : Holdings) : Type 0 where
  pub scene : InRange s
  pub run : HoldRun s journal
  pub world : IsWorld s h (after s journal)

-- a plane after a new stack of the board, in which this window is moved, if there is one: a carried pixel has what the plane had where it comes from, and each other one has what the other plane has
abbrev pub carried_on : {A : Type 0} → Screen → List Window → Option ℕ → (ℕ → ℕ → A) → (ℕ → ℕ → A) → ℕ → ℕ → A
carried_on board stack moved plane other x y = carried (carried_from board.width board.height board.stack stack moved x y) plane (other x y)

-- the board took a new stack, in which this window is moved, if there is one. Front, and back with its depth, are carried along on the card, and front is painted where it isn't carried; nothing else of the card differs
pub record IsRestackedOn (stack : List Window) (moved : Option ℕ) (board board' : Screen) (card card' : Contents) : Type 0 where
  pub windows : IsRestacked stack board board'
  pub shown : (front : ℕ → ℕ → Rgb) → Shows card front → Shows card' (carried_on board stack moved front (painted board.root moved board.stack stack front))
  pub held : (back : ℕ → ℕ → Pixel) → Holds card back → Holds card' (carried_on board stack moved back back)
  pub others : OnlyCarried card card'
  pub sides : KeepSides card card'
