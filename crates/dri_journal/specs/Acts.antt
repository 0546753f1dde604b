-- What an entry of a client needs of its part and of the regions, and what it does to the regions.
use Rattle.std.specs.Prelude.{◌≡◌, ◌<◌, ◌≤◌, Bool, true, false, ℕ, Option, Some, None, IfSome, IsSome}
use Rattle.dri_base.specs.Limits.{last_age}
use Rattle.dri_base.specs.Scenes.{regions_for}
use Rattle.dri_base.specs.declared.command.Command.{Command}
use Rattle.dri_base.specs.declared.journal.Entry.{Entry}
use Rattle.dri_base.specs.declared.journal.Entry.TheVariants as Entry_is
use Rattle.dri_base.specs.declared.scene.ClientScript.{ClientScript}
use Rattle.dri_client.specs.Parts.{PartState, next_command}
use Rattle.dri_client.specs.Textures.{bytes_in, room_of, run_used, spot_used}
use Rattle.dri_core.specs.Effects.{heap_after, heap_placed, run_at, spot_for}
use Rattle.dri_core.specs.EntryTable.{is_start_for}
use Rattle.dri_core.specs.Phases.{Asking, Old, Out}
use Rattle.dri_core.specs.Privates.{textured_with}
use Rattle.dri_model.specs.Heaps.{Heap, Run, Spot}
use Rattle.dri_model.specs.Shares.{is_small_for}
use Rattle.dri_texheap.specs.RegionStates.{IsInUse, IsInside, RegionState, heap_of}

-- the room that a part has for texture t of its script
abbrev pub own_room : ClientScript → PartState → ℕ → Option Spot
own_room script p t = room_of p.placed.region_size script p t

-- where a texture of a part stands that is placed in this run
abbrev pub own_spot : ClientScript → PartState → ℕ → Run → Spot
own_spot script p t run = spot_for (own_room script p t) run

-- the part's triangles need the texture, and the run is that of its spot, which lies inside the regions
pub record MayPlace (script : ClientScript) (n : ℕ) (p : PartState) (t : ℕ) (run : Run) : Type 0 where
  pub textured : textured_with p.state ≡ Some t
  pub spot : (own_spot script p t run).run ≡ run
  pub inside : IsInside n run
  pub some : 0 < run.count

-- what the steps of a part need
abbrev pub MayAct : ClientScript → ℕ → PartState → Entry → Type 0
MayAct script n p (Entry_is.Light c) = p.phase ≡ Out
MayAct script n p (Entry_is.Kernel c found) = p.phase ≡ Out
MayAct script n p (Entry_is.Stale c) = p.phase ≡ Old
MayAct script n p (Entry_is.Info c) = p.phase ≡ Asking
MayAct script n p (Entry_is.Place c t first count) = MayPlace script n p t (run_at first count)
MayAct script n p (Entry_is.Run c i) = (i ≡ p.place) × IsSome (next_command script p)
MayAct script n p _ = Unit {0}

-- the heap after an entry of the client whose part this is: a texture is put in its room or its run is allocated, and a triangle uses its texture's run
abbrev pub heap_by : ClientScript → PartState → ℕ → Heap → Entry → Heap
heap_by script p n h (Entry_is.Place c t first count) = heap_placed (own_room script p t) (is_small_for p.placed.region_size (bytes_in script t)) n h (run_at first count)
heap_by script p n h (Entry_is.Run c i) = heap_after h (spot_used p) (next_command script p)
heap_by script p n h _ = h

-- a texture of so many bytes needs so many regions, and there are so many; they begin at its room or where the rule says
pub record TakesRegions (room : Option Spot) (size bytes : ℕ) (regions : RegionState) (count first : ℕ) : Type 0 where
  pub sized : 0 < size
  pub small : size ≤ 65536
  pub fit : bytes ≤ 4194304
  pub needed : count ≡ regions_for size bytes
  pub some : 1 ≤ count
  pub few : count ≤ regions.count
  pub age : (heap_of regions).global ≤ last_age
  pub start : is_start_for room regions.count (heap_of regions) count first ≡ true

-- the entry's run is that of the room or of the rule, and what is used is in use
abbrev pub UsesRegions : ClientScript → PartState → RegionState → Entry → Type 0
UsesRegions script p regions (Entry_is.Place c t first count) = TakesRegions (own_room script p t) p.placed.region_size (bytes_in script t) regions count first
UsesRegions script p regions (Entry_is.Run c i) = IfSome (run_used p) (IsInside regions.count) × IfSome (run_used p) (IsInUse (heap_of regions)) × ((heap_of regions).global ≤ last_age)
UsesRegions script p regions _ = Unit {0}

-- the entry is a client's, and leaves the windows
abbrev pub is_quiet : Entry → Bool
is_quiet (Entry_is.Change i) = false
is_quiet (Entry_is.Gone c) = false
is_quiet _ = true

-- the command that an entry runs, where its client's next one is this
abbrev pub ran_by : Entry → Option Command → Option Command
ran_by (Entry_is.Run c i) command = command
ran_by _ command = None
