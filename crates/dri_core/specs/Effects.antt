-- What the entries of a client do to its private part, to the planes and to the heap.
use Rattle.std.specs.Prelude.{Bool, None, Option, Some, false, if◌then◌else◌, is_none, length, nat_lt, not, pos, pred, true, ℕ, ◌+◌, ◌-ℤ◌, ◌==◌}
use Rattle.dri_base.specs.declared.colour.Pixel.{Pixel}
use Rattle.dri_base.specs.declared.colour.Rgb.{Rgb}
use Rattle.dri_base.specs.declared.command.Command.{Command}
use Rattle.dri_base.specs.declared.command.Command.TheVariants.{Swap, Triangle}
use Rattle.dri_base.specs.declared.scene.Scene.{Scene}
use Rattle.dri_core.specs.Phases.{In, Old, Out, Phase, left_from, phase_after}
use Rattle.dri_core.specs.Privates.{Private, blocks_needed, is_bound_lost, is_small, placed_after, room_in, state_by, used_spot}
use Rattle.dri_base.specs.Scenes.{command_at, commands_of, window_of}
use Rattle.dri_core.specs.Solo.{drawn_by}
use Rattle.dri_core.specs.Worlds.{World, clips_in}
use Rattle.dri_model.specs.Stacks.{origin}
use Rattle.dri_model.specs.Groups.{all_where, dirtied, with_bound}
use Rattle.dri_model.specs.Heaps.{Heap, Run, Spot, allocated, freed_for, is_newer, lose, marked, touched}
use Rattle.dri_model.specs.Shares.{levels_after, lose_levels}
use Rattle.dri_model.specs.Words.{card_image, rules_in}

-- command i is the last one, or behind it
abbrev pub is_last : Scene → ℕ → ℕ → Bool
is_last s c i = not (nat_lt i (length (commands_of s c)))

-- the phase after a leave
abbrev pub after_leave : Scene → ℕ → Private → Phase
after_leave s c p = left_from p.phase (is_last s c (pred p.place))

-- front after a command: a swap copies back's colours in the client's copy of its clips
abbrev pub front_after : World → (ℕ → ℕ → Bool) → Option Command → ℕ → ℕ → Rgb
front_after w copy (Some Swap) x y = if copy x y then (w.back x y).colour else w.front x y
front_after w copy _ x y = w.front x y

-- a pixel, drawn where it is so
abbrev pub only_where : Bool → (Pixel → Pixel) → Pixel → Pixel
only_where true f under = f under
only_where false f under = under

-- back after a command: drawn in the client's copy of its clips, by the card's registers and texture memory, at the pixel less the client's copy of the origin
abbrev pub back_after : World → Private → Option Command → ℕ → ℕ → Pixel
back_after w p command x y =
    only_where (p.copy x y) (drawn_by (rules_in w.registers) (card_image w.memory w.registers.bound) command (pos x -ℤ p.origin.0) (pos y -ℤ p.origin.1)) (w.back x y)

-- the regions after the run of a spot is touched, where there is one
abbrev pub touched_if : Option Spot → Heap → Heap
touched_if None h = h
touched_if (Some spot) h = touched spot.run h

-- the regions after a command: a triangle touches the run of the texture that it needs
abbrev pub heap_after : Heap → Option Spot → Option Command → Heap
heap_after h spot (Some (Triangle t)) = touched_if spot h
heap_after h spot _ = h

-- the client's local age after a command: that of the touch, where there is one
abbrev pub local_after : ℕ → Heap → Option Spot → Option Command → ℕ
local_after local h spot (Some (Triangle t)) = if is_none spot then local else (touched_if spot h).global
local_after local h spot _ = local

-- so many neighbouring regions from a first one on
abbrev pub run_at : ℕ → ℕ → Run
run_at first count = record { first = first; count = count }

-- the client's part after the kernel let it in: all groups are dirty where another owned the card, and textures with a region that is newer than its local age, and shared regions that are, are lost
abbrev pub taken_in : Scene → World → ℕ → Private
taken_in s w c = record (w.client c) {
  phase = if (w.client c).stamp == w.stamps (window_of s c) then In else Old;
  dirty = with_bound (is_bound_lost (w.client c) (is_newer w.heap (w.client c).local)) (all_where (not (w.owner == c + 1)) (w.client c).dirty);
  placed = λ t. lose (is_newer w.heap (w.client c).local) ((w.client c).placed t);
  levels = lose_levels (is_newer w.heap (w.client c).local) (w.client c).levels;
  local = w.heap.global;
}

-- the client's part after it ran command i
abbrev pub run_by : Scene → World → ℕ → ℕ → Private
run_by s w c i = record (w.client c) {
  place = i + 1;
  phase = phase_after (command_at s c i) (is_last s c i);
  state = state_by (command_at s c i) (w.client c).state;
  dirty = dirtied (w.client c).state (state_by (command_at s c i) (w.client c).state) (w.client c).dirty;
  local = local_after (w.client c).local w.heap (used_spot (w.client c)) (command_at s c i);
}

-- where a texture is put: in the room that there is for it, else at the beginning of the run that is allocated for it
abbrev pub spot_for : Option Spot → Run → Spot
spot_for None run = record { run = run; block = 0 }
spot_for (Some room) run = room

-- the regions that go for it: where there is room, none
abbrev pub freed_by : Option Spot → ℕ → Heap → ℕ → ℕ → Bool
freed_by None n h count k = freed_for n h count k
freed_by (Some room) n h count k = false

-- the heap after it is put there: where there is room, as it was; else the run is allocated, and the region of a small texture is shared
abbrev pub heap_placed : Option Spot → Bool → ℕ → Heap → Run → Heap
heap_placed None small n h run = marked small run.first (allocated n h run)
heap_placed (Some room) small n h run = h

-- its client's local age then
abbrev pub local_placed : Option Spot → ℕ → ℕ → Heap → Run → ℕ
local_placed None local n h run = (allocated n h run).global
local_placed (Some room) local n h run = local

-- the client's part after it placed texture t in a room, where there is one, or in the run
abbrev pub placed_with : Option Spot → Scene → World → ℕ → ℕ → Run → Private
placed_with room s w c t run = record (w.client c) {
  placed = placed_after (w.client c).placed (freed_by room s.regions w.heap run.count) t (spot_for room run);
  levels = levels_after (w.client c).levels (freed_by room s.regions w.heap run.count) (is_small s c t) (spot_for room run) (blocks_needed s c t);
  local = local_placed room (w.client c).local s.regions w.heap run;
  dirty = with_bound true (w.client c).dirty;
}

-- the client's part after it placed texture t
abbrev pub placed_by : Scene → World → ℕ → ℕ → ℕ → ℕ → Private
placed_by s w c t first count = placed_with (room_in s c (w.client c) t) s w c t (run_at first count)

-- the client's part after it was told its window's clips, origin and stamp
abbrev pub told : Scene → World → ℕ → Private
told s w c = record (w.client c) {
  phase = Out;
  stamp = w.stamps (window_of s c);
  copy = clips_in s w c;
  origin = origin w.stack (window_of s c);
}
