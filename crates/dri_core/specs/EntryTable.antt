-- The table of entries: where each is legal, and the world after it.
use Rattle.std.specs.Prelude.{Bool, None, Option, Some, false, length, true, ℕ, ◌+◌, ◌==◌, ◌≡◌, ◌≢◌, ◌≤◌, ◌⊎◌}
use Rattle.dri_base.specs.Texels.{texture_in}
use Rattle.dri_base.specs.declared.command.Command.TheVariants.{Die}
use Rattle.dri_base.specs.declared.journal.Entry.{Entry}
use Rattle.dri_base.specs.declared.scene.Scene.{Scene}
use Rattle.dri_core.specs.Effects.{after_leave, back_after, front_after, heap_after, heap_placed, placed_by, run_at, run_by, spot_for, taken_in, told}
use Rattle.dri_core.specs.Phases.{Ask, Asking, Dead, In, Old, Out, Over, is_done, is_holding}
use Rattle.dri_core.specs.Privates.{can_draw, can_run, is_ready, is_small, is_triangle, own_registers, room_in, textured_with, used_spot}
use Rattle.dri_core.specs.Restacks.{next_moved, next_stack, restacked}
use Rattle.dri_base.specs.Scenes.{bytes_of, command_at, is_named, regions_needed, textures_of}
use Rattle.dri_core.specs.Worlds.{World, put}
use Rattle.dri_model.specs.Groups.{bits, is_empty, no_groups}
use Rattle.dri_model.specs.Heaps.{Heap, Spot, base_of, is_place_for, uploaded}
use Rattle.dri_model.specs.Stacks.{without_owner}
use Rattle.dri_model.specs.Words.{loaded}
use Rattle.dri_base.specs.declared.journal.Entry.TheVariants as Entry_is

-- client c is in, and its next command is a triangle
abbrev pub AtTriangle : Scene → World → ℕ → Type 0
AtTriangle s w c = ((w.client c).phase ≡ In) × (is_triangle (command_at s c (w.client c).place) ≡ true)

-- the run of a texture begins there: where there is room, at its region; else where the heap's rule says
abbrev pub is_start_for : Option Spot → ℕ → Heap → ℕ → ℕ → Bool
is_start_for None n h count first = is_place_for n h count first
is_start_for (Some room) n h count first = first == room.run.first

-- where an entry is legal
abbrev pub LegalEntry : Scene → World → Entry → Type 0
LegalEntry s w (Entry_is.Light c) = ((w.client c).phase ≡ Out) × (w.holder ≡ None) × (w.left ≡ c + 1)
LegalEntry s w (Entry_is.Kernel c found) =
    ((w.client c).phase ≡ Out) × (w.holder ≡ None) × ((found ≡ 0) ⊎ (found ≡ w.left)) × (found ≢ c + 1)
LegalEntry s w (Entry_is.Stale c) = (w.client c).phase ≡ Old
LegalEntry s w (Entry_is.Emit c groups) =
    AtTriangle s w c × (is_ready (w.client c) ≡ true) × (groups ≡ bits (w.client c).dirty) × (is_empty (w.client c).dirty ≡ false)
LegalEntry s w (Entry_is.Place c t first count) =
    AtTriangle s w c × (textured_with (w.client c).state ≡ Some t) × ((w.client c).placed t ≡ None) × (count ≡ regions_needed s c t) ×
    (is_start_for (room_in s c (w.client c) t) s.regions w.heap count first ≡ true)
LegalEntry s w (Entry_is.Run c i) =
    ((w.client c).phase ≡ In) × (i ≡ (w.client c).place) × (can_run (can_draw (w.client c)) (command_at s c i) ≡ true)
LegalEntry s w (Entry_is.Leave c) = ((w.client c).phase ≡ Over) ⊎ ((w.client c).phase ≡ Ask)
LegalEntry s w (Entry_is.Info c) = ((w.client c).phase ≡ Asking) × (w.holder ≡ None)
LegalEntry s w (Entry_is.Change i) = (w.holder ≡ None) × (i ≡ w.made + 1) × (i ≤ length s.changes)
LegalEntry s w (Entry_is.Gone c) =
    (((w.client c).phase ≡ In) × (command_at s c (w.client c).place ≡ Some Die)) ⊎
    ((is_named s c ≡ true) × (is_done (w.client c).phase ≡ false) × ((is_holding (w.client c).phase ≡ true) ⊎ (w.holder ≡ None)))

-- the world after an entry
abbrev pub after_entry : Scene → World → Entry → World
after_entry s w (Entry_is.Light c) = record w { holder = Some c; client = put w.client c (record (w.client c) { phase = In }) }
after_entry s w (Entry_is.Kernel c found) = record w { holder = Some c; owner = c + 1; client = put w.client c (taken_in s w c) }
after_entry s w (Entry_is.Stale c) = record w { client = put w.client c (record (w.client c) { phase = Ask }) }
after_entry s w (Entry_is.Emit c groups) = record w {
  client = put w.client c (record (w.client c) { dirty = no_groups });
  registers = loaded (w.client c).dirty (own_registers s c (w.client c)) w.registers;
}
after_entry s w (Entry_is.Place c t first count) = record w {
  heap = heap_placed (room_in s c (w.client c) t) (is_small s c t) s.regions w.heap (run_at first count);
  memory = uploaded w.memory (base_of s.region_size (spot_for (room_in s c (w.client c) t) (run_at first count))) (bytes_of (texture_in (textures_of s c) t));
  client = put w.client c (placed_by s w c t first count);
}
after_entry s w (Entry_is.Run c i) = record w {
  client = put w.client c (run_by s w c i);
  heap = heap_after w.heap (used_spot (w.client c)) (command_at s c i);
  front = front_after w (w.client c).copy (command_at s c i);
  back = back_after w (w.client c) (command_at s c i);
}
after_entry s w (Entry_is.Leave c) = record w {
  holder = None;
  left = c + 1;
  client = put w.client c (record (w.client c) { phase = after_leave s c (w.client c) });
}
after_entry s w (Entry_is.Info c) = record w { left = 1; client = put w.client c (told s w c) }
after_entry s w (Entry_is.Change i) = record (restacked s w (next_moved s w) (next_stack s w)) { left = 1; made = w.made + 1 }
after_entry s w (Entry_is.Gone c) = record (restacked s w None (without_owner c w.stack)) {
  holder = None;
  left = 0;
  client = put w.client c (record (w.client c) { phase = Dead });
}
