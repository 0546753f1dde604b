-- The table of entries as a test.
use Rattle.std.specs.Prelude.{Bool, List, Option, Some, [], false, is_none, length, nat_le, not, true, ◌&&◌, ◌+◌, ◌==◌, ◌||◌, ◌∷◌}
use Rattle.dri_base.specs.declared.command.Command.{Command}
use Rattle.dri_base.specs.declared.command.Command.TheVariants.{Die}
use Rattle.dri_base.specs.declared.journal.Entry.{Entry}
use Rattle.dri_base.specs.declared.scene.Scene.{Scene}
use Rattle.dri_core.specs.EntryTable.{after_entry, is_start_for}
use Rattle.dri_core.specs.Phases.{Ask, Asking, In, Old, Out, Over, is_done, is_holding, same_phase}
use Rattle.dri_core.specs.Privates.{can_draw, can_run, is_ready, is_triangle, room_in, textured_with}
use Rattle.dri_base.specs.Scenes.{command_at, is_named, regions_needed}
use Rattle.dri_core.specs.Worlds.{World, opening}
use Rattle.dri_model.specs.Groups.{bits, is_empty, same_number}
use Rattle.dri_base.specs.declared.journal.Entry.TheVariants as Entry_is

-- the command is die
abbrev pub is_die : Option Command → Bool
is_die (Some Die) = true
is_die _ = false

-- where an entry is legal, as a test
abbrev pub is_legal_entry : Scene → World → Entry → Bool
is_legal_entry s w (Entry_is.Light c) = same_phase (w.client c).phase Out && (is_none w.holder && (w.left == c + 1))
is_legal_entry s w (Entry_is.Kernel c found) =
    same_phase (w.client c).phase Out && (is_none w.holder && (((found == 0) || (found == w.left)) && not (found == c + 1)))
is_legal_entry s w (Entry_is.Stale c) = same_phase (w.client c).phase Old
is_legal_entry s w (Entry_is.Leave c) = same_phase (w.client c).phase Over || same_phase (w.client c).phase Ask
is_legal_entry s w (Entry_is.Info c) = same_phase (w.client c).phase Asking && is_none w.holder
is_legal_entry s w (Entry_is.Change i) = is_none w.holder && ((i == w.made + 1) && nat_le i (length s.changes))
is_legal_entry s w (Entry_is.Emit c groups) =
    same_phase (w.client c).phase In && (is_triangle (command_at s c (w.client c).place) && (is_ready (w.client c) && ((groups == bits (w.client c).dirty) && not (is_empty (w.client c).dirty))))
is_legal_entry s w (Entry_is.Place c t first count) =
    same_phase (w.client c).phase In && (is_triangle (command_at s c (w.client c).place) && (same_number (textured_with (w.client c).state) (Some t) &&
    (is_none ((w.client c).placed t) && ((count == regions_needed s c t) && is_start_for (room_in s c (w.client c) t) s.regions w.heap count first))))
is_legal_entry s w (Entry_is.Run c i) = same_phase (w.client c).phase In && ((i == (w.client c).place) && can_run (can_draw (w.client c)) (command_at s c i))
is_legal_entry s w (Entry_is.Gone c) =
    (same_phase (w.client c).phase In && is_die (command_at s c (w.client c).place)) ||
    (is_named s c && (not (is_done (w.client c).phase) && (is_holding (w.client c).phase || is_none w.holder)))

-- each entry is legal in the world that those before it leave, as a test
abbrev pub are_legal_entries : Scene → World → List Entry → Bool
are_legal_entries s w [] = true
are_legal_entries s w (e ∷ es) = is_legal_entry s w e && are_legal_entries s (after_entry s w e) es

-- the journal is a hold-run, as a test
abbrev pub is_hold_run : Scene → List Entry → Bool
is_hold_run s journal = are_legal_entries s (opening s) journal
