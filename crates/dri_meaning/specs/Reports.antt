-- What a check of a journal counts.
use Rattle.std.specs.List.{list_all}
use Rattle.std.specs.Prelude.{Bool, List, Option, Some, [], if◌then◌else◌, is_none, length, not, true, ℕ, ◌&&◌, ◌+◌, ◌==◌, ◌∷◌}
use Rattle.dri_base.specs.declared.command.Command.{Command}
use Rattle.dri_base.specs.declared.command.Command.TheVariants.{Clear, Swap}
use Rattle.dri_base.specs.declared.journal.Entry.{Entry}
use Rattle.dri_base.specs.declared.scene.Scene.{Scene}
use Rattle.dri_core.specs.EntryTable.{after_entry}
use Rattle.dri_core.specs.Frames.{keeps}
use Rattle.dri_core.specs.Phases.{is_done}
use Rattle.dri_core.specs.Runs.{after}
use Rattle.dri_base.specs.Scenes.{command_at, window_of}
use Rattle.dri_core.specs.Worlds.{World, opening}
use Rattle.dri_base.specs.declared.journal.Entry.TheVariants as Entry_is

-- where a client's frame stands: it has no clear yet, or its last clear has stood, or a new stamp came after it
pub data Standing : Type 0 where
  NoClear : Standing
  Stood : Standing
  Cut : Standing

-- what is counted so far
pub record Tally : Type 0 where
  -- the swaps run whose frame begins with a clear, and those of them that stood
  pub frames : ℕ
  pub stood : ℕ
  -- by client
  pub standing : ℕ → Standing

-- what a command that its client runs makes of the client's frame
abbrev pub standing_after : Option Command → Standing → Standing
standing_after (Some (Clear colour depth)) old = Stood
standing_after (Some Swap) old = NoClear
standing_after _ old = old

-- what an entry that doesn't keep what stands on the window makes of it
abbrev pub cut_by : Bool → Standing → Standing
cut_by true Stood = Cut
cut_by _ old = old

-- a swap counts where its frame has a clear
abbrev pub counts_frame : Option Command → Standing → ℕ
counts_frame (Some Swap) Stood = 1
counts_frame (Some Swap) Cut = 1
counts_frame _ _ = 0

-- and as one that stood where its last clear has stood
abbrev pub counts_stood : Option Command → Standing → ℕ
counts_stood (Some Swap) Stood = 1
counts_stood _ _ = 0

-- the tally after an entry that leads from one world to the next
abbrev pub tally_run : Scene → Tally → ℕ → Option Command → Tally
tally_run s t c command = record {
  frames = t.frames + counts_frame command (t.standing c);
  stood = t.stood + counts_stood command (t.standing c);
  standing = λ d. if d == c then standing_after command (t.standing d) else t.standing d;
}

-- an entry that doesn't keep what stands on its window cuts a client's frame
abbrev pub tally_cut : Scene → World → Entry → Tally → Tally
tally_cut s w e t = record t { standing = λ d. cut_by (not (keeps s w e (window_of s d))) (t.standing d) }

-- the tally after an entry
abbrev pub tally_after : Scene → World → Entry → Tally → Tally
tally_after s w (Entry_is.Run c i) t = tally_run s t c (command_at s c i)
tally_after s w (Entry_is.Change i) t = tally_cut s w (Entry_is.Change i) t
tally_after s w (Entry_is.Gone c) t = tally_cut s w (Entry_is.Gone c) t
tally_after s w _ t = t

-- the tally after these entries
abbrev pub tally_from : Scene → World → Tally → List Entry → Tally
tally_from s w t [] = t
tally_from s w t (e ∷ es) = tally_from s (after_entry s w e) (tally_after s w e t) es

-- the frames that a journal runs, and how many of them stood
abbrev pub tally : Scene → List Entry → Tally
tally s journal = tally_from s (opening s) (record { frames = 0; stood = 0; standing = λ c. NoClear }) journal

-- nobody holds, every client is ended or dead, and all changes were made
abbrev pub is_whole : Scene → List Entry → Bool
is_whole s journal =
    is_none (after s journal).holder && (list_all (λ p. is_done ((after s journal).client p.number).phase) s.clients && ((after s journal).made == length s.changes))
