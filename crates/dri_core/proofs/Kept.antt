-- Every entry keeps the central invariant.
use Rattle.std.proofs.Common.{List, [], ◌∷◌}
use Rattle.dri_base.specs.declared.journal.Entry.{Entry}
use Rattle.dri_base.specs.declared.journal.Entry.TheVariants.{Light, Kernel, Stale, Emit, Place, Leave, Info, Change, Run, Gone}
use Rattle.dri_base.specs.declared.scene.Scene.{Scene}
use Rattle.dri_base.proofs.RangeLemmas.{IsWellFormed}
use Rattle.dri_core.specs.Worlds.{World, opening}
use Rattle.dri_core.specs.EntryTable.{LegalEntry, after_entry}
use Rattle.dri_core.specs.Runs.{after_entries, LegalEntries, after, HoldRun}
use Rattle.dri_core.proofs.Invariant.{Invariant, opened}
use Rattle.dri_core.proofs.Keeping.{light, kernel, stale, emit, place, leave, info, ran}
use Rattle.dri_core.proofs.Restacking.{change, gone}

pub keep : (s : Scene) (w : World) (e : Entry) → IsWellFormed s → Invariant s w → LegalEntry s w e → Invariant s (after_entry s w e)
keep s w (Light c) = light s w c
keep s w (Kernel c found) = kernel s w c found
keep s w (Stale c) = stale s w c
keep s w (Emit c groups) = emit s w c groups
keep s w (Place c t first count) = place s w c t first count
keep s w (Leave c) = leave s w c
keep s w (Info c) = info s w c
keep s w (Change i) = change s w i
keep s w (Run c i) = ran s w c i
keep s w (Gone c) = gone s w c

-- the invariant holds wherever the table leads
pub kept : (s : Scene) (w : World) (es : List Entry) → IsWellFormed s → Invariant s w → LegalEntries s w es → Invariant s (after_entries s w es)
kept s w [] good inv allowed = inv
kept s w (e ∷ es) good inv allowed = kept s (after_entry s w e) es good (keep s w e good inv allowed.0) allowed.1

pub after_kept : (s : Scene) (journal : List Entry) → IsWellFormed s → HoldRun s journal → Invariant s (after s journal)
after_kept s journal good run = kept s (opening s) journal good (opened s good) run
