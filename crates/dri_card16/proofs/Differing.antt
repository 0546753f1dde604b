-- A card with a pixel rule of its own leaves the world as ever but for the planes.
use Rattle.std.proofs.Common.{◌≡◌, List, [], ◌∷◌, ◌++◌, refl, sym, subst, ℕ}
use Rattle.dri_base.specs.declared.colour.Pixel.{Pixel}
use Rattle.dri_base.specs.declared.colour.Rgb.{Rgb}
use Rattle.dri_base.specs.declared.journal.Entry.{Entry}
use Rattle.dri_base.specs.declared.journal.Entry.TheVariants.{Change, Emit, Gone, Info, Kernel, Leave, Light, Place, Run, Stale}
use Rattle.dri_base.specs.declared.scene.Scene.{Scene}
use Rattle.dri_card16.specs.PixelRules.{PixelRule}
use Rattle.dri_card16.specs.RuleRuns.{DifferInPlanes, after_entries_with, after_entry_with, after_with, back_with, front_with, opening_with}
use Rattle.dri_core.specs.EntryTable.{after_entry}
use Rattle.dri_core.specs.Runs.{after, after_entries}
use Rattle.dri_core.specs.Worlds.{World, opening}

-- the world with these planes
abbrev pub over : World → (ℕ → ℕ → Rgb) → (ℕ → ℕ → Pixel) → World
over w shown drawn = record w { front = shown; back = drawn }

-- one entry on
pub entry_over : (rule : PixelRule) (s : Scene) (w : World) (shown : ℕ → ℕ → Rgb) (drawn : ℕ → ℕ → Pixel) (e : Entry) →
    after_entry_with rule s (over w shown drawn) e ≡ over (after_entry s w e) (front_with rule s (over w shown drawn) e) (back_with rule s (over w shown drawn) e)
entry_over rule s w shown drawn (Light c) = refl
entry_over rule s w shown drawn (Kernel c found) = refl
entry_over rule s w shown drawn (Stale c) = refl
entry_over rule s w shown drawn (Emit c groups) = refl
entry_over rule s w shown drawn (Place c t first count) = refl
entry_over rule s w shown drawn (Run c i) = refl
entry_over rule s w shown drawn (Leave c) = refl
entry_over rule s w shown drawn (Info c) = refl
entry_over rule s w shown drawn (Change i) = refl
entry_over rule s w shown drawn (Gone c) = refl

pub differ_step : (rule : PixelRule) (s : Scene) (v w : World) (e : Entry) → DifferInPlanes v w → DifferInPlanes (after_entry_with rule s v e) (after_entry s w e)
differ_step rule s v w e alike =
    subst (λ u. DifferInPlanes (after_entry_with rule s u e) (after_entry s w e)) (sym alike)
    (subst (λ u. DifferInPlanes u (after_entry s w e)) (sym (entry_over rule s w v.front v.back e)) refl)

pub differ_along : (rule : PixelRule) (s : Scene) (v w : World) (es : List Entry) → DifferInPlanes v w → DifferInPlanes (after_entries_with rule s v es) (after_entries s w es)
differ_along rule s v w [] alike = alike
differ_along rule s v w (e ∷ es) alike = differ_along rule s (after_entry_with rule s v e) (after_entry s w e) es (differ_step rule s v w e alike)

pub differ_after : (rule : PixelRule) (s : Scene) (journal : List Entry) → DifferInPlanes (after_with rule s journal) (after s journal)
differ_after rule s journal = differ_along rule s (opening_with rule s) (opening s) journal refl

-- a run in two parts
pub with_append : (rule : PixelRule) (s : Scene) (w : World) (past rest : List Entry) →
    after_entries_with rule s w (past ++ rest) ≡ after_entries_with rule s (after_entries_with rule s w past) rest
with_append rule s w [] rest = refl
with_append rule s w (e ∷ past) rest = with_append rule s (after_entry_with rule s w e) past rest

-- one entry more
pub with_push : (rule : PixelRule) (s : Scene) (journal : List Entry) (e : Entry) → after_with rule s (journal ++ e ∷ []) ≡ after_entry_with rule s (after_with rule s journal) e
with_push rule s journal e = with_append rule s (opening_with rule s) journal (e ∷ [])
