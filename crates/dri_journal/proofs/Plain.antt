-- A journal of a scene without its schedule is one of the scene: only a kill looks at the schedule.
use Rattle.std.proofs.Common.{◌≡◌, List, [], ◌∷◌, refl, sym, ap, subst, ◌∙◌, inl, inr}
use Rattle.std.proofs.lemmas.Bool.{true≢false}
use Rattle.dri_base.specs.declared.journal.Entry.{Entry}
use Rattle.dri_base.specs.declared.journal.Entry.TheVariants as Entry_is
use Rattle.dri_base.specs.declared.scene.Scene.{Scene}
use Rattle.dri_core.specs.EntryTable.{LegalEntry, after_entry}
use Rattle.dri_core.specs.Runs.{HoldRun, IsWholeWorld, LegalEntries, Whole, after_entries, plain}
use Rattle.dri_core.specs.Worlds.{World, opening}

plain_after : (s : Scene) (w : World) (e : Entry) → after_entry (plain s) w e ≡ after_entry s w e
plain_after s w (Entry_is.Light c) = refl
plain_after s w (Entry_is.Kernel c found) = refl
plain_after s w (Entry_is.Stale c) = refl
plain_after s w (Entry_is.Emit c groups) = refl
plain_after s w (Entry_is.Place c t first count) = refl
plain_after s w (Entry_is.Run c i) = refl
plain_after s w (Entry_is.Leave c) = refl
plain_after s w (Entry_is.Info c) = refl
plain_after s w (Entry_is.Change i) = refl
plain_after s w (Entry_is.Gone c) = refl

plain_legal : (s : Scene) (w : World) (e : Entry) → LegalEntry (plain s) w e → LegalEntry s w e
plain_legal s w (Entry_is.Light c) legal = legal
plain_legal s w (Entry_is.Kernel c found) legal = legal
plain_legal s w (Entry_is.Stale c) legal = legal
plain_legal s w (Entry_is.Emit c groups) legal = legal
plain_legal s w (Entry_is.Place c t first count) legal = legal
plain_legal s w (Entry_is.Run c i) legal = legal
plain_legal s w (Entry_is.Leave c) legal = legal
plain_legal s w (Entry_is.Info c) legal = legal
plain_legal s w (Entry_is.Change i) legal = legal
plain_legal s w (Entry_is.Gone c) (inl dies) = inl dies
plain_legal s w (Entry_is.Gone c) (inr named) = absurd (true≢false (sym named.0))

plain_entries : (s : Scene) (w : World) (es : List Entry) → LegalEntries (plain s) w es → LegalEntries s w es
plain_entries s w [] legal = legal
plain_entries s w (e ∷ es) legal = (plain_legal s w e legal.0, plain_entries s (after_entry s w e) es (subst (λ v. LegalEntries (plain s) v es) (plain_after s w e) legal.1))

pub plain_run : (s : Scene) (j : List Entry) → HoldRun (plain s) j → HoldRun s j
plain_run s j run = plain_entries s (opening s) j run

plain_world : (s : Scene) (w : World) (es : List Entry) → after_entries (plain s) w es ≡ after_entries s w es
plain_world s w [] = refl
plain_world s w (e ∷ es) = ap (λ v. after_entries (plain s) v es) (plain_after s w e) ∙ plain_world s (after_entry s w e) es

pub plain_whole : (s : Scene) (j : List Entry) → Whole (plain s) j → Whole s j
plain_whole s j whole = subst (IsWholeWorld s) (plain_world s (opening s) j) (record { unheld = whole.unheld; asking = whole.asking; done = whole.done; made = whole.made })
