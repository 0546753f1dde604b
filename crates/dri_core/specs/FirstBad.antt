-- Which entry of a journal is the first that isn't legal.
use Rattle.std.specs.Prelude.{List, length, ℕ, ◌++◌, ◌+◌, ◌∷◌, ◌≡◌}
use Rattle.dri_base.specs.declared.journal.Entry.{Entry}
use Rattle.dri_base.specs.declared.scene.Scene.{Scene}
use Rattle.dri_core.specs.EntryTable.{LegalEntry}
use Rattle.dri_core.specs.Runs.{HoldRun, after}

-- the entries before entry n, counted from 1, are a hold-run, and after them it isn't legal
pub record IsFirstBad (s : Scene) (journal : List Entry) (n : ℕ) : Type 0 where
  pub past : List Entry
  pub entry : Entry
  pub rest : List Entry
  pub split : journal ≡ past ++ entry ∷ rest
  pub number : n ≡ length past + 1
  pub run : HoldRun s past
  pub refused : LegalEntry s (after s past) entry → ⊥
