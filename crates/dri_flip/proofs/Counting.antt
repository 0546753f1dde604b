-- What is owed and counted, one entry more, and how high the counts rise.
use Rattle.std.proofs.Common.{◌≡◌, ◌≤◌, ◌+◌, ℕ, List, [], ◌∷◌, ◌++◌, length, Bool, true, false, not, if◌then◌else◌, refl, arith}
use Rattle.std.specs.Prelude.{◌&&◌}
use Rattle.dri_base.specs.declared.journal.Entry.{Entry}
use Rattle.dri_base.specs.declared.scene.Scene.{Scene}
use Rattle.dri_core.specs.EntryTable.{after_entry}
use Rattle.dri_core.specs.Runs.{after, after_entries}
use Rattle.dri_core.specs.Worlds.{World, opening}
use Rattle.dri_flip.specs.Owings.{Owing, clears_all, flipped_where, nothing_owed, owing, owing_after, owing_from, paid_where, swaps_all, touches}

owing_more : (s : Scene) (w : World) (o : Owing) (es : List Entry) (e : Entry) → owing_from s w o (es ++ e ∷ []) ≡ owing_after s (after_entries s w es) e (owing_from s w o es)
owing_more s w o [] e = refl
owing_more s w o (x ∷ xs) e = owing_more s (after_entry s w x) (owing_after s w x o) xs e

-- one entry more
pub owing-push : (s : Scene) (j : List Entry) (e : Entry) → owing s (j ++ e ∷ []) ≡ owing_after s (after s j) e (owing s j)
owing-push s j e = owing_more s (opening s) nothing_owed j e

-- no count rises by more than the number of entries
record IsFew (o p : Owing) (n : ℕ) : Type 0 where
  pub flips : p.flips ≤ o.flips + n
  pub copies : p.copies ≤ o.copies + n

one_more : (b : Bool) (n : ℕ) → (if b then n + 1 else n) ≤ n + 1
one_more true n = omega arith
one_more false n = omega arith

one_step : (flip touch whole : Bool) (o : Owing) → IsFew o (flipped_where flip (paid_where touch whole o)) 1
one_step true true whole o = record { flips = omega arith; copies = one_more (o.owed && not whole) o.copies }
one_step true false whole o = record { flips = omega arith; copies = omega arith }
one_step false true whole o = record { flips = omega arith; copies = one_more (o.owed && not whole) o.copies }
one_step false false whole o = record { flips = omega arith; copies = omega arith }

few_from : (s : Scene) (w : World) (o : Owing) (es : List Entry) → IsFew o (owing_from s w o es) (length es)
few_from s w o [] = record { flips = omega arith; copies = omega arith }
few_from s w o (e ∷ es) =
    let first = one_step (swaps_all s w e) (touches s w e) (clears_all s w e) o in
    let rest = few_from s (after_entry s w e) (owing_after s w e o) es in
    record { flips = omega (arith, first.flips, rest.flips); copies = omega (arith, first.copies, rest.copies) }

pub few_owed : (s : Scene) (j : List Entry) → ((owing s j).flips ≤ length j) × ((owing s j).copies ≤ length j)
few_owed s j = let few = few_from s (opening s) nothing_owed j in (omega (arith, few.flips), omega (arith, few.copies))
