-- Where no actor gave up, the journal of the closed lock is whole.
use Rattle.std.proofs.Common.{◌≡◌, ℕ, zero, suc, ◌<◌, List, [], ◌∷◌, length, Bool, true, false, refl, ap, ◌∙◌, subst, arith}
use Rattle.std.specs.Prelude.{Contains}
use mathlib.Core.Option.{some}
use lib.ListN.{get_elem?}
use Rattle.dri_base.specs.Ranges.{InRange, client_numbers}
use Rattle.dri_base.specs.declared.journal.Entry.{Entry}
use Rattle.dri_base.specs.declared.scene.Scene.{Scene}
use Rattle.dri_hwlock.specs.declared.guarded.Guarded.{Ghosts}
use Rattle.dri_hwlock.specs.declared.tokens.Pass.{Pass}
use Rattle.dri_hwlock.specs.Tokens.{LockId, BeginsWithEach, pass_token}
use Rattle.dri_core.specs.Phases.{is_done}
use Rattle.dri_core.specs.Runs.{after, HoldRun, Whole}
use Rattle.dri_core.proofs.Stays.{all_made_stays, done_stays, whole_by_parts}
use Rattle.dri_threads.specs.Rounds.{AreServed, IsEnough}
use Rattle.dri_threads.proofs.Rounds.{number_below, number_within}

there : {A : Type 0} (xs : List A) (j : ℕ) → j < length xs → (x : A) × (get_elem? xs j ≡ some x)
there [] j l = absurd (omega arith)
there (x ∷ xs) zero l = (x, refl)
there (x ∷ xs) (suc j) l = there xs j (omega arith)

module _ {G : Type 0} {g : Ghosts G Scene Entry} where
  pub whole_end : (s : Scene) (id : LockId) (n : ℕ) (short : Bool) (ps : List (Pass G Scene Entry g)) (log : List Entry) → InRange s → AreServed s id n short ps → short ≡ false → IsEnough s n → BeginsWithEach log ps → HoldRun s log → Whole s log
  whole_end s id n short ps log good served is enough begins run = whole_by_parts s log good run done made
    where
      done : (c : ℕ) → Contains (client_numbers s.clients) c → is_done ((after s log).client c).phase ≡ true
      done c has =
          let t = there ps c (omega (arith, number_below s n c enough has, served.count)) in
          let b = begins c t.0 t.1 in
          let low : 0 < c = omega (arith, (number_within s c good has).0) in
          ap (λ (j : List Entry). is_done ((after s j).client c).phase) b.1 ∙ done_stays s (pass_token t.0).seen b.0 c (subst (HoldRun s) b.1 run) ((served.each c t.0 t.1).done is low has)

      made : (after s log).made ≡ length s.changes
      made =
          let t = there ps 0 (omega (arith, enough.server, served.count)) in
          let b = begins 0 t.0 t.1 in
          ap (λ (j : List Entry). (after s j).made) b.1 ∙ all_made_stays s (pass_token t.0).seen b.0 (subst (HoldRun s) b.1 run) ((served.each 0 t.0 t.1).made is refl)
