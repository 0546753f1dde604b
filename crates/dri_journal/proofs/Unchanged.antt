-- A change that the board refuses touches nothing.
use Rattle.std.proofs.Common.{◌≡◌, ◌≢◌, ◌↔◌, ℕ, zero, suc, List, Bool, true, false, Option, Some, None, refl, sym, arith, Result, Err}
use Rattle.std.specs.Prelude.{is_some}
use Rattle.std.proofs.lemmas.Bool.{true≢false}
use Rattle.dri_base.specs.declared.scene.Window.{Window}
use Rattle.dri_clips.specs.Boards.{IsRestacked, Screen, stamps_of}
use Rattle.dri_clips.specs.declared.change.ChangeFault.{ChangeFault}
use Rattle.dri_clips.specs.declared.change.ChangeFault.TheVariants.{NoWindow, OutOfRange, AlreadyMapped, NotMapped, OutOfMemory}
use Rattle.dri_clips.specs.declared.touched.Touched.{Touched}
use Rattle.dri_core.proofs.Stamps.{none_touched, unstamped, untouched}
use Rattle.dri_model.specs.Counting.{how_many}
use Rattle.dri_model.specs.Stacks.{Refusal, is_touched, restamped, unless_refused}

-- a fault that isn't want of memory tells a refusal
pub some_refusal : (r : Option Refusal) (fault : ChangeFault) → fault ≢ OutOfMemory →
    (◌≡◌ {A = Result Touched ChangeFault} (Err fault) (Err NoWindow) ↔ (r ≡ Some Refusal.NoWindow)) → (◌≡◌ {A = Result Touched ChangeFault} (Err fault) (Err OutOfRange) ↔ (r ≡ Some Refusal.OutOfRange)) →
    (◌≡◌ {A = Result Touched ChangeFault} (Err fault) (Err AlreadyMapped) ↔ (r ≡ Some Refusal.AlreadyMapped)) → (◌≡◌ {A = Result Touched ChangeFault} (Err fault) (Err NotMapped) ↔ (r ≡ Some Refusal.NotMapped)) → is_some r ≡ true
some_refusal r NoWindow ne a b c d = rw (a.0 refl) refl
some_refusal r OutOfRange ne a b c d = rw (b.0 refl) refl
some_refusal r AlreadyMapped ne a b c d = rw (c.0 refl) refl
some_refusal r NotMapped ne a b c d = rw (d.0 refl) refl
some_refusal r OutOfMemory ne a b c d = absurd (ne refl)

-- a refused change
pub refused_same : (r : Option Refusal) (ws new : List Window) → is_some r ≡ true → unless_refused r ws new ≡ ws
refused_same None ws new is = absurd (true≢false (sym is))
refused_same (Some why) ws new is = refl

-- the same stack gives no new stamp
pub unrestacked : (stack : List Window) (board board' : Screen) → stack ≡ board.stack → board' ≡ board → IsRestacked stack board board'
unrestacked stack board board' same is = rw (same, is) (record {
  width = refl;
  height = refl;
  root = refl;
  windows = refl;
  stamps = λ i n. unstamped board.width board.height board.stack board.counter (stamps_of board) n i;
  counter = rw (none_touched (is_touched board.width board.height board.stack board.stack) 65 (untouched board.width board.height board.stack)) (omega arith);
})
