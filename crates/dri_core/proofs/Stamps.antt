-- What a window's stamp tells of an entry.
use Rattle.std.proofs.Common.{◌≡◌, ◌≤◌, ℕ, zero, suc, List, Bool, true, false, not, arith, refl, sym, ◌∙◌}
use Rattle.std.specs.Prelude.{◌==◌}
use Rattle.std.proofs.lemmas.Bool.{not-true}
use Rattle.std.proofs.lemmas.Bool.Decides.{nat_tests, Decides-int_eq}
use Rattle.dri_base.specs.declared.journal.Entry.{Entry}
use Rattle.dri_base.specs.declared.journal.Entry.TheVariants.{Change, Gone}
use Rattle.dri_base.specs.declared.scene.Scene.{Scene}
use Rattle.dri_base.specs.declared.scene.Window.{Window}
use Rattle.dri_core.specs.EntryTable.{after_entry}
use Rattle.dri_core.specs.Frames.{StampTells, keeps_stamp}
use Rattle.dri_core.specs.Restacks.{next_stack, touched_by, stamps_after}
use Rattle.dri_core.specs.Worlds.{World}
use Rattle.dri_core.proofs.Invariant.{Invariant}
use Rattle.dri_model.specs.Counting.{all_below, how_many}
use Rattle.dri_model.specs.Stacks.{clips, is_touched, origin, restamped, same_bool, same_origin, same_set, without_owner}
use Rattle.dri_model.proofs.Touches.{clips_kept, origin_kept, how_many_at}

-- the same stack touches nothing
all_true : (p : ℕ → Bool) (n : ℕ) → ((k : ℕ) → p k ≡ true) → all_below p n ≡ true
all_true p zero all = refl
all_true p (suc n) all = rw (all n, all_true p n all) refl

same_bool_self : (b : Bool) → same_bool b b ≡ true
same_bool_self true = refl
same_bool_self false = refl

pub untouched : (width height : ℕ) (ws : List Window) (n : ℕ) → is_touched width height ws ws n ≡ false
untouched width height ws n = rw (set, corner) refl
  where
    set : same_set width height (clips width height ws n) (clips width height ws n) ≡ true
    set = all_true (λ x. all_below (λ y. same_bool (clips width height ws n x y) (clips width height ws n x y)) height) width
        (λ x. all_true (λ y. same_bool (clips width height ws n x y) (clips width height ws n x y)) height (λ y. same_bool_self (clips width height ws n x y)))

    corner : same_origin (origin ws n) (origin ws n) ≡ true
    corner = rw ((Decides-int_eq (origin ws n).0 (origin ws n).0).1 refl, (Decides-int_eq (origin ws n).1 (origin ws n).1).1 refl) refl

pub none_touched : (p : ℕ → Bool) (n : ℕ) → ((k : ℕ) → p k ≡ false) → how_many p n ≡ 0
none_touched p zero none = refl
none_touched p (suc n) none = rw (none n) (none_touched p n none)

pub unstamped : (width height : ℕ) (ws : List Window) (counter : ℕ) (stamps : ℕ → ℕ) (n : ℕ) → stamps n ≡ restamped width height ws ws counter stamps n
unstamped width height ws counter stamps n = rw (untouched width height ws n) refl

-- a new stack leaves the stamps of the windows that it doesn't touch, and no other
stamp_kept : (s : Scene) (w : World) (new : List Window) (n : ℕ) → w.stamps n ≤ w.counter → (stamps_after s w new n == w.stamps n) ≡ not (touched_by s w new n)
stamp_kept s w new n le = by_touch (touched_by s w new n) refl
  where
    by_touch : (b : Bool) → touched_by s w new n ≡ b → (stamps_after s w new n == w.stamps n) ≡ not b
    by_touch true t = grind (arith, nat_tests, how_many_at (touched_by s w new) n t)
    by_touch false t = grind (arith, nat_tests)

-- where the stack stays nothing gets a stamp
stack_stays : (s : Scene) (w : World) (n : ℕ) → (w.stamps n == w.stamps n) ≡ not (touched_by s w w.stack n)
stack_stays s w n = rw (untouched s.width s.height w.stack n) (grind (arith, nat_tests))

kept_by : (s : Scene) (w : World) (e : Entry) (n : ℕ) → w.stamps n ≤ w.counter → keeps_stamp s w e n ≡ not (touched_by s w (after_entry s w e).stack n)
kept_by s w (Change i) n le = stamp_kept s w (next_stack s w) n le
kept_by s w (Gone c) n le = stamp_kept s w (without_owner c w.stack) n le
kept_by s w _ n le = stack_stays s w n

pub stamp_tells : (s : Scene) (w : World) (e : Entry) (n : ℕ) → Invariant s w → n ≤ 64 → StampTells s w e n
stamp_tells s w e n inv le = record {
  kept = kept;
  same_clips = λ keeps x y. clips_kept s.width s.height w.stack (after_entry s w e).stack n x y (not_touched keeps);
  same_origin = λ keeps. origin_kept s.width s.height w.stack (after_entry s w e).stack n (not_touched keeps);
}
  where
    kept : keeps_stamp s w e n ≡ not (touched_by s w (after_entry s w e).stack n)
    kept = kept_by s w e n (inv.counted n (omega arith))

    not_touched : keeps_stamp s w e n ≡ true → touched_by s w (after_entry s w e).stack n ≡ false
    not_touched keeps = not-true _ (sym kept ∙ keeps)
