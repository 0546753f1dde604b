-- Changes and deaths keep the central invariant.
use Rattle.std.proofs.Common.{◌≡◌, ◌<◌, ◌≤◌, ℕ, zero, suc, List, Bool, true, false, Some, None, arith, refl, sym, ◌∙◌, inl, inr}
use Rattle.std.specs.Prelude.{◌⊎◌}
use Rattle.std.proofs.lemmas.Bool.Decides.{nat_tests}
use Rattle.dri_base.specs.declared.scene.Window.{Window}
use Rattle.dri_base.specs.declared.journal.Entry.TheVariants.{Change, Gone}
use Rattle.dri_base.specs.declared.scene.Scene.{Scene}
use Rattle.dri_base.proofs.RangeLemmas.{IsWellFormed}
use Rattle.dri_base.specs.Scenes.{window_of}
use Rattle.dri_model.specs.Stacks.{clips, origin, without_owner}
use Rattle.dri_core.specs.Worlds.{World}
use Rattle.dri_core.specs.EntryTable.{LegalEntry, after_entry}
use Rattle.dri_core.specs.Phases.{Dead, is_holding}
use Rattle.dri_core.specs.Restacks.{next_stack, touched_by, stamps_after, counter_after}
use Rattle.dri_model.proofs.Touches.{clips_kept, origin_kept, how_many_at, stamp_bounded}
use Rattle.dri_core.proofs.Clean.{put_clean}
use Rattle.dri_core.proofs.Invariant.{Invariant, acting_holds, one_holder}

-- a stamp that is still the shared one after a change was it before, and the window wasn't touched
pub stamp_stood : (s : Scene) (w : World) (new : List Window) (stamp n : ℕ) → stamp ≤ w.counter → stamp ≡ stamps_after s w new n →
    (stamp ≡ w.stamps n) × (touched_by s w new n ≡ false)
stamp_stood s w new stamp n le e = by_touch (touched_by s w new n) refl
  where
    by_touch : (b : Bool) → touched_by s w new n ≡ b → (stamp ≡ w.stamps n) × (touched_by s w new n ≡ false)
    by_touch true t = absurd (grind (arith, how_many_at (touched_by s w new) n t))
    by_touch false t = (e ∙ rw t refl, t)

pub stamp_counted : (s : Scene) (w : World) (new : List Window) (n : ℕ) → n < 65 → w.stamps n ≤ w.counter → stamps_after s w new n ≤ counter_after s w new
stamp_counted s w new n l le = by_touch (touched_by s w new n) refl
  where
    by_touch : (b : Bool) → touched_by s w new n ≡ b → stamps_after s w new n ≤ counter_after s w new
    by_touch true t = rw t (omega (arith, stamp_bounded (touched_by s w new) n l))
    by_touch false t = rw t (omega arith)

-- what a new stack does to a client that doesn't act
pub record Restacked (s : Scene) (w : World) (new : List Window) : Type 0 where
  pub counted : (n : ℕ) → n < 65 → stamps_after s w new n ≤ counter_after s w new
  pub stamped : (c : ℕ) → (w.client c).stamp ≤ counter_after s w new
  pub copy : (c x y : ℕ) → (w.client c).stamp ≡ stamps_after s w new (window_of s c) → (w.client c).copy x y ≡ clips s.width s.height new (window_of s c) x y
  pub place : (c : ℕ) → (w.client c).stamp ≡ stamps_after s w new (window_of s c) → (w.client c).origin ≡ origin new (window_of s c)

pub restack : (s : Scene) (w : World) (new : List Window) → Invariant s w → Restacked s w new
restack s w new inv = record {
  counted = λ n l. stamp_counted s w new n l (inv.counted n l);
  stamped = λ c. grind (arith, inv.stamped c);
  copy = λ c x y e. let h = stood c e in inv.copy c x y h.0 ∙ sym (clips_kept s.width s.height w.stack new (window_of s c) x y h.1);
  place = λ c e. let h = stood c e in inv.place c h.0 ∙ sym (origin_kept s.width s.height w.stack new (window_of s c) h.1);
}
  where
    stood : (c : ℕ) → (w.client c).stamp ≡ stamps_after s w new (window_of s c) →
        ((w.client c).stamp ≡ w.stamps (window_of s c)) × (touched_by s w new (window_of s c) ≡ false)
    stood c = stamp_stood s w new (w.client c).stamp (window_of s c) (inv.stamped c)

pub change : (s : Scene) (w : World) (i : ℕ) → IsWellFormed s → Invariant s w → LegalEntry s w (Change i) → Invariant s (after_entry s w (Change i))
change s w i good inv legal = record {
  counted = r.counted;
  stamped = r.stamped;
  copy = r.copy;
  place = r.place;
  holding = inv.holding;
  acting_stamp = λ c h. absurd (no_holder (inv.holding c (acting_holds _ h)) legal.0);
  acting_owner = inv.acting_owner;
  light_stamp = λ c n l p. grind (arith, inv.nobody);
  light_owner = λ c n l p. grind (arith, inv.nobody);
  nobody = inv.nobody;
  started = inv.started;
  state = inv.state;
  clean = inv.clean;
}
  where
    no_holder : {d : ℕ} → w.holder ≡ Some d → w.holder ≡ None → ⊥
    no_holder a b = grind arith

    r : Restacked s w (next_stack s w)
    r = restack s w (next_stack s w) inv

-- where c may be gone nobody else holds
pub alone : (s : Scene) (w : World) (c : ℕ) → Invariant s w → LegalEntry s w (Gone c) → (d : ℕ) → is_holding (w.client d).phase ≡ true → d ≡ c
alone s w c inv (inl dies) d h = one_holder (inv.holding c (acting_holds _ (rw dies.0 refl))) (inv.holding d h)
alone s w c inv (inr named) d h = by_hold named.2
  where
    by_hold : (is_holding (w.client c).phase ≡ true) ⊎ (w.holder ≡ None) → d ≡ c
    by_hold (inl holds) = grind (arith, inv.holding c, inv.holding d)
    by_hold (inr none) = grind (arith, inv.holding d)

pub not_zero : (s : Scene) (w : World) (c : ℕ) → Invariant s w → LegalEntry s w (Gone c) → 0 < c
not_zero s w zero inv (inl dies) = absurd (grind (arith, inv.nobody, dies.0))
not_zero s w zero inv (inr named) = absurd (grind (arith, inv.nobody, named.1))
not_zero s w (suc c) inv legal = omega arith

pub gone : (s : Scene) (w : World) (c : ℕ) → IsWellFormed s → Invariant s w → LegalEntry s w (Gone c) → Invariant s (after_entry s w (Gone c))
gone s w c good inv legal = record {
  counted = r.counted;
  stamped = λ d. grind (arith, nat_tests, r.stamped d);
  copy = λ d x y. grind (arith, nat_tests, r.copy d x y);
  place = λ d. grind (arith, nat_tests, r.place d);
  holding = λ d h. absurd (nobody_holds d h);
  acting_stamp = λ d h. absurd (nobody_holds d (acting_holds _ h));
  acting_owner = λ d h. absurd (nobody_holds d (acting_holds _ h));
  light_stamp = λ d n l p. absurd (omega arith);
  light_owner = λ d n l p. absurd (omega arith);
  nobody = grind (arith, nat_tests, inv.nobody, not_zero s w c inv legal);
  started = λ d. grind (arith, nat_tests, inv.started d);
  state = λ d. grind (arith, nat_tests, inv.state d);
  clean = put_clean s w c (record (w.client c) { phase = Dead }) inv.clean (inv.clean c);
}
  where
    r : Restacked s w (without_owner c w.stack)
    r = restack s w (without_owner c w.stack) inv

    others : (d : ℕ) → is_holding (w.client d).phase ≡ true → d ≡ c
    others = alone s w c inv legal

    nobody_holds : (d : ℕ) → is_holding ((after_entry s w (Gone c)).client d).phase ≡ true → ⊥
    nobody_holds d h = grind (arith, nat_tests, others d)
