-- Entries of clients keep the central invariant.
use Rattle.std.proofs.Common.{◌≡◌, ◌<◌, ◌≤◌, ◌+◌, ℕ, Bool, true, false, not, arith, refl, ap}
use Rattle.std.specs.Prelude.{◌==◌}
use Rattle.std.proofs.lemmas.Bool.{true≢false}
use Rattle.std.proofs.lemmas.Bool.Decides.{nat_tests}
use Rattle.dri_base.specs.declared.journal.Entry.TheVariants.{Light, Kernel, Stale, Emit, Place, Leave, Info, Run}
use Rattle.dri_base.specs.declared.scene.Scene.{Scene}
use Rattle.dri_base.proofs.RangeLemmas.{IsWellFormed}
use Rattle.dri_base.specs.Scenes.{window_of, commands_of, command_at, textures_of}
use Rattle.dri_model.specs.Heaps.{is_newer}
use Rattle.dri_core.specs.Worlds.{World}
use Rattle.dri_base.specs.Texels.{texture_bound}
use Rattle.dri_core.specs.Phases.{Ask, In}
use Rattle.dri_core.specs.Privates.{bound_at, bound_texture, is_bound_lost, own_registers, spot_of, state_by}
use Rattle.dri_core.specs.Runs.{IsClean}
use Rattle.dri_model.specs.Groups.{no_groups}
use Rattle.dri_model.specs.Words.{loaded}
use Rattle.dri_core.specs.EntryTable.{LegalEntry, after_entry}
use Rattle.dri_core.specs.Effects.{after_leave, placed_by, run_by, taken_in, told}
use Rattle.dri_core.proofs.Parts.{put_keeps}
use Rattle.dri_core.proofs.Clean.{changed_clean, emitted_clean, kept_spot, more_dirty, owned_clean, put_clean}
use Rattle.dri_core.proofs.Invariant.{is_acting, Invariant, state_on}

pub light : (s : Scene) (w : World) (c : ℕ) → IsWellFormed s → Invariant s w → LegalEntry s w (Light c) → Invariant s (after_entry s w (Light c))
light s w c good inv legal = record {
  counted = inv.counted;
  stamped = grind (arith, nat_tests);
  copy = grind (arith, nat_tests);
  place = grind (arith, nat_tests);
  holding = grind (arith, nat_tests);
  acting_stamp = grind (arith, nat_tests);
  acting_owner = grind (arith, nat_tests);
  light_stamp = grind (arith, nat_tests);
  light_owner = grind (arith, nat_tests);
  nobody = grind (arith, nat_tests);
  started = grind (arith, nat_tests);
  state = grind (arith, nat_tests);
  clean = put_clean s w c (record (w.client c) { phase = In }) inv.clean (inv.clean c);
}

pub kernel : (s : Scene) (w : World) (c found : ℕ) → IsWellFormed s → Invariant s w → LegalEntry s w (Kernel c found) → Invariant s (after_entry s w (Kernel c found))
kernel s w c found good inv legal = record {
  counted = inv.counted;
  stamped = grind (arith, nat_tests);
  copy = grind (arith, nat_tests);
  place = grind (arith, nat_tests);
  holding = grind (arith, nat_tests);
  acting_stamp = grind (arith, nat_tests);
  acting_owner = grind (arith, nat_tests);
  light_stamp = grind (arith, nat_tests);
  light_owner = grind (arith, nat_tests);
  nobody = grind (arith, nat_tests);
  started = grind (arith, nat_tests);
  state = grind (arith, nat_tests);
  clean = owned_clean s w.client c (c + 1) (taken_in s w c) w.registers refl taken;
}
  where
    lost : ℕ → Bool
    lost = is_newer w.heap (w.client c).local

    same : is_bound_lost (w.client c) lost ≡ false → bound_texture s c (taken_in s w c) ≡ bound_texture s c (w.client c)
    same e = ap (bound_at s.region_size (texture_bound (textures_of s c) (w.client c).state.bound)) (kept_spot lost (w.client c).placed (w.client c).state.bound e)

    owned : not (w.owner == c + 1) ≡ false → w.owner ≡ c + 1
    owned e = grind (arith, nat_tests)

    taken : IsClean (taken_in s w c).dirty (own_registers s c (taken_in s w c)) w.registers
    taken = more_dirty (w.client c).dirty (not (w.owner == c + 1)) (is_bound_lost (w.client c) lost) (own_registers s c (w.client c)) w.registers (bound_texture s c (taken_in s w c)) (λ e. inv.clean c (owned e)) same

pub stale : (s : Scene) (w : World) (c : ℕ) → IsWellFormed s → Invariant s w → LegalEntry s w (Stale c) → Invariant s (after_entry s w (Stale c))
stale s w c good inv legal = record {
  counted = inv.counted;
  stamped = grind (arith, nat_tests);
  copy = grind (arith, nat_tests);
  place = grind (arith, nat_tests);
  holding = grind (arith, nat_tests);
  acting_stamp = grind (arith, nat_tests);
  acting_owner = grind (arith, nat_tests);
  light_stamp = grind (arith, nat_tests);
  light_owner = grind (arith, nat_tests);
  nobody = grind (arith, nat_tests);
  started = grind (arith, nat_tests);
  state = grind (arith, nat_tests);
  clean = put_clean s w c (record (w.client c) { phase = Ask }) inv.clean (inv.clean c);
}

pub emit : (s : Scene) (w : World) (c groups : ℕ) → IsWellFormed s → Invariant s w → LegalEntry s w (Emit c groups) → Invariant s (after_entry s w (Emit c groups))
emit s w c groups good inv legal = record {
  counted = inv.counted;
  stamped = grind (arith, nat_tests);
  copy = grind (arith, nat_tests);
  place = grind (arith, nat_tests);
  holding = grind (arith, nat_tests);
  acting_stamp = grind (arith, nat_tests);
  acting_owner = grind (arith, nat_tests);
  light_stamp = grind (arith, nat_tests);
  light_owner = grind (arith, nat_tests);
  nobody = grind (arith, nat_tests);
  started = grind (arith, nat_tests);
  state = grind (arith, nat_tests);
  clean = owned_clean s w.client c w.owner (record (w.client c) { dirty = no_groups }) (loaded (w.client c).dirty (own_registers s c (w.client c)) w.registers) owns (emitted_clean (w.client c).dirty (own_registers s c (w.client c)) w.registers (inv.clean c owns));
}
  where
    owns : w.owner ≡ c + 1
    owns = inv.acting_owner c (rw legal.0.0 refl)

pub place : (s : Scene) (w : World) (c t first count : ℕ) → IsWellFormed s → Invariant s w → LegalEntry s w (Place c t first count) → Invariant s (after_entry s w (Place c t first count))
place s w c t first count good inv legal = record {
  counted = inv.counted;
  stamped = grind (arith, nat_tests);
  copy = grind (arith, nat_tests);
  place = grind (arith, nat_tests);
  holding = grind (arith, nat_tests);
  acting_stamp = grind (arith, nat_tests);
  acting_owner = grind (arith, nat_tests);
  light_stamp = grind (arith, nat_tests);
  light_owner = grind (arith, nat_tests);
  nobody = grind (arith, nat_tests);
  started = grind (arith, nat_tests);
  state = grind (arith, nat_tests);
  clean = put_clean s w c (placed_by s w c t first count) inv.clean (λ own. more_dirty (w.client c).dirty false true (own_registers s c (w.client c)) w.registers (bound_texture s c (placed_by s w c t first count)) (λ e. inv.clean c own) (λ e. absurd (true≢false e)));
}

pub leave : (s : Scene) (w : World) (c : ℕ) → IsWellFormed s → Invariant s w → LegalEntry s w (Leave c) → Invariant s (after_entry s w (Leave c))
leave s w c good inv legal = record {
  counted = inv.counted;
  stamped = grind (arith, nat_tests);
  copy = grind (arith, nat_tests);
  place = grind (arith, nat_tests);
  holding = grind (arith, nat_tests);
  acting_stamp = grind (arith, nat_tests);
  acting_owner = grind (arith, nat_tests);
  light_stamp = grind (arith, nat_tests);
  light_owner = grind (arith, nat_tests);
  nobody = grind (arith, nat_tests);
  started = grind (arith, nat_tests);
  state = grind (arith, nat_tests);
  clean = put_clean s w c (record (w.client c) { phase = after_leave s c (w.client c) }) inv.clean (inv.clean c);
}

pub info : (s : Scene) (w : World) (c : ℕ) → IsWellFormed s → Invariant s w → LegalEntry s w (Info c) → Invariant s (after_entry s w (Info c))
info s w c good inv legal = record {
  counted = inv.counted;
  stamped = grind (arith, nat_tests);
  copy = grind (arith, nat_tests);
  place = grind (arith, nat_tests);
  holding = grind (arith, nat_tests);
  acting_stamp = grind (arith, nat_tests);
  acting_owner = grind (arith, nat_tests);
  light_stamp = grind (arith, nat_tests);
  light_owner = grind (arith, nat_tests);
  nobody = grind (arith, nat_tests);
  started = grind (arith, nat_tests);
  state = grind (arith, nat_tests);
  clean = put_clean s w c (told s w c) inv.clean (inv.clean c);
}

pub ran : (s : Scene) (w : World) (c i : ℕ) → IsWellFormed s → Invariant s w → LegalEntry s w (Run c i) → Invariant s (after_entry s w (Run c i))
ran s w c i good inv legal = record {
  counted = inv.counted;
  stamped = λ d. put_keeps (λ k q. q.stamp ≤ w.counter) w.client c (run_by s w c i) d (inv.stamped c) (inv.stamped d);
  copy = grind (arith, nat_tests);
  place = grind (arith, nat_tests);
  holding = grind (arith, nat_tests);
  acting_stamp = λ d. put_keeps (λ k q. is_acting q.phase ≡ true → q.stamp ≡ w.stamps (window_of s k)) w.client c (run_by s w c i) d (λ h. inv.acting_stamp c (rw legal.0 refl)) (inv.acting_stamp d);
  acting_owner = grind (arith, nat_tests);
  light_stamp = grind (arith, nat_tests);
  light_owner = grind (arith, nat_tests);
  nobody = grind (arith, nat_tests);
  started = λ d. put_keeps (λ k q. 0 < q.place) w.client c (run_by s w c i) d (omega arith) (inv.started d);
  state = λ d. grind (arith, nat_tests, inv.state d, state_on (commands_of s c) i (rw legal.1 (inv.started c)));
  clean = put_clean s w c (run_by s w c i) inv.clean (λ own. changed_clean (w.client c).state (state_by (command_at s c i) (w.client c).state) (w.client c).dirty (λ b. bound_at s.region_size (texture_bound (textures_of s c) b) (spot_of (w.client c).placed b)) w.registers (inv.clean c own));
}
