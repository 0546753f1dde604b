-- Each entry raises the global age by no more than its client may.
use Rattle.std.proofs.Common.{◌≡◌, ◌<◌, ◌≤◌, ◌+◌, ◌*◌, ℕ, suc, length, Bool, true, false, Option, Some, None, arith, refl, inl, inr}
use Rattle.std.specs.Prelude.{◌==◌, ◌⊎◌, nat_le, pred, if◌then◌else◌}
use Rattle.std.specs.List.{sum_by}
use Rattle.std.proofs.lemmas.Bool.Decides.{nat_tests}
use Rattle.dri_base.specs.declared.command.Command.{Command}
use Rattle.dri_base.specs.declared.journal.Entry.{Entry}
use Rattle.dri_base.specs.declared.journal.Entry.TheVariants.{Light, Kernel, Stale, Emit, Place, Leave, Info, Change, Run, Gone}
use Rattle.dri_base.specs.declared.command.Command.TheVariants as Command_is
use Rattle.dri_base.specs.declared.scene.Scene.{Scene}
use Rattle.dri_base.specs.Ranges.{client_numbers}
use Rattle.dri_base.specs.Scenes.{commands_of, command_at}
use Rattle.dri_model.specs.Heaps as Heaps
use Rattle.dri_model.specs.Heaps.{Heap, age_freed, allocated, classes_for, touched}
use Rattle.dri_core.specs.Effects.{heap_placed, run_at, run_by, placed_by, taken_in, told, heap_after, after_leave}
use Rattle.dri_core.specs.EntryTable.{LegalEntry, after_entry}
use Rattle.dri_core.specs.Phases.{Phase, Out, Old, In, Over, Ask, Asking, Ended, Dead, is_done}
use Rattle.dri_core.specs.Privates.{Private, is_ready, is_small, room_in, used_spot}
use Rattle.dri_core.specs.Worlds.{World}
use Rattle.dri_core.proofs.Endings.{has_command}
use Rattle.dri_core.proofs.Lively.{Lively}
use Rattle.dri_core.proofs.Parts.{put_here, put_keeps}
use Rattle.dri_core.proofs.Sound.{Sound}
use Rattle.dri_core.proofs.WorkParts.{sum_stays, sum_falls, listed}

-- what a client may have raised the global age by, beside 3 for each command that it ran: 2 where it has placed a texture and not yet drawn
abbrev pub age_bonus : Phase → Bool → Bool → ℕ
age_bonus In ready left = if ready then 2 else 0
age_bonus Dead ready left = if left then 2 else 0
age_bonus _ ready left = 0

abbrev pub age_part : Scene → ℕ → Private → ℕ
age_part s c p = 3 * pred p.place + age_bonus p.phase (is_ready p) (nat_le p.place (length (commands_of s c)))

pub bonus_small : (p : Phase) (a b : Bool) → age_bonus p a b ≤ 2
bonus_small In true b = omega arith
bonus_small In false b = omega arith
bonus_small Dead a true = omega arith
bonus_small Dead a false = omega arith
bonus_small Out a b = omega arith
bonus_small Old a b = omega arith
bonus_small Over a b = omega arith
bonus_small Ask a b = omega arith
bonus_small Asking a b = omega arith
bonus_small Ended a b = omega arith

-- a death keeps what was raised
pub bonus_dead : (p : Phase) (a b : Bool) → (p ≡ In → b ≡ true) → age_bonus p a b ≤ age_bonus Dead a b
bonus_dead In true b h = rw (h refl) (omega arith)
bonus_dead In false b h = omega arith
bonus_dead Dead a b h = omega arith
bonus_dead Out a b h = omega arith
bonus_dead Old a b h = omega arith
bonus_dead Over a b h = omega arith
bonus_dead Ask a b h = omega arith
bonus_dead Asking a b h = omega arith
bonus_dead Ended a b h = omega arith

-- what a client has raised only rises
abbrev pub Rises : Scene → World → ℕ → Private → Type 0
Rises s w d p = age_part s d (w.client d) ≤ age_part s d p

pub leave_rises : (l : ℕ) (p q : Phase) (a b : Bool) → (p ≡ Over) ⊎ (p ≡ Ask) → 3 * l + age_bonus p a b ≤ 3 * l + age_bonus q a b
leave_rises l p q a b (inl over) = rw over (omega arith)
leave_rises l p q a b (inr ask) = rw ask (omega arith)

pub ran_rises : (s : Scene) (w : World) (c i : ℕ) → LegalEntry s w (Run c i) → 0 < (w.client c).place → age_part s c (w.client c) + 1 ≤ age_part s c (run_by s w c i)
ran_rises s w c i legal l = omega (arith, legal.1, l, bonus_small (w.client c).phase (is_ready (w.client c)) (nat_le (w.client c).place (length (commands_of s c))))

pub placed_rises : (s : Scene) (w : World) (c t first count : ℕ) → LegalEntry s w (Place c t first count) → age_part s c (w.client c) + 2 ≤ age_part s c (placed_by s w c t first count)
placed_rises s w c t first count legal = rw (legal.0.0, missing, placed) (omega arith)
  where
    missing : is_ready (w.client c) ≡ false
    missing = rw (legal.1, legal.2) refl

    same : (t == t) ≡ true
    same = grind (arith, nat_tests)

    placed : is_ready (placed_by s w c t first count) ≡ true
    placed = rw legal.1 (rw same refl)

pub gone_rises : (s : Scene) (w : World) (c : ℕ) → Lively s w → age_part s c (w.client c) ≤ age_part s c (record (w.client c) { phase = Dead })
gone_rises s w c lively = omega (arith, bonus_dead (w.client c).phase (is_ready (w.client c)) (nat_le (w.client c).place (length (commands_of s c))) left)
  where
    left : (w.client c).phase ≡ In → nat_le (w.client c).place (length (commands_of s c)) ≡ true
    left h = grind (arith, nat_tests, lively.more c (rw h refl))

pub rises : (s : Scene) (w : World) (e : Entry) → Sound s w → Lively s w → LegalEntry s w e → (d : ℕ) → Rises s w d ((after_entry s w e).client d)
rises s w (Light c) sound lively legal d = put_keeps (Rises s w) w.client c _ d (rw legal.0 (omega arith)) (omega arith)
rises s w (Kernel c found) sound lively legal d = put_keeps (Rises s w) w.client c (taken_in s w c) d (rw legal.0 (omega arith)) (omega arith)
rises s w (Stale c) sound lively legal d = put_keeps (Rises s w) w.client c _ d (rw legal (omega arith)) (omega arith)
rises s w (Emit c groups) sound lively legal d = put_keeps (Rises s w) w.client c _ d (omega arith) (omega arith)
rises s w (Place c t first count) sound lively legal d = put_keeps (Rises s w) w.client c (placed_by s w c t first count) d (omega (arith, placed_rises s w c t first count legal)) (omega arith)
rises s w (Run c i) sound lively legal d = put_keeps (Rises s w) w.client c (run_by s w c i) d (omega (arith, ran_rises s w c i legal (sound.main.started c))) (omega arith)
rises s w (Leave c) sound lively legal d = put_keeps (Rises s w) w.client c (record (w.client c) { phase = after_leave s c (w.client c) }) d (leave_rises (pred (w.client c).place) (w.client c).phase (after_leave s c (w.client c)) (is_ready (w.client c)) (nat_le (w.client c).place (length (commands_of s c))) legal) (omega arith)
rises s w (Info c) sound lively legal d = put_keeps (Rises s w) w.client c (told s w c) d (rw legal.0 (omega arith)) (omega arith)
rises s w (Change i) sound lively legal d = omega arith
rises s w (Gone c) sound lively legal d = put_keeps (Rises s w) w.client c (record (w.client c) { phase = Dead }) d (gone_rises s w c lively) (omega arith)

-- what all clients have raised
abbrev pub ages_part : Scene → World → ℕ
ages_part s w = sum_by (λ c. age_part s c (w.client c)) (client_numbers s.clients)

pub freed_near : (n : ℕ) (h : Heap) (count : ℕ) → age_freed n h count ≤ h.global + 1
freed_near n h count = by_test (classes_for n h count == 0)
  where
    by_test : (b : Bool) → (if b then h.global else suc h.global) ≤ h.global + 1
    by_test true = omega arith
    by_test false = omega arith

-- where there is room no age rises
pub placed_near : (room : Option Heaps.Spot) (small : Bool) (n : ℕ) (h : Heap) (first count : ℕ) → (heap_placed room small n h (run_at first count)).global ≤ h.global + 2
placed_near None small n h first count = omega (arith, freed_near n h count)
placed_near (Some room) small n h first count = omega arith

pub drawn_near : (h : Heap) (run : Option Heaps.Spot) (command : Option Command) → (heap_after h run command).global ≤ h.global + 1
drawn_near h (Some run) (Some (Command_is.Triangle t)) = omega arith
drawn_near h None (Some (Command_is.Triangle t)) = omega arith
drawn_near h run _ = omega arith

abbrev pub IsAgeBounded : Scene → World → Type 0
IsAgeBounded s w = w.heap.global ≤ ages_part s w

-- one client has raised x more
pub raised : (s : Scene) (w : World) (e : Entry) (c x : ℕ) → Sound s w → Lively s w → LegalEntry s w e → is_done (w.client c).phase ≡ false → age_part s c (w.client c) + x ≤ age_part s c ((after_entry s w e).client c) → ages_part s w + x ≤ ages_part s (after_entry s w e)
raised s w e c x sound lively legal live more =
    let all = sum_falls (λ d. age_part s d ((after_entry s w e).client d)) (λ d. age_part s d (w.client d)) (client_numbers s.clients) c x 0 (listed s.clients c (has_command s w c lively live))
    (λ d. omega (arith, rises s w e sound lively legal d)) (omega (arith, more)) in
    omega (arith, all)

pub stays_raised : (s : Scene) (w : World) (e : Entry) → Sound s w → Lively s w → LegalEntry s w e → ages_part s w ≤ ages_part s (after_entry s w e)
stays_raised s w e sound lively legal = sum_stays (λ d. age_part s d ((after_entry s w e).client d)) (λ d. age_part s d (w.client d)) (client_numbers s.clients) (rises s w e sound lively legal)

pub age_step : (s : Scene) (w : World) (e : Entry) → Sound s w → Lively s w → LegalEntry s w e → IsAgeBounded s w → IsAgeBounded s (after_entry s w e)
age_step s w (Place c t first count) sound lively legal old =
    omega (arith, old, placed_near (room_in s c (w.client c) t) (is_small s c t) s.regions w.heap first count, raised s w (Place c t first count) c 2 sound lively legal (rw legal.0.0 refl) (rw (put_here w.client c (placed_by s w c t first count)) (placed_rises s w c t first count legal)))
age_step s w (Run c i) sound lively legal old =
    omega (arith, old, drawn_near w.heap (used_spot (w.client c)) (command_at s c i), raised s w (Run c i) c 1 sound lively legal (rw legal.0 refl) (rw (put_here w.client c (run_by s w c i)) (ran_rises s w c i legal (sound.main.started c))))
age_step s w (Light c) sound lively legal old = omega (arith, old, stays_raised s w (Light c) sound lively legal)
age_step s w (Kernel c found) sound lively legal old = omega (arith, old, stays_raised s w (Kernel c found) sound lively legal)
age_step s w (Stale c) sound lively legal old = omega (arith, old, stays_raised s w (Stale c) sound lively legal)
age_step s w (Emit c groups) sound lively legal old = omega (arith, old, stays_raised s w (Emit c groups) sound lively legal)
age_step s w (Leave c) sound lively legal old = omega (arith, old, stays_raised s w (Leave c) sound lively legal)
age_step s w (Info c) sound lively legal old = omega (arith, old, stays_raised s w (Info c) sound lively legal)
age_step s w (Change i) sound lively legal old = omega (arith, old, stays_raised s w (Change i) sound lively legal)
age_step s w (Gone c) sound lively legal old = omega (arith, old, stays_raised s w (Gone c) sound lively legal)
