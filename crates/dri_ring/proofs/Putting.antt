-- A put on a ring that may be full, and what is counted.
use Rattle.std.proofs.Common.{◌≡◌, ◌≤◌, ◌+◌, ◌-◌, ◌==◌, ℕ, List, [], ◌∷◌, ◌++◌, length, true, Result, Ok, Err, IsErr, OnOk, refl, ◌∙◌, ap, arith}
use Rattle.std.proofs.lemmas.Bool.Decides.{nat_tests}
use Rattle.std.proofs.lemmas.List.{length-append}
use Rattle.dri_ring.specs.Counts.{waiting_after}
use Rattle.dri_ring.specs.Jobs.{effect}
use Rattle.dri_ring.specs.Rings.{OnlyRan, Ring, settled, without_first}
use Rattle.dri_ring.specs.declared.job.Job.{Job}
use Rattle.dri_ring.specs.declared.job.RingFull.{RingFull}

-- a fact of what isn't refused
pub unless_refused : {A E : Type 0} (r : Result A E) (P : Type 0) → (IsErr r → ⊥) → OnOk r P → P
unless_refused (Ok x) P taken is = is
unless_refused (Err e) P taken is = absurd (taken refl)

-- one job fewer
fewer : (jobs : List Job) → length (without_first jobs) ≡ length jobs - 1
fewer [] = refl
fewer (job ∷ jobs) = omega arith

-- a full ring has a place after a step
pub not_full : (old new : List Job) (room : ℕ) → new ≡ without_first old → 1 ≤ room → length old ≡ room → length new ≡ room → ⊥
not_full old new room left some full still = absurd (omega (arith, ap (λ (jobs : List Job). length jobs) left, fewer old, some, full, still))

-- so many wait after the put
pub waiting_full : (old mid new : List Job) (job : Job) (room : ℕ) → mid ≡ without_first old → new ≡ mid ++ job ∷ [] → length old ≡ room → length new ≡ waiting_after room (length old)
waiting_full old mid new job room left last full = rw (is_same full) (ap (λ (jobs : List Job). length jobs) last ∙ length-append mid (job ∷ []) ∙ ap (λ n. n + 1) (ap (λ (jobs : List Job). length jobs) left ∙ fewer old))
  where
    is_same : length old ≡ room → (length old == room) ≡ true
    is_same e = grind (arith, nat_tests)

module _ (old put mid : Ring) (stays : put ≡ old) (left : mid.pending ≡ without_first put.pending) (ran : OnlyRan put mid) (some : 1 ≤ old.room) (full : length old.pending ≡ old.room) where
  room_same : mid.room ≡ old.room
  room_same = ap (λ (v : Ring). v.room) ran ∙ ap (λ (v : Ring). v.room) stays

  left_old : mid.pending ≡ without_first old.pending
  left_old = left ∙ ap (λ (v : Ring). without_first v.pending) stays

  -- so a put after the step isn't refused
  pub has_place : (r : Result (Unit {0}) RingFull) → (IsErr r → length mid.pending ≡ mid.room) → IsErr r → ⊥
  has_place r is e = not_full old.pending mid.pending old.room left_old some full (is e ∙ room_same)

  -- and what the planes come to, and how many wait, is told
  pub settled_full : (new : Ring) (job handed : Job) (r : Result (Unit {0}) RingFull) → (IsErr r → length mid.pending ≡ mid.room) → handed ≡ job → settled mid ≡ settled put → OnOk r (settled new ≡ effect mid.scene (settled mid) handed) → settled new ≡ effect old.scene (settled old) job
  settled_full new job handed r is same kept puts =
      unless_refused r (settled new ≡ effect mid.scene (settled mid) handed) (has_place r is) puts
      ∙ (λ k. effect ((ap (λ (v : Ring). v.scene) ran ∙ ap (λ (v : Ring). v.scene) stays) k) ((kept ∙ ap settled stays) k) (same k))

  pub waiting_put : (new : Ring) (handed : Job) (r : Result (Unit {0}) RingFull) → (IsErr r → length mid.pending ≡ mid.room) → OnOk r (new ≡ record mid { pending = mid.pending ++ handed ∷ [] }) → length new.pending ≡ waiting_after old.room (length old.pending)
  waiting_put new handed r is last =
      waiting_full old.pending mid.pending new.pending handed old.room left_old (ap (λ (v : Ring). v.pending) (unless_refused r (new ≡ record mid { pending = mid.pending ++ handed ∷ [] }) (has_place r is) last)) full
