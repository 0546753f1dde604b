-- The steps of a part are those of the private part with which it agrees.
use Rattle.std.proofs.Common.{◌≡◌, ℕ, ◌+◌, Bool, ap, subst, sym, ◌∙◌}
use Rattle.std.specs.Prelude.{◌==◌, ℤ, if◌then◌else◌, not, pred}
use Rattle.dri_base.specs.Scenes.{script_of, window_of}
use Rattle.dri_base.specs.declared.journal.Entry.TheVariants.{Info, Kernel, Leave}
use Rattle.dri_base.specs.declared.scene.ClientScript.{ClientScript}
use Rattle.dri_base.specs.declared.scene.Scene.{Scene}
use Rattle.dri_core.specs.Phases.{In, Old, Out, Phase, left_from}
use Rattle.dri_core.specs.Privates.{Private}
use Rattle.dri_core.specs.Worlds.{World, clips_in, put}
use Rattle.dri_core.proofs.Parts.{put_here}
use Rattle.dri_model.specs.Heaps.{Heap}
use Rattle.dri_model.specs.Stacks.{origin}
use Rattle.dri_client.specs.Parts.{Agrees, PartState, part_after, private_of}
use Rattle.dri_client.specs.Steps.{caught_up, is_last_of}

-- a part agrees with the private part that was put for it
pub agrees_put : (p : PartState) (f : ℕ → Private) (c : ℕ) (q : Private) → Agrees p q → Agrees p (put f c q c)
agrees_put p f c q is = subst (Agrees p) (sym (put_here f c q)) is

module _ (s : Scene) (w : World) (c : ℕ) where
  -- it left the lock
  pub leave_agrees : (p l : PartState) (script : ClientScript) → l ≡ record p { phase = left_from p.phase (is_last_of script (pred p.place)) } → script ≡ script_of s c → Agrees p (w.client c) → Agrees l (part_after s w (Leave c) c)
  leave_agrees p l script is own agrees =
      agrees_put l w.client c (left (script_of s c) (w.client c)) (subst (λ (m : PartState). Agrees m (left (script_of s c) (w.client c))) (sym is) (λ i. left (own i) (agrees i)))
    where
      left : ClientScript → Private → Private
      left t q = record q { phase = left_from q.phase (is_last_of t (pred q.place)) }

  -- it was told its stamp
  pub told_agrees : (p l : PartState) (stamp : ℕ) → l ≡ record p { phase = Out; stamp = stamp } → Agrees p (w.client c) → stamp ≡ w.stamps (window_of s c) → Agrees l (part_after s w (Info c) c)
  told_agrees p l stamp is agrees stamped =
      agrees_put l w.client c (told (w.stamps (window_of s c)) (w.client c)) (subst (λ (m : PartState). Agrees m (told (w.stamps (window_of s c)) (w.client c))) (sym is) (λ i. told (stamped i) (agrees i)))
    where
      told : ℕ → Private → Private
      told n q = record q { phase = Out; stamp = n; copy = clips_in s w c; origin = origin w.stack (window_of s c) }

  -- the kernel let it in, and it has caught up
  pub kernel_agrees : (p m l : PartState) (h : Heap) (new_owner : Bool) (x : Phase) (stamp found : ℕ) → ((copy : ℕ → ℕ → Bool) (place : ℤ × ℤ) → private_of m copy place ≡ caught_up h new_owner (private_of p copy place))
      → l ≡ record m { phase = x } → x ≡ (if p.stamp == stamp then In else Old) → Agrees p (w.client c) → h ≡ w.heap → stamp ≡ w.stamps (window_of s c) → new_owner ≡ not (w.owner == c + 1) → Agrees l (part_after s w (Kernel c found) c)
  kernel_agrees p m l h new_owner x stamp found caught is phase agrees heap stamped owner =
      agrees_put l w.client c (taken w.heap (not (w.owner == c + 1)) (w.stamps (window_of s c)) (w.client c))
      (subst (λ (n : PartState). Agrees n (taken w.heap (not (w.owner == c + 1)) (w.stamps (window_of s c)) (w.client c))) (sym is)
      (ap (λ (q : Private). record q { phase = x }) (caught (w.client c).copy (w.client c).origin) ∙ ((λ i. record (caught_up h new_owner (private_of p (w.client c).copy (w.client c).origin)) { phase = phase i }) ∙ (λ i. taken (heap i) (owner i) (stamped i) (agrees i)))))
    where
      taken : Heap → Bool → ℕ → Private → Private
      taken g new n q = record (caught_up g new q) { phase = if q.stamp == n then In else Old }
