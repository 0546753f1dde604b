use Rattle.std.proofs.Common.{◌≡◌, ◌∙◌, Bool, true, false, ap, inl, inr, subst, sym}
use Rattle.std.specs.Prelude.{◌⊎◌, if◌then◌else◌}
use Rattle.dri_base.specs.declared.journal.Entry.TheVariants.{Kernel}
use Rattle.dri_core.specs.Effects.{taken_in}
use Rattle.dri_core.specs.Phases.{Phase, In, Old}
use Rattle.dri_core.specs.Privates.{Private}
use Rattle.dri_core.proofs.Parts.{put_here}
use Rattle.dri_shared.specs.Sides.{world_at}
use Rattle.dri_driver.specs.Clients.{ClientState}
use Rattle.dri_driver.specs.Kept.{IsClient, state_of}
use Rattle.dri_driver.proofs.Counts.{taken_need}
use Rattle.dri_driver.proofs.Fitting.{agreed_in, kernel_copies, kernel_told, makes_at, same_but, step_made, with_part}
use Rattle.dri_driver.proofs.client.Client.after_kernel.Goals as goal

one_of : (b : Bool) (p : Phase) → p ≡ (if b then Old else In) → (p ≡ In) ⊎ (p ≡ Old)
one_of true p is = inr is
one_of false p is = inl is

pub invariant_of-self : goal.invariant_of-self
invariant_of-self c =
    let is = c.self.invariant in
    record { good = is.good; there = is.there; kept = c.kernel-is_stale.ensures.kept _ _ is.kept; sized = c.kernel-is_stale.ensures.size ∙ is.sized; copy = is.copy }

pub returns-clause-made : goal.returns-clause-made
returns-clause-made c =
    let k = c.args.self.now in
    let a = c.args.side.now in
    let b = c.kernel-taken.new.self in
    let w = world_at a in
    let n = k.number in
    let found = c.args.found in
    let fits = c.requires.fits in
    let makes = makes_at (λ x. Kernel x found) a b n c.requires.client c.kernel-taken.ensures.made in
    let agrees = kernel_told k a b found _ c.kernel-taken.result.stamp c.kernel-taken.result.new_owner c.kernel-is_stale.new.self c.requires.client fits makes c.regions.ensures.heap c.kernel-taken.ensures.stamp c.kernel-taken.ensures.owner
    (c.kernel-is_stale.ensures.part k.scene w n found (agreed_in k (state_of c.self.inside) (w.client n) c.self.view_is fits.part)) in
    step_made k (with_part (state_of c.self.inside) c.kernel-is_stale.new.self) a b (Kernel n found) fits makes (same_but k (state_of c.self.inside) c.kernel-is_stale.new.self c.self.view_is) (kernel_copies k.scene w n found) agrees

pub returns-clause-need : goal.returns-clause-need
returns-clause-need c =
    let k = c.args.self.now in
    let a = c.args.side.now in
    let b = c.kernel-taken.new.self in
    let w = world_at a in
    let n = k.number in
    let found = c.args.found in
    let fits = c.requires.fits in
    let makes = makes_at (λ x. Kernel x found) a b n c.requires.client c.kernel-taken.ensures.made in
    let agrees = kernel_told k a b found _ c.kernel-taken.result.stamp c.kernel-taken.result.new_owner c.kernel-is_stale.new.self c.requires.client fits makes c.regions.ensures.heap c.kernel-taken.ensures.stamp c.kernel-taken.ensures.owner
    (c.kernel-is_stale.ensures.part k.scene w n found (agreed_in k (state_of c.self.inside) (w.client n) c.self.view_is fits.part)) in
    let kept = subst (λ (x : ClientState). IsClient x c.self.inside.index) c.self.view_is c.self.invariant in
    let place = ap (λ (p : Private). p.place) agrees ∙ (ap (λ (p : Private). p.place) (put_here w.client n (taken_in k.scene w n)) ∙ ap (λ (p : Private). p.place) (sym fits.part)) in
    taken_need k (with_part (state_of c.self.inside) c.kernel-is_stale.new.self) c.self.inside.index (ap (λ (x : ClientState). x.scene) c.self.view_is) (ap (λ (x : ClientState). x.number) c.self.view_is) place
    (one_of _ _ c.kernel-is_stale.ensures.phase) kept (ap (λ (p : Private). p.phase) fits.part ∙ c.requires.legal.0)
