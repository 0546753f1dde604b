use Rattle.std.proofs.Common.{◌≡◌, ◌∙◌, ap, arith, eqb, false, pos, subst, ℕ}
use Rattle.std.specs.Prelude.{◌==◌, if◌then◌else◌, not}
use Rattle.std.proofs.lemmas.Bool.Decides.{nat_tests}
use Rattle.dri_core.specs.Phases.{In, Old, Out}
use Rattle.dri_core.specs.Privates.{Private}
use Rattle.dri_texheap.specs.RegionStates.{heap_of}
use Rattle.dri_client.specs.Activities.{phase_in}
use Rattle.dri_client.specs.Kept.{GoesOn}
use Rattle.dri_client.specs.Parts.{PartState}
use Rattle.dri_client.proofs.Agreeing.{kernel_agrees}
use Rattle.dri_client.proofs.Keeping.{goes_taken, phase_kept}
use Rattle.dri_client.proofs.part.ClientPart.kernel.Goals as goal

turned : (x y : ℕ) → not (eqb x y) ≡ not (y == x)
turned x y = grind (arith, nat_tests)

phase_turned : (x y : ℕ) → (if not (eqb x y) then Old else In) ≡ (if y == x then In else Old)
phase_turned x y = grind (arith, nat_tests)

-- catching up leaves the stamp, the place and the phase
stamp_same : (c : goal.After-self-1) → c.self.inside.stamp ≡ c.args.self.now.stamp
stamp_same c = ap (λ (p : PartState). p.stamp) c.self.view_is ∙ ap (λ (q : Private). q.stamp) (c.catch_up.ensures.part (λ x y. false) (pos 0, pos 0))

phase_same : (c : goal.After-self-1) → c.catch_up.new.self.phase ≡ Out
phase_same c = ap (λ (q : Private). q.phase) (c.catch_up.ensures.part (λ x y. false) (pos 0, pos 0)) ∙ c.requires.out

pub returns-clause-stale : goal.returns-clause-stale
returns-clause-stale c = ap (λ n. not (eqb c.args.stamp n)) (stamp_same c) ∙ turned c.args.stamp c.args.self.now.stamp

pub returns-clause-part : goal.returns-clause-part
returns-clause-part c = λ s w d found agrees heap stamped owner.
    let x = phase_in c.taken-self-inside.result in
    let phase = c.taken-self-inside.ensures ∙ (ap (λ n. if not (eqb c.args.stamp n) then Old else In) (stamp_same c) ∙ phase_turned c.args.stamp c.args.self.now.stamp) in
    kernel_agrees s w d c.args.self.now c.catch_up.new.self _ (heap_of c.args.regions.now) c.args.is_new_owner x c.args.stamp found c.catch_up.ensures.part (ap (λ (p : PartState). record p { phase = x }) c.self.view_is) phase agrees heap stamped owner

pub returns-clause-kept : goal.returns-clause-kept
returns-clause-kept c = λ script n kept.
    let m = c.catch_up.new.self in
    let x = phase_in c.taken-self-inside.result in
    phase_kept m _ x m.stamp (ap (λ (p : PartState). record p { phase = x }) c.self.view_is)
    (λ count more. goes_taken _ x m.place count c.taken-self-inside.ensures (subst (λ y. GoesOn y m.place count) (phase_same c) more)) script n (c.catch_up.ensures.kept script n kept)
