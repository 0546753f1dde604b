use Rattle.std.proofs.Common.{◌≡◌, ◌∙◌, ◌+◌, ap, refl, rules}
use Rattle.dri_base.specs.declared.journal.Entry.TheVariants.{Gone}
use Rattle.dri_core.specs.Phases.{Dead}
use Rattle.dri_shared.specs.Sides.{value_at}
use Rattle.dri_shared.specs.States.{world_of}
use Rattle.dri_threads.specs.declared.session.Exit.TheVariants as Exit_is
use Rattle.dri_threads.proofs.Made.{left_at_rest, makes_in, left_kept, made_added, one_grows, one_works, phase_rests, same_run}
use Rattle.dri_threads.proofs.Working.{grows_one, works_made}
use Rattle.dri_threads.proofs.session.go.Goals as goal

pub returns-in-Leave-clause-grows : goal.returns-in-Leave-clause-grows
returns-in-Leave-clause-grows c =
    let made = makes_in _ _ _ _ _ _ _ c.leave.ensures.made c.client_side-side.ensures.value (search rules) in
    grows_one _ _ _ _ made.added (ap (λ n. n + 1) c.requires.seated.numbered)

pub returns-in-Leave-clause-works : goal.returns-in-Leave-clause-works
returns-in-Leave-clause-works c = works_made _ _ _ _ _ _ c.requires.seated (makes_in _ _ _ _ _ _ _ c.leave.ensures.made c.client_side-side.ensures.value (search rules)) c.requires.seated.numbered

pub returns-in-Leave-clause-rests : goal.returns-in-Leave-clause-rests
returns-in-Leave-clause-rests c =
    let leaves : c.args.exit ≡ Exit_is.Leave = search rules in
    left_at_rest c.args.client.now c.leave.new.self c.leave.ensures.phase (c.requires.leaves leaves)

pub returns-in-Leave-clause-left : goal.returns-in-Leave-clause-left
returns-in-Leave-clause-left c = λ _.
    let left : (world_of (value_at c.leave.new.side)).left ≡ c.args.number + 1 = c.leave.ensures.left ∙ ap (λ n. n + 1) c.requires.seated.numbered in
    search rules

pub returns-in-Die-clause-grows : goal.returns-in-Die-clause-grows
returns-in-Die-clause-grows c = one_grows c.args.number _ _ _ (same_run _) c.bury.result (Gone c.args.number) refl (made_added _ _ _ _ _ _ c.bury.ensures.made) (left_kept _ _ _ _ _ c.bury.ensures.err)

pub returns-in-Die-clause-works : goal.returns-in-Die-clause-works
returns-in-Die-clause-works c = one_works c.args.number _ _ _ (same_run _) c.bury.result _ _ (Gone c.args.number) refl c.requires.seated c.bury.ensures.made

pub returns-in-Die-clause-rests : goal.returns-in-Die-clause-rests
returns-in-Die-clause-rests c = phase_rests c.bury.result _ Dead refl c.bury.ensures.phase
