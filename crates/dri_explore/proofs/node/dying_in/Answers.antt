use Rattle.std.proofs.Common.{◌∙◌, ap, map, subst, sym, take, ◌++◌, ◌∷◌, []}
use Rattle.std.specs.Prelude.{Contains}
use Rattle.std.proofs.lemmas.List.{map-append}
use Rattle.dri_base.specs.Ranges.{client_numbers}
use Rattle.dri_base.specs.declared.scene.ClientScript.{ClientScript}
use Rattle.dri_base.specs.declared.scene.Scene.{Scene}
use Rattle.dri_explore.proofs.Steps.{take_next}
use Rattle.dri_explore.proofs.Walking.{number_there}
use Rattle.dri_world.specs.Courses.{core_of}
use Rattle.dri_explore.proofs.node.dying_in.Goals as goal

pub is_dying-requires : goal.is_dying-requires
is_dying-requires c = subst (λ (s : Scene). Contains (client_numbers s.clients) c.get.result.now.number) c.requires (number_there c.args.scene.now.clients c.loop-i.i c.get.result.now c.get.ensures)

pub loop-i-preserved : goal.loop-i-preserved
loop-i-preserved c = let f = (core_of c.args.world.now).dying in
    let ps = c.args.scene.now.clients in
    let p = c.get.result.now in
    let front = client_numbers (take c.loop-i.i ps) in
    c.in_ok-push.ensures.ok ∙ ap (λ t. t ++ c.is_dying.result ∷ []) c.loop-i.invariant ∙ ap (λ b. map f front ++ b ∷ []) c.is_dying.ensures ∙ sym (map-append f front (p.number ∷ []))
    ∙ ap (map f) (sym (map-append (λ (q : ClientScript). q.number) (take c.loop-i.i ps) (p ∷ []))) ∙ sym (ap (λ qs. map f (client_numbers qs)) (take_next ps c.loop-i.i p c.get.ensures))
