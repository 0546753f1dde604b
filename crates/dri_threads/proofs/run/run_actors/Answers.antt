use Rattle.std.proofs.Common.{rules, subst, sym, length}
use Rattle.dri_base.specs.declared.scene.Scene.{Scene}
use Rattle.dri_hwlock.specs.Tokens.{id_of, passes_in, AreNew}
use Rattle.dri_threads.specs.Rounds.{AreBelow}
use Rattle.dri_threads.proofs.Rounds.{all_below}
use Rattle.dri_threads.proofs.run.run_actors.Goals as goal

pub run_beside-requires-clause-new : goal.run_beside-requires-clause-new
run_beside-requires-clause-new g c κs b =
    let fresh : AreNew (id_of c.args.hw.now) c.deref.result.now 1 (passes_in c.args.passes) = subst (λ (s : Scene). AreNew (id_of c.args.hw.now) s 1 (passes_in c.args.passes)) (sym c.deref.ensures) c.requires.passes in
    rw (c.new-stage.ensures.hw, c.new-stage.ensures.scene) fresh

pub run_beside-requires-clause-clients : goal.run_beside-requires-clause-clients
run_beside-requires-clause-clients g c =
    let below : AreBelow c.deref.result.now (length (passes_in c.args.passes)) c.args.clients = subst (λ (s : Scene). AreBelow s (length (passes_in c.args.passes)) c.args.clients) (sym c.deref.ensures) (all_below _ _ _ c.requires.clients c.requires.enough) in
    search rules
