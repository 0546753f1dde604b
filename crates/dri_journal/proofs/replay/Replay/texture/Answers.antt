use Rattle.std.proofs.Common.{◌≡◌, ◌∙◌, ap, sym, subst, Option, Bor}
use Rattle.std.specs.Prelude.{◌↔◌, IsSome}
use Rattle.std.specs.Option.{option_copied}
use Rattle.dri_base.specs.Scenes.{textures_of}
use Rattle.dri_base.specs.Texels.{texture_bound}
use Rattle.dri_base.specs.declared.scene.ClientScript.{ClientScript}
use Rattle.dri_base.specs.declared.state.State.{State}
use Rattle.dri_base.specs.declared.texture.Texture.{Texture}
use Rattle.dri_core.specs.Privates.{Private, textured_with}
use Rattle.dri_journal.specs.Replays.{world_of}
use Rattle.dri_journal.proofs.OwnDrawing.{found_where_used}
use Rattle.dri_journal.proofs.replay.Replay.texture.Goals as goal

pub returns-clause-found : goal.returns-clause-found
returns-clause-found c =
    let v = c.args.self.now in let n = c.args.client in
    let state : c.part.result.now.state ≡ ((world_of v).client n).state = ap (λ (p : Private). p.state) c.part.ensures.agrees in
    c.texture_bound.ensures.found ∙ (λ i. texture_bound ((c.as_slice.ensures ∙ ap (λ (p : ClientScript). p.textures) c.script.ensures.same) i) ((c.texture_used-used.ensures ∙ ap textured_with state) i))

pub returns-clause-needed : goal.returns-clause-needed
returns-clause-needed c =
    let v = c.args.self.now in let n = c.args.client in let part = c.part.result.now in
    let state : part.state ≡ ((world_of v).client n).state = ap (λ (p : Private). p.state) c.part.ensures.agrees in
    let found : option_copied c.texture_bound.result ≡ texture_bound (textures_of v.scene n) (textured_with part.state) =
    c.texture_bound.ensures.found ∙ (λ i. texture_bound ((c.as_slice.ensures ∙ ap (λ (p : ClientScript). p.textures) c.script.ensures.same) i) (c.texture_used-used.ensures i)) in
    subst (λ (s : State). IsSome c.texture_bound.result ↔ IsSome (textured_with s)) state (found_where_used (textures_of v.scene n) part.state.tex_mode part.state.bound c.texture_bound.result c.part.ensures.kept.bound found)
