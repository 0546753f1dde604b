-- One more.
use Rattle.std.proofs.Common.{rules, subst}
use Rattle.std.proofs.lemmas.List.Elements.{All-more}
use Rattle.dri_scene.specs.Stored.{IsStoredTexture}
use Rattle.dri_scene.specs.Texts.{Adds, texture_words}
use Rattle.dri_words.specs.Lines.{line_bytes}
use Rattle.dri_scene.proofs.Joins.{next_piece}
use Rattle.dri_scene.proofs.print.push_textures.Goals as goal

pub loop-texture-preserved : goal.loop-texture-preserved
loop-texture-preserved c =
    let xs = c.as_slice-texture-items.result.now in
    let i = c.loop-texture.texture-index in
    (next_piece (λ t. line_bytes (texture_words t)) xs i _ (search rules) c.loop-texture.invariant.0 (subst (λ x. Adds c.loop-texture.text.items (line_bytes (texture_words x)) c.push_texture.new.text.items) c.texture-item.is c.in_ok-push_texture.ensures.text), All-more IsStoredTexture xs i _ (search rules) c.loop-texture.invariant.1 (subst IsStoredTexture c.texture-item.is c.in_ok-push_texture.ensures.stored))
