-- One byte more.
use Rattle.std.proofs.Common.{◌∷◌, ◌<◌, [], append_assoc, sym, ◌∙◌, rules, take}
use Rattle.std.proofs.lemmas.List.Elements.{All-more}
use Rattle.std.specs.List.{flat_map}
use Rattle.dri_scene.specs.Texts.{hex}
use Rattle.dri_scene.proofs.Joins.{behind, joined, next_piece}
use Rattle.dri_scene.proofs.words.push_image.Goals as goal

pub loop-byte-preserved : goal.loop-byte-preserved
loop-byte-preserved c =
    let bytes = c.as_slice-byte-items.result.now in
    let i = c.loop-byte.byte-index in
    (joined (behind c.args.text.now.items (32 ∷ [])) (next_piece hex bytes i 0 (search rules) (record { is = c.loop-byte.invariant.0.is ∙ sym (append_assoc c.args.text.now.items (32 ∷ []) (flat_map hex (take i bytes))) }) c.in_ok-push_hex.ensures), All-more (λ b. b < 256) bytes i 0 (search rules) c.loop-byte.invariant.1 (search rules))
