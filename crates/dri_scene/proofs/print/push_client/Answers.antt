-- The block's lines, part by part.
use Rattle.std.proofs.Common.{[], ◌∷◌, ◌++◌, map, codes, decimal, ap, sym, ◌∙◌}
use Rattle.std.specs.List.{flat_map}
use Rattle.dri_scene.specs.Texts.{command_words, end_words, texture_words}
use Rattle.dri_words.specs.Lines.{line_bytes}
use Rattle.dri_scene.proofs.Joins.{added_none, adds_same, joined, mapped_lines, on_ok}
use Rattle.dri_scene.proofs.print.push_client.Goals as goal

pub returns : goal.returns
returns c = record {
  text = on_ok c.push_bytes.result (λ e.
      let client = c.args.client.now in
      let all = joined c.in_ok-push_twice_numbered.ensures (joined c.in_ok-push_textures.ensures.text (joined c.in_ok-push_commands.ensures.text (joined e (added_none _)))) in
      adds_same all (ap (λ t. line_bytes (codes "client" ∷ decimal client.number ∷ decimal client.window ∷ []) ++ t) (sym (mapped_lines texture_words client.textures (map command_words client.commands ++ (end_words ∷ [])) ∙ ap (λ t. flat_map (λ x. line_bytes (texture_words x)) client.textures ++ t) (mapped_lines command_words client.commands (end_words ∷ [])))))) c.push_bytes.ensures;
  stored = on_ok c.push_bytes.result (λ e. record { textures = c.in_ok-push_textures.ensures.stored; commands = c.in_ok-push_commands.ensures.stored }) c.push_bytes.ensures;
}
