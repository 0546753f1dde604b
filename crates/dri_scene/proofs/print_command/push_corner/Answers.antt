-- The words of the corner, before those behind it.
use Rattle.std.proofs.Common.{◌<◌, [], ◌∷◌, arith, rules, w32}
use Rattle.std.proofs.lemmas.Int.{to_z-of_z}
use Rattle.std.proofs.lemmas.List.Elements.{All-get_or}
use mir.Val.{SFits, of_z, to_z}
use Rattle.dri_scene.specs.declared.words.Word.TheVariants as words
use Rattle.dri_scene.specs.Stored.{IsStoredWord}
use Rattle.dri_words.specs.Lines.{words_bytes}
use Rattle.dri_scene.proofs.Joins.{behind, on_ok, put_before}
use Rattle.dri_scene.proofs.print_command.push_corner.Goals as goal

pub returns : goal.returns
returns c =
    let v = c.args.vertex.now in
    let behind_place = words.Small v.z ∷ words.ColourAlpha v.colour ∷ words.Small v.s ∷ words.Small v.t ∷ [] in
    let put = words.Signed v.x ∷ words.Signed v.y ∷ behind_place in
    let held = words.Signed (to_z w32 (of_z w32 v.x)) ∷ words.Signed (to_z w32 (of_z w32 v.y)) ∷ behind_place in
    let none = words.Small 0 in
    let x_fits : SFits w32 v.x = search rules in
    let y_fits : SFits w32 v.y = search rules in
    let text = simp (to_z-of_z, x_fits, y_fits) at c.push_words.ensures.text in
    let second : 2 < 6 = omega arith in
    let third : 3 < 6 = omega arith in
    let fourth : 4 < 6 = omega arith in
    let fifth : 5 < 6 = omega arith in
    record {
      text = on_ok c.push_words.result (λ e. λ more. put_before put more e (behind c.push_words.new.text.items (words_bytes more))) text;
      stored = on_ok c.push_words.result (λ all. record { z = All-get_or IsStoredWord held 2 none second all; colour = All-get_or IsStoredWord held 3 none third all; s = All-get_or IsStoredWord held 4 none fourth all; t = All-get_or IsStoredWord held 5 none fifth all }) c.push_words.ensures.stored;
    }
