-- The words of the line, piece by piece.
use Rattle.std.proofs.Common.{[], ◌∷◌, ◌++◌, ap, map, ◌∙◌}
use Rattle.std.specs.List.{flat_map}
use Rattle.dri_core.specs.Cores.{word_number}
use Rattle.dri_scene.specs.declared.words.Word.TheVariants as words
use Rattle.dri_scene.specs.Texts.{spaced, spelled}
use Rattle.dri_scene.proofs.Joins.{adds_same, joined, on_ok}
use Rattle.dri_world.specs.Courses.{core_of}
use Rattle.dri_lab_run.proofs.Lines.{put_end, put_more, put_values}
use Rattle.dri_lab_run.specs.EventLines.{item_number, lock_words, made_words}
use Rattle.dri_lab_run.specs.Spaces.{behind_spaces}
use Rattle.dri_lab_run.proofs.event_line.push_item_line.Goals as goal

pub returns : goal.returns
returns c = λ event told.
    let k = core_of c.args.world.now in
    let number = words.Number (item_number c.args.item.now) ∷ [] in
    let made = made_words event in
    let lock = lock_words (word_number k.word) k.queue in
    let named = adds_same c.in_ok-push_bytes.ensures c.name_of.ensures in
    let numbered = put_values number (adds_same c.in_ok-push_words.ensures.text (ap (λ n. flat_map spaced (words.Number n ∷ [])) c.number_of.ensures)) in
    let locked = adds_same c.in_ok-push_lock.ensures (ap (λ n. behind_spaces (lock_words n c.queue.result.now)) c.word.ensures ∙ ap (λ q. behind_spaces (lock_words (word_number k.word) q)) c.queue.ensures) in
    let all = put_more (map spelled number) (made ++ lock) numbered (put_more made lock (c.in_ok-push_made.ensures event told) locked) in
    on_ok c.end_line.result (λ end. joined named (put_end (map spelled number ++ (made ++ lock)) all end)) c.end_line.ensures
