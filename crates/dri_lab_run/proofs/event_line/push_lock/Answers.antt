-- The word, and the queue.
use Rattle.std.proofs.Common.{[], ◌∷◌, ◌++◌, codes, map}
use Rattle.std.specs.Fmt.{decimal}
use Rattle.dri_scene.proofs.Joins.{on_ok}
use Rattle.dri_lab_run.proofs.Lines.{put_more, put_word}
use Rattle.dri_lab_run.specs.EventLines.{word_words}
use Rattle.dri_lab_run.proofs.event_line.push_lock.Goals as goal

pub returns : goal.returns
returns c =
    let word = word_words c.args.number in
    let queue = codes "queue" ∷ map decimal c.args.queue.now in
    on_ok c.push_numbered.result (λ put. put_more (codes "word" ∷ []) (word ++ queue) (put_word (codes "word") c.in_ok-push_word.ensures) (put_more word queue c.in_ok-push_lock_word.ensures put)) c.push_numbered.ensures
