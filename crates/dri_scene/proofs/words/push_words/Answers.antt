-- One more.
use Rattle.std.proofs.Common.{rules}
use Rattle.std.proofs.lemmas.List.Elements.{All-more}
use Rattle.dri_scene.specs.Stored.{IsStoredWord}
use Rattle.dri_scene.specs.Texts.{spaced}
use Rattle.dri_scene.proofs.Joins.{next_piece}
use Rattle.dri_scene.proofs.words.push_words.Goals as goal

pub loop-word-preserved : goal.loop-word-preserved
loop-word-preserved c =
    let xs = c.args.words.now in
    let i = c.loop-word.word-index in
    (next_piece spaced xs i _ (search rules) c.loop-word.invariant.0 c.in_ok-push_spelled.ensures.text, All-more IsStoredWord xs i _ (search rules) c.loop-word.invariant.1 c.in_ok-push_spelled.ensures.stored)
