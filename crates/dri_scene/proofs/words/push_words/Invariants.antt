-- The words so far.
use Rattle.std.proofs.Common.{All, take}
use Rattle.std.specs.List.{flat_map}
use Rattle.dri_scene.specs.Stored.{IsStoredWord}
use Rattle.dri_scene.specs.Texts.{Adds, spaced}
use Rattle.dri_scene.proofs.words.push_words.Given as goal

abbrev pub invariant-loop-word : goal.invariant-loop-word
invariant-loop-word l = (Adds l.fn.text.items (flat_map spaced (take l.word-index l.words)) l.text.items) × All IsStoredWord (take l.word-index l.words)
