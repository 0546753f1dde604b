-- What is answered names an entry, or is a picture of a run: then each frame that stood is shown, and what lies outside a run's clips stays.
use Rattle.dri_base.proofs.RangeLemmas.{well_formed}
use Rattle.dri_card16.proofs.Followed16.{names_bad, never_bad, picture_then}
use Rattle.dri_card16.proofs.Good16.{good16}
use Rattle.dri_card16.proofs.Planes.{confined}
use Rattle.dri_card16.proofs.Shown.{stood_is_shown}
use Rattle.dri_card16.specs.Sixteen.{rule16}
use Rattle.dri_card16.proofs.replay.replay16.Goals as goal

pub returns-clause-stood : goal.returns-clause-stood
returns-clause-stood c = picture_then c.args.scene.now c.args.entries.now _ c.replayed.result c.replayed.ensures (λ run. stood_is_shown rule16 c.args.scene.now c.args.entries.now good16 (well_formed c.args.scene.now c.requires.scene) run)

pub returns-clause-confined : goal.returns-clause-confined
returns-clause-confined c = picture_then c.args.scene.now c.args.entries.now _ c.replayed.result c.replayed.ensures (λ run. confined rule16 c.args.scene.now c.args.entries.now good16)

pub returns-clause-refuses : goal.returns-clause-refuses
returns-clause-refuses c entry is = names_bad c.args.scene.now c.args.entries.now c.replayed.result entry c.replayed.ensures is

pub returns-clause-takes : goal.returns-clause-takes
returns-clause-takes c run entry is = never_bad c.args.scene.now c.args.entries.now c.replayed.result entry c.replayed.ensures run is
