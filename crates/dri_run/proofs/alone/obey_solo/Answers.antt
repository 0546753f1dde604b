-- The picture of the frame was written.
use Rattle.std.proofs.Common.{◌≡◌, ◌∙◌, sym, inl, inr}
use Rattle.dri_run.proofs.Sayings.{says_ran, written_decides}
use Rattle.dri_run.specs.FrameAlone.{GivesImage, HasNoImage, IsImageRead, frame_answer_to}
use Rattle.dri_run.proofs.alone.obey_solo.Goals as goal

pub returns-in-Ok-clause-says : goal.returns-in-Ok-clause-says
returns-in-Ok-clause-says g c =
    let read = c.in-Ok.ensures.reads in
    (read.0, read.1, says_ran (IsImageRead c.args.client c.args.frame) (HasNoImage c.args.client c.args.frame) GivesImage c.write_image.result c.in-Ok.image read.0 _ _ _ tt read.2 c.write_image.ensures.ran)

pub returns-in-Ok-clause-decided : goal.returns-in-Ok-clause-decided
returns-in-Ok-clause-decided g c = λ bytes left calm still quiet.
    let decided = c.in-Ok.ensures.decided bytes left (inr calm) in
    written_decides GivesImage (λ status. status ≡ frame_answer_to c.args.client c.args.frame bytes) c.write_image.result c.in-Ok.image _ _ (sym decided.1) c.write_image.ensures.ran still quiet

pub returns-in-Ok-clause-taken : goal.returns-in-Ok-clause-taken
returns-in-Ok-clause-taken g c = λ bytes left sure taken.
    let decided = c.in-Ok.ensures.decided bytes left sure in
    inl (c.write_image.ensures.taken (taken c.in-Ok.image decided.0) ∙ sym decided.1)
