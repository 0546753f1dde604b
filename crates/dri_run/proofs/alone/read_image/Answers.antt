-- The frame of the scene is drawn.
use Rattle.dri_run.proofs.Drawn.{drawn_decided, drawn_read, no_image, undrawn}
use Rattle.dri_run.proofs.alone.read_image.Goals as goal

pub returns-in-Ok-clause-reads : goal.returns-in-Ok-clause-reads
returns-in-Ok-clause-reads g c =
    let read = c.in-Ok.ensures.reads in
    (read.0, read.1, drawn_read c.args.client c.args.frame c.image_of.result c.in-Ok.scene read.0 _ read.2 c.image_of.ensures)

pub returns-in-Ok-clause-decided : goal.returns-in-Ok-clause-decided
returns-in-Ok-clause-decided g c = λ bytes left sure.
    drawn_decided c.args.client c.args.frame c.image_of.result c.in-Ok.scene bytes c.in-Ok.ensures.reads.2.in_range (c.in-Ok.ensures.decided bytes left sure) c.image_of.ensures

pub returns-in-Err-clause-reads : goal.returns-in-Err-clause-reads
returns-in-Err-clause-reads g c =
    let read = c.in-Err.ensures.reads in
    (read.0, read.1, no_image c.args.client c.args.frame c.in-Err.status read.0 _ read.2)

pub returns-in-Err-clause-decided : goal.returns-in-Err-clause-decided
returns-in-Err-clause-decided g c = λ bytes left sure.
    let read = c.in-Err.ensures.reads in
    undrawn c.args.client c.args.frame c.in-Err.status read.0 bytes _ read.2 (c.in-Err.ensures.decided bytes left sure)
