-- The picture has the window's sides.
use Rattle.dri_run.proofs.Framed.{as_many, sides}
use Rattle.dri_run.proofs.alone.image_of.Goals as goal

pub picture_bytes-requires-clause-width : goal.picture_bytes-requires-clause-width
picture_bytes-requires-clause-width c = (sides c.args.scene.now c.args.client c.args.frame c.in-Ok.picture.width c.in-Ok.picture.height c.in-Ok.picture.pixels c.requires c.in-Ok.ensures.shot).0

pub picture_bytes-requires-clause-height : goal.picture_bytes-requires-clause-height
picture_bytes-requires-clause-height c = (sides c.args.scene.now c.args.client c.args.frame c.in-Ok.picture.width c.in-Ok.picture.height c.in-Ok.picture.pixels c.requires c.in-Ok.ensures.shot).1

pub picture_bytes-requires-clause-pixels : goal.picture_bytes-requires-clause-pixels
picture_bytes-requires-clause-pixels c = as_many c.in-Ok.picture.width c.in-Ok.picture.height c.in-Ok.picture.pixels _ c.in-Ok.ensures.shot.drawn
