-- Each pixel is the frame's, drawn alone.
use Rattle.std.proofs.Common.{◌≡◌, Some, rules}
use Rattle.dri_core.specs.Solo.{frame}
use Rattle.dri_meaning.proofs.SoloPixels.{all_drawn}
use Rattle.dri_meaning.proofs.picture.solo_picture.Goals as goal

pub returns-clause-pixels : goal.returns-clause-pixels
returns-clause-pixels c =
    let found : frame c.args.script.now.commands c.args.frame ≡ Some (c.in-Some.frame.clear, c.in-Some.frame.swap) = search rules in
    all_drawn c.args.script.now c.args.frame c.in-Some.frame.clear c.in-Some.frame.swap c.args.width c.args.height c.in_ok-pixels.pixels found c.in_ok-pixels.ensures
