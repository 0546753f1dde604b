use Rattle.dri_base.proofs.RangeLemmas.{well_formed}
use Rattle.dri_meaning.proofs.RanFrames.{frames_counted}
use Rattle.dri_meaning.proofs.StoodFrames.{stood_counted}
use Rattle.dri_meaning.proofs.Wholes.{whole_is, is_whole_at}
use Rattle.dri_meaning.proofs.tallies.counted.Goals as goal

pub returns-clause-frames : goal.returns-clause-frames
returns-clause-frames c = frames_counted

pub returns-clause-stood : goal.returns-clause-stood
returns-clause-stood c = stood_counted

pub returns-clause-whole : goal.returns-clause-whole
returns-clause-whole c s journal good = whole_is s journal (well_formed s good)

pub returns-clause-not_whole : goal.returns-clause-not_whole
returns-clause-not_whole c = is_whole_at
