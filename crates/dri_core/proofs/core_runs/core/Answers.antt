use Rattle.dri_core.proofs.Cores.{journal_after}
use Rattle.dri_core.proofs.RunLaws.{hold_run, confined_events, own_events, solo_left_events, word_clean, word_current, word_images}
use Rattle.dri_core.proofs.core_runs.core.Goals as goal

pub returns-clause-journal : goal.returns-clause-journal
returns-clause-journal c = hold_run

pub returns-clause-world : goal.returns-clause-world
returns-clause-world c = journal_after

pub returns-clause-current : goal.returns-clause-current
returns-clause-current c = word_current

pub returns-clause-clean : goal.returns-clause-clean
returns-clause-clean c = word_clean

pub returns-clause-images : goal.returns-clause-images
returns-clause-images c = word_images

pub returns-clause-confined : goal.returns-clause-confined
returns-clause-confined c = confined_events

pub returns-clause-own : goal.returns-clause-own
returns-clause-own c = own_events

pub returns-clause-solo : goal.returns-clause-solo
returns-clause-solo c = solo_left_events
