-- The ledger of the blank.
use Rattle.dri_driver.proofs.client.Client.new.Given as goal

abbrev pub ghosts-no_clips : goal.ghosts-no_clips
ghosts-no_clips a = record { name = a.blank.name; parts = a.blank.parts }
