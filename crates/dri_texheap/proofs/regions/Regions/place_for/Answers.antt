use Rattle.dri_texheap.proofs.regions.Regions.place_for.Goals as goal

pub returns-clause-place : goal.returns-clause-place
returns-clause-place c = rw (← c.self.view_is) c.choose-first.ensures.chosen.place
