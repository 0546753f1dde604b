use Rattle.dri_texheap.proofs.regions.Regions.link.Goals as goal

pub returns : goal.returns
returns c = rw (← c.self.view_is) c.link.ensures.link
