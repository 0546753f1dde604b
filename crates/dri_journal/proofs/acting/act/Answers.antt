-- The steps of a part are those of the entry.
use Rattle.std.proofs.Common.{◌≡◌, ◌∙◌, ap, sym}
use Rattle.dri_base.specs.declared.journal.Entry.TheVariants.{Place}
use Rattle.dri_core.specs.Effects.{run_at}
use Rattle.dri_model.specs.Heaps.{Spot}
use Rattle.dri_journal.proofs.acting.act.Goals as goal

pub returns-in-Kernel-clause-part : goal.returns-in-Kernel-clause-part
returns-in-Kernel-clause-part c = rw c.in-Kernel.is (λ s w own sized agrees legal stamp owner intact current regions. c.kernel.ensures.part s w c.in-Kernel.client c.in-Kernel.found agrees regions.ages stamp owner)

pub returns-in-Kernel-clause-kept : goal.returns-in-Kernel-clause-kept
returns-in-Kernel-clause-kept c = c.kernel.ensures.kept c.args.script.now c.args.regions.now.count c.requires.kept

pub returns-in-Leave-clause-part : goal.returns-in-Leave-clause-part
returns-in-Leave-clause-part c = rw c.in-Leave.is (λ s w own sized agrees legal stamp owner intact current regions. c.leave.ensures.part s w c.in-Leave.client own agrees)

pub returns-in-Leave-clause-kept : goal.returns-in-Leave-clause-kept
returns-in-Leave-clause-kept c = c.leave.ensures.kept c.args.regions.now.count c.requires.kept

pub returns-in-Place-clause-part : goal.returns-in-Place-clause-part
returns-in-Place-clause-part c =
    let may = rw c.in-Place.is at c.requires.may in
    let run : c.own_spot-spot.result.run ≡ run_at c.in-Place.first c.in-Place.count = ap (λ (z : Spot). z.run) c.own_spot-spot.ensures ∙ may.spot in
    let same : c.args.entry.now ≡ Place c.in-Place.client c.in-Place.texture c.own_spot-spot.result.run.first c.own_spot-spot.result.run.count =
    c.in-Place.is ∙ (λ i. Place c.in-Place.client c.in-Place.texture (sym run i).first (sym run i).count) in
    rw same (λ s w own sized agrees legal stamp owner intact current regions. c.place_texture.ensures.part s w c.in-Place.client own sized agrees intact (current legal.0.0) legal regions)

pub returns-in-Run-clause-part : goal.returns-in-Run-clause-part
returns-in-Run-clause-part c = let may = rw c.in-Run.is at c.requires.may in rw (c.in-Run.is, may.0) (λ s w own sized agrees legal stamp owner intact current regions. c.run.ensures.part s w c.in-Run.client own agrees regions.ages)

pub returns-in-Run-clause-kept : goal.returns-in-Run-clause-kept
returns-in-Run-clause-kept c = c.run.ensures.kept c.args.regions.now.count c.requires.kept

pub returns-in-Gone-clause-part : goal.returns-in-Gone-clause-part
returns-in-Gone-clause-part c = rw c.in-Gone.is (λ s w own sized agrees legal stamp owner intact current regions. c.gone.ensures.part s w c.in-Gone.client agrees)

pub returns-in-Change-clause-part : goal.returns-in-Change-clause-part
returns-in-Change-clause-part c = rw c.in-Change.is (λ s w own sized agrees legal stamp owner intact current regions. agrees)
