use Rattle.std.proofs.Common.{ℕ, sym, ◌∙◌, ap}
use Rattle.dri_sarea.specs.Areas.{Area}
use Rattle.dri_sarea.specs.Images.{number_at, first_bad}
use Rattle.dri_sarea.proofs.Parts.{the_entries, all_good}
use Rattle.dri_sarea.proofs.Making.{read_area, one_area}
use Rattle.dri_sarea.proofs.sarea.read.Goals as goal

pub read_entries-requires-clause-good : goal.read_entries-requires-clause-good
read_entries-requires-clause-good c =
    let b = c.args.bytes.now in
    ap (λ (n : ℕ). first_bad b 2216 (the_entries n)) c.number_at-region_count.ensures.number ∙ (all_good b (number_at b 2208 4) (λ i. (c.type_inv.bytes i).fits) c.requires.good).entries

pub invariant_of-result : goal.invariant_of-result
invariant_of-result c =
    let a : Area = record { word = c.number_at.result; drawables = c.in_ok-drawables.drawables.items; width = c.number_at-2.result; height = c.number_at-3.result; owner = c.number_at-4.result; age = c.number_at-5.result; region_count = c.number_at-region_count.result; region_size = c.number_at-6.result; regions = c.in_ok-regions.regions.items } in
    (read_area c.args.bytes.now a (λ i. (c.type_inv.bytes i).fits) c.requires.whole c.requires.good c.number_at.ensures.number c.number_at-2.ensures.number c.number_at-3.ensures.number c.number_at-4.ensures.number c.number_at-5.ensures.number c.number_at-region_count.ensures.number c.number_at-6.ensures.number c.in_ok-drawables.ensures.values c.in_ok-regions.ensures.values c.in_ok-drawables.ensures.size c.in_ok-regions.ensures.size c.in_ok-regions.ensures.unused).0

pub returns-clause-image : goal.returns-clause-image
returns-clause-image c =
    let a : Area = record { word = c.number_at.result; drawables = c.in_ok-drawables.drawables.items; width = c.number_at-2.result; height = c.number_at-3.result; owner = c.number_at-4.result; age = c.number_at-5.result; region_count = c.number_at-region_count.result; region_size = c.number_at-6.result; regions = c.in_ok-regions.regions.items } in
    (read_area c.args.bytes.now a (λ i. (c.type_inv.bytes i).fits) c.requires.whole c.requires.good c.number_at.ensures.number c.number_at-2.ensures.number c.number_at-3.ensures.number c.number_at-4.ensures.number c.number_at-5.ensures.number c.number_at-region_count.ensures.number c.number_at-6.ensures.number c.in_ok-drawables.ensures.values c.in_ok-regions.ensures.values c.in_ok-drawables.ensures.size c.in_ok-regions.ensures.size c.in_ok-regions.ensures.unused).1

pub returns-clause-area : goal.returns-clause-area
returns-clause-area c =
    let a : Area = record { word = c.number_at.result; drawables = c.in_ok-drawables.drawables.items; width = c.number_at-2.result; height = c.number_at-3.result; owner = c.number_at-4.result; age = c.number_at-5.result; region_count = c.number_at-region_count.result; region_size = c.number_at-6.result; regions = c.in_ok-regions.regions.items } in
    (read_area c.args.bytes.now a (λ i. (c.type_inv.bytes i).fits) c.requires.whole c.requires.good c.number_at.ensures.number c.number_at-2.ensures.number c.number_at-3.ensures.number c.number_at-4.ensures.number c.number_at-5.ensures.number c.number_at-region_count.ensures.number c.number_at-6.ensures.number c.in_ok-drawables.ensures.values c.in_ok-regions.ensures.values c.in_ok-drawables.ensures.size c.in_ok-regions.ensures.size c.in_ok-regions.ensures.unused).0

pub returns-clause-only : goal.returns-clause-only
returns-clause-only c =
    let a : Area = record { word = c.number_at.result; drawables = c.in_ok-drawables.drawables.items; width = c.number_at-2.result; height = c.number_at-3.result; owner = c.number_at-4.result; age = c.number_at-5.result; region_count = c.number_at-region_count.result; region_size = c.number_at-6.result; regions = c.in_ok-regions.regions.items } in
    let r = read_area c.args.bytes.now a (λ i. (c.type_inv.bytes i).fits) c.requires.whole c.requires.good c.number_at.ensures.number c.number_at-2.ensures.number c.number_at-3.ensures.number c.number_at-4.ensures.number c.number_at-5.ensures.number c.number_at-region_count.ensures.number c.number_at-6.ensures.number c.in_ok-drawables.ensures.values c.in_ok-regions.ensures.values c.in_ok-drawables.ensures.size c.in_ok-regions.ensures.size c.in_ok-regions.ensures.unused in
    λ other h e. one_area other a h r.0 (sym e ∙ r.1)
