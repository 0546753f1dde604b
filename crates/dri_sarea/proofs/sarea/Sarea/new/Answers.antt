use Rattle.std.proofs.Common.{◌<◌, ◌≤◌, ℕ, List, length, sym, subst, ◌∙◌, ap}
use Rattle.std.specs.Prelude.{All}
use Rattle.dri_texheap.specs.RegionStates.{heap_of}
use Rattle.dri_sarea.specs.declared.drawable.Drawable.{Drawable}
use Rattle.dri_sarea.specs.Areas.{Area, all_entries}
use Rattle.dri_sarea.proofs.Making.{made}
use Rattle.dri_sarea.proofs.sarea.Sarea.new.Goals as goal

pub invariant_of-result : goal.invariant_of-result
invariant_of-result c =
    let a : Area = record { word = c.args.word; drawables = c.in_ok-drawables.drawables.items; width = c.args.width; height = c.args.height; owner = c.args.owner; age = c.args.age; region_count = c.count-region_count.result; region_size = c.args.region_size; regions = c.in_ok-regions.regions.items } in
    let same = c.in_ok-drawables.ensures.same in
    let count = c.count-region_count.ensures.count in
    let heap = c.count-region_count.ensures.heap in
    made a (heap_of c.args.regions.now) c.ranges.word.fits
    (ap (λ (ds : List Drawable). length ds) same ∙ c.requires.drawables) (subst (λ ds. All (λ d. d.flags ≤ 1) ds) (sym same) c.requires.flags) c.in_ok-drawables.ensures.small
    c.requires.wide c.requires.high c.requires.owner c.ranges.age.fits (subst (λ n. 0 < n) (sym count) heap.some) (subst (λ n. n ≤ 64) (sym count) heap.most) c.requires.sized c.ranges.region_size.fits
    (c.in_ok-regions.ensures.entries ∙ ap (λ (n : ℕ). all_entries n (heap_of c.args.regions.now)) (sym count)) c.in_ok-regions.ensures.small

pub returns-clause-area : goal.returns-clause-area
returns-clause-area c =
    let a : Area = record { word = c.args.word; drawables = c.in_ok-drawables.drawables.items; width = c.args.width; height = c.args.height; owner = c.args.owner; age = c.args.age; region_count = c.count-region_count.result; region_size = c.args.region_size; regions = c.in_ok-regions.regions.items } in
    let same = c.in_ok-drawables.ensures.same in
    let count = c.count-region_count.ensures.count in
    let heap = c.count-region_count.ensures.heap in
    made a (heap_of c.args.regions.now) c.ranges.word.fits
    (ap (λ (ds : List Drawable). length ds) same ∙ c.requires.drawables) (subst (λ ds. All (λ d. d.flags ≤ 1) ds) (sym same) c.requires.flags) c.in_ok-drawables.ensures.small
    c.requires.wide c.requires.high c.requires.owner c.ranges.age.fits (subst (λ n. 0 < n) (sym count) heap.some) (subst (λ n. n ≤ 64) (sym count) heap.most) c.requires.sized c.ranges.region_size.fits
    (c.in_ok-regions.ensures.entries ∙ ap (λ (n : ℕ). all_entries n (heap_of c.args.regions.now)) (sym count)) c.in_ok-regions.ensures.small
