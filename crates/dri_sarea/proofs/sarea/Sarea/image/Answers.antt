use Rattle.std.proofs.Common.{ℕ, List, [], ◌∷◌, ◌++◌, ◌∙◌, ap}
use Rattle.dri_sarea.specs.declared.layout.Field.{Field}
use Rattle.dri_sarea.specs.Areas.{Area}
use Rattle.dri_sarea.specs.Images.{written, area_bytes, are_held}
use Rattle.dri_sarea.proofs.Imaging.{drawable_held, entry_held, each_held, drawable_part, entry_part, image_is, tens}
use Rattle.dri_sarea.proofs.sarea.Sarea.image.Goals as goal

pub put_drawables-requires : goal.put_drawables-requires
put_drawables-requires c =
    let a : Area = record { word = c.self.inside.word; drawables = c.self.inside.drawables.items; width = c.self.inside.width; height = c.self.inside.height; owner = c.self.inside.owner; age = c.self.inside.age; region_count = c.self.inside.region_count; region_size = c.self.inside.region_size; regions = c.self.inside.regions.items } in
    drawable_held a c.as_slice.result.now c.self.invariant c.as_slice.ensures.value

pub put_fields-requires-2 : goal.put_fields-requires-2
put_fields-requires-2 c =
    let a : Area = record { word = c.self.inside.word; drawables = c.self.inside.drawables.items; width = c.self.inside.width; height = c.self.inside.height; owner = c.self.inside.owner; age = c.self.inside.age; region_count = c.self.inside.region_count; region_size = c.self.inside.region_size; regions = c.self.inside.regions.items } in
    ap (λ (fs : List Field). are_held fs (tens a)) c.numbers.ensures ∙ (each_held a c.self.invariant.held).numbers

pub put_entries-requires : goal.put_entries-requires
put_entries-requires c =
    let a : Area = record { word = c.self.inside.word; drawables = c.self.inside.drawables.items; width = c.self.inside.width; height = c.self.inside.height; owner = c.self.inside.owner; age = c.self.inside.age; region_count = c.self.inside.region_count; region_size = c.self.inside.region_size; regions = c.self.inside.regions.items } in
    entry_held a c.as_slice-2.result.now c.self.invariant c.as_slice-2.ensures.value

pub returns-clause-image : goal.returns-clause-image
returns-clause-image c =
    let a : Area = record { word = c.self.inside.word; drawables = c.self.inside.drawables.items; width = c.self.inside.width; height = c.self.inside.height; owner = c.self.inside.owner; age = c.self.inside.age; region_count = c.self.inside.region_count; region_size = c.self.inside.region_size; regions = c.self.inside.regions.items } in
    let word = ap (λ (f : Field). c.in_ok-out.out.items ++ written (f ∷ []) (a.word ∷ [])) c.word.ensures in
    let shown = ap (λ (xs : List ℕ). c.put_zeros-2.new.out.items ++ xs) (drawable_part a c.as_slice.result.now c.self.invariant c.as_slice.ensures.value) in
    let numbers = ap (λ (fs : List Field). c.put_drawables.new.out.items ++ written fs (tens a)) c.numbers.ensures in
    let listed = ap (λ (xs : List ℕ). c.put_fields-2.new.out.items ++ xs) (entry_part a c.as_slice-2.result.now c.self.invariant c.as_slice-2.ensures.value) in
    image_is a c.in_ok-out.out.items c.put_fields.new.out.items c.put_zeros.new.out.items c.put_zeros-2.new.out.items c.put_drawables.new.out.items c.put_fields-2.new.out.items c.put_entries.new.out.items c.put_zeros-3.new.out.items
    c.in_ok-out.ensures.items (c.in_ok-put_fields.ensures ∙ word) c.in_ok-put_zeros.ensures c.in_ok-put_zeros-2.ensures (c.in_ok-put_drawables.ensures ∙ shown) (c.in_ok-put_fields-2.ensures ∙ numbers) (c.in_ok-put_entries.ensures ∙ listed) c.in_ok-put_zeros-3.ensures
    ∙ ap (λ (a : Area). area_bytes a) c.self.view_is
