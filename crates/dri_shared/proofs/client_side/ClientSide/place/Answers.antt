-- A texture that is placed.
use Rattle.std.proofs.Common.{◌≡◌, ◌∙◌, ◌≤◌, ◌+◌, ◌++◌, ◌∷◌, [], length, subst, sym, ap, arith}
use Rattle.std.specs.Arc.{arc_value}
use Rattle.dri_base.specs.Scenes.{bytes_of, regions_for, regions_needed, textures_of}
use Rattle.dri_base.specs.Texels.{texture_in}
use Rattle.dri_base.specs.declared.journal.Entry.{Entry}
use Rattle.dri_base.specs.declared.journal.Entry.TheVariants.{Place}
use Rattle.dri_base.specs.declared.scene.Scene.{Scene}
use Rattle.dri_base.proofs.RegionSizes.{region_size_above, region_size_within}
use Rattle.dri_card.specs.Contents.{memory_of}
use Rattle.dri_core.specs.Effects.{heap_placed, spot_for}
use Rattle.dri_core.specs.Privates.{is_small, room_in}
use Rattle.dri_core.specs.Runs.{after}
use Rattle.dri_core.proofs.Bounds.{age_most_of_all}
use Rattle.dri_model.specs.Heaps.{Heap, base_of, uploaded}
use Rattle.dri_model.specs.Shares.{is_small_for}
use Rattle.dri_shared.specs.Commands.{WantsPlace}
use Rattle.dri_shared.specs.States.{MayAdd, SharedState, world_of}
use Rattle.dri_draw.proofs.Drawn.{on_ok}
use Rattle.dri_core.proofs.TextureSizes.{heap_small}
use Rattle.dri_shared.proofs.Loading.{placeable, placed, put_is}
use Rattle.dri_shared.proofs.Steps.{faithful}
use Rattle.dri_texheap.specs.RegionStates.{IsInside, heap_of}
use Rattle.dri_shared.proofs.client_side.ClientSide.place.Goals as goal

pub overflow_cast-bytes : goal.overflow_cast-bytes
overflow_cast-bytes c =
    let i = c.shared.inside in let s = arc_value i.scene in let j = i.journal.items in let n = c.args.self.now.client in let t = c.args.texture in let good = c.shared.invariant.scene in let run = c.shared.invariant.run in
    let wanted : WantsPlace s (after s j) n t = subst (λ (v : SharedState). WantsPlace v.scene (world_of v) n t) (sym c.shared.view_is) c.requires.wanted in
    let able = placeable s j n t good run wanted.textured in
    let is : c.texture_bytes-bytes.result.now ≡ bytes_of (texture_in (textures_of s n) t) = c.texture_bytes-bytes.ensures ∙ ap (λ (z : Scene). bytes_of (texture_in (textures_of z n) t)) c.deref-2.ensures in
    let fits = able.fits in let most = heap_small s good in
    let small : length c.texture_bytes-bytes.result.now ≤ 4194304 = rw is (omega (arith, fits, most)) in
    omega (arith, small)

pub stand-spot-requires-clause-sized : goal.stand-spot-requires-clause-sized
stand-spot-requires-clause-sized c =
    let s = arc_value c.shared.inside.scene in
    let sized : c.deref.result.now.region_size ≡ s.region_size = ap (λ (z : Scene). z.region_size) c.deref.ensures in
    let above = region_size_above s.region_size c.shared.invariant.scene.card.sized in omega (arith, sized, above)

pub stand-spot-requires-clause-size : goal.stand-spot-requires-clause-size
stand-spot-requires-clause-size c =
    let s = arc_value c.shared.inside.scene in
    let sized : c.deref.result.now.region_size ≡ s.region_size = ap (λ (z : Scene). z.region_size) c.deref.ensures in
    let most = (region_size_within s.region_size c.shared.invariant.scene.card.sized).1 in omega (arith, sized, most)

pub stand-spot-requires-clause-bytes : goal.stand-spot-requires-clause-bytes
stand-spot-requires-clause-bytes c =
    let i = c.shared.inside in let s = arc_value i.scene in let j = i.journal.items in let n = c.args.self.now.client in let t = c.args.texture in let good = c.shared.invariant.scene in let run = c.shared.invariant.run in
    let wanted : WantsPlace s (after s j) n t = subst (λ (v : SharedState). WantsPlace v.scene (world_of v) n t) (sym c.shared.view_is) c.requires.wanted in
    let able = placeable s j n t good run wanted.textured in
    let is : c.texture_bytes-bytes.result.now ≡ bytes_of (texture_in (textures_of s n) t) = c.texture_bytes-bytes.ensures ∙ ap (λ (z : Scene). bytes_of (texture_in (textures_of z n) t)) c.deref-2.ensures in
    let fits = able.fits in let most = heap_small s good in
    let small : length c.texture_bytes-bytes.result.now ≤ 4194304 = rw is (omega (arith, fits, most)) in
    small

pub stand-spot-requires-clause-some : goal.stand-spot-requires-clause-some
stand-spot-requires-clause-some c =
    let i = c.shared.inside in let s = arc_value i.scene in let j = i.journal.items in let n = c.args.self.now.client in let t = c.args.texture in let good = c.shared.invariant.scene in let run = c.shared.invariant.run in
    let wanted : WantsPlace s (after s j) n t = subst (λ (v : SharedState). WantsPlace v.scene (world_of v) n t) (sym c.shared.view_is) c.requires.wanted in
    let able = placeable s j n t good run wanted.textured in
    let is : c.texture_bytes-bytes.result.now ≡ bytes_of (texture_in (textures_of s n) t) = c.texture_bytes-bytes.ensures ∙ ap (λ (z : Scene). bytes_of (texture_in (textures_of z n) t)) c.deref-2.ensures in
    let sized : c.deref.result.now.region_size ≡ s.region_size = ap (λ (z : Scene). z.region_size) c.deref.ensures in
    let needed : regions_for c.deref.result.now.region_size (length c.texture_bytes-bytes.result.now) ≡ regions_needed s n t = (λ k. regions_for (sized k) (length (is k))) in
    let least = able.needed in omega (arith, needed, least)

pub stand-spot-requires-clause-few : goal.stand-spot-requires-clause-few
stand-spot-requires-clause-few c =
    let i = c.shared.inside in let s = arc_value i.scene in let j = i.journal.items in let n = c.args.self.now.client in let t = c.args.texture in let good = c.shared.invariant.scene in let run = c.shared.invariant.run in
    let wanted : WantsPlace s (after s j) n t = subst (λ (v : SharedState). WantsPlace v.scene (world_of v) n t) (sym c.shared.view_is) c.requires.wanted in
    let able = placeable s j n t good run wanted.textured in
    let is : c.texture_bytes-bytes.result.now ≡ bytes_of (texture_in (textures_of s n) t) = c.texture_bytes-bytes.ensures ∙ ap (λ (z : Scene). bytes_of (texture_in (textures_of z n) t)) c.deref-2.ensures in
    let sized : c.deref.result.now.region_size ≡ s.region_size = ap (λ (z : Scene). z.region_size) c.deref.ensures in
    let needed : regions_for c.deref.result.now.region_size (length c.texture_bytes-bytes.result.now) ≡ regions_needed s n t = (λ k. regions_for (sized k) (length (is k))) in
    let few = able.few in let same = c.shared.invariant.world.regions.count in omega (arith, needed, few, same)

pub stand-spot-requires-clause-age : goal.stand-spot-requires-clause-age
stand-spot-requires-clause-age c =
    let s = arc_value c.shared.inside.scene in let j = c.shared.inside.journal.items in
    let age : c.shared.inside.holdings.regions.global ≡ (after s j).heap.global = ap {A = Heap} (λ h. h.global) c.shared.invariant.world.regions.ages in
    omega (arith, age, age_most_of_all s j c.shared.invariant.scene c.shared.invariant.run)

pub base-requires-clause-size : goal.base-requires-clause-size
base-requires-clause-size c =
    let s = arc_value c.shared.inside.scene in
    let sized : c.deref.result.now.region_size ≡ s.region_size = ap (λ (z : Scene). z.region_size) c.deref.ensures in
    let most = (region_size_within s.region_size c.shared.invariant.scene.card.sized).1 in omega (arith, sized, most)

pub base-requires-clause-first : goal.base-requires-clause-first
base-requires-clause-first c =
    let i = c.shared.inside in let s = arc_value i.scene in let j = i.journal.items in let n = c.args.self.now.client in let t = c.args.texture in let good = c.shared.invariant.scene in let run = c.shared.invariant.run in
    let wanted : WantsPlace s (after s j) n t = subst (λ (v : SharedState). WantsPlace v.scene (world_of v) n t) (sym c.shared.view_is) c.requires.wanted in
    let is : c.texture_bytes-bytes.result.now ≡ bytes_of (texture_in (textures_of s n) t) = c.texture_bytes-bytes.ensures ∙ ap (λ (z : Scene). bytes_of (texture_in (textures_of z n) t)) c.deref-2.ensures in
    let sized : c.deref.result.now.region_size ≡ s.region_size = ap (λ (z : Scene). z.region_size) c.deref.ensures in
    let there : c.args.room ≡ room_in s n ((after s j).client n) t = subst (λ (v : SharedState). c.args.room ≡ room_in v.scene n ((world_of v).client n) t) (sym c.shared.view_is) c.requires.shared in
    let spot = c.stand-spot.result in
    let put = put_is s j i.holdings n t c.args.room spot c.deref.result.now.region_size c.texture_bytes-bytes.result.now good run c.shared.invariant.world wanted there sized is c.stand-spot.ensures.spot c.stand-spot.ensures.many c.stand-spot.ensures.start in
    put.first

pub base-requires-clause-block : goal.base-requires-clause-block
base-requires-clause-block c =
    let i = c.shared.inside in let s = arc_value i.scene in let j = i.journal.items in let n = c.args.self.now.client in let t = c.args.texture in let good = c.shared.invariant.scene in let run = c.shared.invariant.run in
    let wanted : WantsPlace s (after s j) n t = subst (λ (v : SharedState). WantsPlace v.scene (world_of v) n t) (sym c.shared.view_is) c.requires.wanted in
    let is : c.texture_bytes-bytes.result.now ≡ bytes_of (texture_in (textures_of s n) t) = c.texture_bytes-bytes.ensures ∙ ap (λ (z : Scene). bytes_of (texture_in (textures_of z n) t)) c.deref-2.ensures in
    let sized : c.deref.result.now.region_size ≡ s.region_size = ap (λ (z : Scene). z.region_size) c.deref.ensures in
    let there : c.args.room ≡ room_in s n ((after s j).client n) t = subst (λ (v : SharedState). c.args.room ≡ room_in v.scene n ((world_of v).client n) t) (sym c.shared.view_is) c.requires.shared in
    let spot = c.stand-spot.result in
    let put = put_is s j i.holdings n t c.args.room spot c.deref.result.now.region_size c.texture_bytes-bytes.result.now good run c.shared.invariant.world wanted there sized is c.stand-spot.ensures.spot c.stand-spot.ensures.many c.stand-spot.ensures.start in
    put.block

pub upload-requires : goal.upload-requires
upload-requires c =
    let i = c.shared.inside in let s = arc_value i.scene in let j = i.journal.items in let n = c.args.self.now.client in let t = c.args.texture in let good = c.shared.invariant.scene in let run = c.shared.invariant.run in
    let wanted : WantsPlace s (after s j) n t = subst (λ (v : SharedState). WantsPlace v.scene (world_of v) n t) (sym c.shared.view_is) c.requires.wanted in
    let able = placeable s j n t good run wanted.textured in
    let is : c.texture_bytes-bytes.result.now ≡ bytes_of (texture_in (textures_of s n) t) = c.texture_bytes-bytes.ensures ∙ ap (λ (z : Scene). bytes_of (texture_in (textures_of z n) t)) c.deref-2.ensures in
    let fits = able.fits in let most = heap_small s good in
    let small : length c.texture_bytes-bytes.result.now ≤ 4194304 = rw is (omega (arith, fits, most)) in
    omega (arith, small)

pub unwrap-requires : goal.unwrap-requires
unwrap-requires c =
    let i = c.shared.inside in let s = arc_value i.scene in let j = i.journal.items in let n = c.args.self.now.client in let t = c.args.texture in let good = c.shared.invariant.scene in let run = c.shared.invariant.run in
    let wanted : WantsPlace s (after s j) n t = subst (λ (v : SharedState). WantsPlace v.scene (world_of v) n t) (sym c.shared.view_is) c.requires.wanted in
    let is : c.texture_bytes-bytes.result.now ≡ bytes_of (texture_in (textures_of s n) t) = c.texture_bytes-bytes.ensures ∙ ap (λ (z : Scene). bytes_of (texture_in (textures_of z n) t)) c.deref-2.ensures in
    let sized : c.deref.result.now.region_size ≡ s.region_size = ap (λ (z : Scene). z.region_size) c.deref.ensures in
    let there : c.args.room ≡ room_in s n ((after s j).client n) t = subst (λ (v : SharedState). c.args.room ≡ room_in v.scene n ((world_of v).client n) t) (sym c.shared.view_is) c.requires.shared in
    let spot = c.stand-spot.result in
    let put = put_is s j i.holdings n t c.args.room spot c.deref.result.now.region_size c.texture_bytes-bytes.result.now good run c.shared.invariant.world wanted there sized is c.stand-spot.ensures.spot c.stand-spot.ensures.many c.stand-spot.ensures.start in
    let base : c.base.result ≡ base_of s.region_size spot = c.base.ensures ∙ ap (λ z. base_of z spot) sized in
    let fits : c.base.result + length c.texture_bytes-bytes.result.now ≤ length i.holdings.card.memory = omega (arith, base, put.memory, c.shared.invariant.world.card.bytes) in
    c.upload.ensures.within.1 fits

pub invariant_of-shared : goal.invariant_of-shared
invariant_of-shared c =
    let i = c.shared.inside in let s = arc_value i.scene in let j = i.journal.items in let n = c.args.self.now.client in let t = c.args.texture in let good = c.shared.invariant.scene in let run = c.shared.invariant.run in
    let wanted : WantsPlace s (after s j) n t = subst (λ (v : SharedState). WantsPlace v.scene (world_of v) n t) (sym c.shared.view_is) c.requires.wanted in
    let is : c.texture_bytes-bytes.result.now ≡ bytes_of (texture_in (textures_of s n) t) = c.texture_bytes-bytes.ensures ∙ ap (λ (z : Scene). bytes_of (texture_in (textures_of z n) t)) c.deref-2.ensures in
    let sized : c.deref.result.now.region_size ≡ s.region_size = ap (λ (z : Scene). z.region_size) c.deref.ensures in
    let there : c.args.room ≡ room_in s n ((after s j).client n) t = subst (λ (v : SharedState). c.args.room ≡ room_in v.scene n ((world_of v).client n) t) (sym c.shared.view_is) c.requires.shared in
    let spot = c.stand-spot.result in
    let put = put_is s j i.holdings n t c.args.room spot c.deref.result.now.region_size c.texture_bytes-bytes.result.now good run c.shared.invariant.world wanted there sized is c.stand-spot.ensures.spot c.stand-spot.ensures.many c.stand-spot.ensures.start in
    let base : c.base.result ≡ base_of s.region_size spot = c.base.ensures ∙ ap (λ z. base_of z spot) sized in
    let fits : c.base.result + length c.texture_bytes-bytes.result.now ≤ length i.holdings.card.memory = omega (arith, base, put.memory, c.shared.invariant.world.card.bytes) in
    let marks : is_small_for c.deref.result.now.region_size (length c.texture_bytes-bytes.result.now) ≡ is_small s n t = (λ k. is_small_for (sized k) (length (is k))) in
    let ages : heap_of c.stand-spot.new.regions ≡ heap_placed c.args.room (is_small s n t) i.holdings.regions.count (heap_of i.holdings.regions) spot.run =
    c.stand-spot.ensures.heap ∙ ap (λ b. heap_placed c.args.room b i.holdings.regions.count (heap_of i.holdings.regions) spot.run) marks in
    let up : memory_of c.upload.new.self ≡ uploaded (memory_of i.holdings.card) (base_of s.region_size (spot_for c.args.room spot.run)) c.texture_bytes-bytes.result.now =
    on_ok c.upload.result _ (c.upload.ensures.within.1 fits) c.upload.ensures.ok ∙ ap (λ a. uploaded (memory_of i.holdings.card) a c.texture_bytes-bytes.result.now) (base ∙ ap (base_of s.region_size) c.stand-spot.ensures.spot) in
    faithful s j c.push_reserved.new.self.items i.holdings (record i.holdings { card = c.upload.new.self; regions = c.stand-spot.new.regions }) (Place n t spot.run.first spot.run.count) c.shared.invariant
    put.legal (c.push_reserved.ensures.items ∙ ap (λ (e : Entry). j ++ e ∷ []) c.place_entry-entry.ensures)
    (placed s i.holdings (after s j) n c.shared.invariant.world t spot.run.first spot.run.count c.args.room c.texture_bytes-bytes.result.now c.stand-spot.new.regions c.upload.new.self there is
    c.stand-spot.ensures.count ages c.upload.ensures.others c.upload.ensures.len up)

pub returns-clause-legal : goal.returns-clause-legal
returns-clause-legal c =
    let i = c.shared.inside in let s = arc_value i.scene in let j = i.journal.items in let n = c.args.self.now.client in let t = c.args.texture in let good = c.shared.invariant.scene in let run = c.shared.invariant.run in
    let wanted : WantsPlace s (after s j) n t = subst (λ (v : SharedState). WantsPlace v.scene (world_of v) n t) (sym c.shared.view_is) c.requires.wanted in
    let is : c.texture_bytes-bytes.result.now ≡ bytes_of (texture_in (textures_of s n) t) = c.texture_bytes-bytes.ensures ∙ ap (λ (z : Scene). bytes_of (texture_in (textures_of z n) t)) c.deref-2.ensures in
    let sized : c.deref.result.now.region_size ≡ s.region_size = ap (λ (z : Scene). z.region_size) c.deref.ensures in
    let there : c.args.room ≡ room_in s n ((after s j).client n) t = subst (λ (v : SharedState). c.args.room ≡ room_in v.scene n ((world_of v).client n) t) (sym c.shared.view_is) c.requires.shared in
    let spot = c.stand-spot.result in
    let put = put_is s j i.holdings n t c.args.room spot c.deref.result.now.region_size c.texture_bytes-bytes.result.now good run c.shared.invariant.world wanted there sized is c.stand-spot.ensures.spot c.stand-spot.ensures.many c.stand-spot.ensures.start in
    subst (λ v. MayAdd v (Place n t spot.run.first spot.run.count)) c.shared.view_is put.legal

pub returns-clause-inside : goal.returns-clause-inside
returns-clause-inside c =
    let i = c.shared.inside in let s = arc_value i.scene in let j = i.journal.items in let n = c.args.self.now.client in let t = c.args.texture in let good = c.shared.invariant.scene in let run = c.shared.invariant.run in
    let wanted : WantsPlace s (after s j) n t = subst (λ (v : SharedState). WantsPlace v.scene (world_of v) n t) (sym c.shared.view_is) c.requires.wanted in
    let is : c.texture_bytes-bytes.result.now ≡ bytes_of (texture_in (textures_of s n) t) = c.texture_bytes-bytes.ensures ∙ ap (λ (z : Scene). bytes_of (texture_in (textures_of z n) t)) c.deref-2.ensures in
    let sized : c.deref.result.now.region_size ≡ s.region_size = ap (λ (z : Scene). z.region_size) c.deref.ensures in
    let there : c.args.room ≡ room_in s n ((after s j).client n) t = subst (λ (v : SharedState). c.args.room ≡ room_in v.scene n ((world_of v).client n) t) (sym c.shared.view_is) c.requires.shared in
    let spot = c.stand-spot.result in
    let put = put_is s j i.holdings n t c.args.room spot c.deref.result.now.region_size c.texture_bytes-bytes.result.now good run c.shared.invariant.world wanted there sized is c.stand-spot.ensures.spot c.stand-spot.ensures.many c.stand-spot.ensures.start in
    subst (λ (v : SharedState). IsInside v.scene.regions spot.run) c.shared.view_is put.inside

pub returns-clause-some : goal.returns-clause-some
returns-clause-some c =
    let i = c.shared.inside in let s = arc_value i.scene in let j = i.journal.items in let n = c.args.self.now.client in let t = c.args.texture in let good = c.shared.invariant.scene in let run = c.shared.invariant.run in
    let wanted : WantsPlace s (after s j) n t = subst (λ (v : SharedState). WantsPlace v.scene (world_of v) n t) (sym c.shared.view_is) c.requires.wanted in
    let is : c.texture_bytes-bytes.result.now ≡ bytes_of (texture_in (textures_of s n) t) = c.texture_bytes-bytes.ensures ∙ ap (λ (z : Scene). bytes_of (texture_in (textures_of z n) t)) c.deref-2.ensures in
    let sized : c.deref.result.now.region_size ≡ s.region_size = ap (λ (z : Scene). z.region_size) c.deref.ensures in
    let there : c.args.room ≡ room_in s n ((after s j).client n) t = subst (λ (v : SharedState). c.args.room ≡ room_in v.scene n ((world_of v).client n) t) (sym c.shared.view_is) c.requires.shared in
    let spot = c.stand-spot.result in
    let put = put_is s j i.holdings n t c.args.room spot c.deref.result.now.region_size c.texture_bytes-bytes.result.now good run c.shared.invariant.world wanted there sized is c.stand-spot.ensures.spot c.stand-spot.ensures.many c.stand-spot.ensures.start in
    put.some
