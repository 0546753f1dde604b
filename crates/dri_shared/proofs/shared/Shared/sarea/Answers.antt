use Rattle.std.proofs.Common.{◌≡◌, ◌≤◌, ◌∙◌, List, All, sym, ap, subst, arith, IfOk}
use Rattle.std.specs.Arc.{arc_value}
use Rattle.dri_base.specs.declared.scene.Scene.{Scene}
use Rattle.dri_base.specs.declared.scene.Window.{Window}
use Rattle.dri_clips.specs.Boards.{stamps_of}
use Rattle.dri_core.specs.Runs.{after}
use Rattle.dri_sarea.specs.Areas.{Area, all_entries}
use Rattle.dri_sarea.specs.declared.drawable.Drawable.{Drawable}
use Rattle.dri_shared.specs.Areas.{area_of, has_number}
use Rattle.dri_shared.specs.States.{SharedState, world_of}
use Rattle.dri_shared.proofs.Shown.{area_is, if_ok, owner_most, same_numbers, shown_flags}
use Rattle.dri_shared.proofs.shared.Shared.sarea.Goals as goal
use Rattle.dri_texheap.specs.RegionStates.{heap_of}

pub drawables-requires : goal.drawables-requires
drawables-requires c =
    let i = c.self.inside in let s = arc_value i.scene in
    λ n. ap (λ (ws : List Window). has_number ws n) (c.as_slice.ensures ∙ ap (λ (q : Scene). q.windows) c.deref-scene.ensures) ∙
    (same_numbers s i.journal.items n ∙ ap (λ (ws : List Window). has_number ws n) (sym c.self.invariant.world.board.windows))

pub new-requires-clause-flags : goal.new-requires-clause-flags
new-requires-clause-flags c =
    let board = c.self.inside.holdings.board in
    subst (λ (ds : List Drawable). All (λ d. d.flags ≤ 1) ds) (sym (c.as_slice-2.ensures.value ∙ c.in_ok-drawables.ensures)) (shown_flags board.stack (stamps_of board))

pub new-requires-clause-owner : goal.new-requires-clause-owner
new-requires-clause-owner c =
    let i = c.self.inside in
    omega (arith, owner_most (arc_value i.scene) i.journal.items c.self.invariant.scene c.self.invariant.run, c.self.invariant.world.owner)

pub returns : goal.returns
returns c =
    let i = c.self.inside in let s = arc_value i.scene in let h = i.holdings in let t = c.deref-scene.result.now in let w = after s i.journal.items in
    let area : Area = record {
      word = c.args.word;
      drawables = c.as_slice-2.result.now;
      width = t.width;
      height = t.height;
      owner = h.owner;
      age = c.age.result;
      region_count = h.regions.count;
      region_size = t.region_size;
      regions = all_entries h.regions.count (heap_of h.regions);
    } in
    subst (λ (v : SharedState). IfOk c.new.result (λ (a : Area). a ≡ area_of v.scene (world_of v) c.args.word)) c.self.view_is (if_ok c.new.result area (area_of s w c.args.word)
    (area_is s t h w c.args.word c.age.result c.as_slice-2.result.now c.deref-scene.ensures (c.as_slice-2.ensures.value ∙ c.in_ok-drawables.ensures) c.age.ensures.age c.self.invariant.world) c.new.ensures.values)
