-- A texture that stands in regions that were allocated for it.
use Rattle.std.proofs.Common.{◌≤◌, ◌∙◌, Some, false, ap, arith, subst, sym}
use Rattle.std.specs.Prelude.{◌==◌, if◌then◌else◌, nat_lt}
use Rattle.dri_model.specs.Heaps.{is_newer, lose}
use Rattle.dri_model.specs.Shares.{levels_after, lose_levels}
use Rattle.dri_texheap.specs.Placements.{levels_of, placed_of}
use Rattle.dri_texheap.specs.RegionStates.{heap_of}
use Rattle.dri_texheap.proofs.Losing.{each_lost, each_set}
use Rattle.dri_client.specs.Kept.{IsKept}
use Rattle.dri_client.specs.Parts.{PartState}
use Rattle.dri_client.proofs.Owned.{used_number}
use Rattle.dri_client.proofs.Standing.{lost_inside, set_inside}
use Rattle.dri_client.proofs.part.ClientPart.take_regions.Goals as goal

pub set-requires-clause-first : goal.set-requires-clause-first
set-requires-clause-first c = (used_number c.args.script.now c.args.regions.now.count c.args.texture c.args.self.now c.requires.script c.requires.kept c.requires.used).0

pub set-requires-clause-last : goal.set-requires-clause-last
set-requires-clause-last c = omega (arith, (used_number c.args.script.now c.args.regions.now.count c.args.texture c.args.self.now c.requires.script c.requires.kept c.requires.used).1, c.self.invariant.roomy, c.lose.ensures.textures)

pub returns-clause-taken : goal.returns-clause-taken
returns-clause-taken c =
    let h = heap_of c.args.regions.now in
    record {
      before = record {
        place = ap (λ (p : PartState). p.place) c.self.view_is;
        phase = ap (λ (p : PartState). p.phase) c.self.view_is;
        stamp = ap (λ (p : PartState). p.stamp) c.self.view_is;
        state = ap (λ (p : PartState). p.state) c.self.view_is;
        dirty = ap (λ (p : PartState). p.dirty) c.self.view_is;
        size = c.set.ensures.size ∙ (c.lose.ensures.size ∙ ap (λ (p : PartState). p.placed.region_size) c.self.view_is);
      };
      placed = c.set.ensures.placed ∙ ((λ i u. if u == c.args.texture then Some c.args.spot else c.lose.ensures.placed i u)
          ∙ (λ i u. if u == c.args.texture then Some c.args.spot else lose (is_newer h (c.self.view_is i).local) (placed_of (c.self.view_is i).placed u)));
      levels = c.set.ensures.levels ∙ (ap (λ levels. levels_after levels (λ k. false) (nat_lt 0 c.args.blocks) c.args.spot c.args.blocks) c.lose.ensures.levels
          ∙ ap (λ (p : PartState). levels_after (lose_levels (is_newer h p.local) (levels_of p.placed)) (λ k. false) (nat_lt 0 c.args.blocks) c.args.spot c.args.blocks) c.self.view_is);
      local = c.age-age.ensures.age;
    }

pub returns-clause-kept : goal.returns-clause-kept
returns-clause-kept c =
    let n = c.args.regions.now.count in
    let f = is_newer (heap_of c.args.regions.now) c.self.inside.local in
    let old = subst (IsKept c.args.script.now n) (sym c.self.view_is) c.requires.kept in
    let left = lost_inside n f _ c.lose.new.self old.inside c.lose.ensures.placed c.lose.ensures.levels in
    let kept = each_lost (λ spot. spot.block ≤ 1024) f _ (placed_of c.lose.new.self) old.blocks c.lose.ensures.placed in
    record {
      started = old.started;
      within = old.within;
      more = old.more;
      bound = old.bound;
      inside = set_inside n c.lose.new.self _ c.args.texture c.args.spot c.args.blocks left c.requires.run (λ _. omega (arith, c.requires.run, c.requires.some)) c.set.ensures.placed c.set.ensures.levels;
      blocks = each_set (λ spot. spot.block ≤ 1024) (placed_of c.lose.new.self) _ c.args.texture c.args.spot kept (omega (arith, c.requires.start)) c.set.ensures.placed;
    }
