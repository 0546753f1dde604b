-- A texture that stands in a room.
use Rattle.std.proofs.Common.{◌≤◌, ◌∙◌, Some, false, ap, arith, subst, sym}
use Rattle.std.specs.Prelude.{◌==◌, if◌then◌else◌, nat_lt}
use Rattle.dri_model.specs.Shares.{levels_after}
use Rattle.dri_texheap.specs.Placements.{levels_of, placed_of}
use Rattle.dri_texheap.proofs.Losing.{each_set}
use Rattle.dri_client.specs.Kept.{IsKept}
use Rattle.dri_client.specs.Parts.{PartState}
use Rattle.dri_client.proofs.Owned.{used_number}
use Rattle.dri_client.proofs.Standing.{StandsInside, room_inside, set_inside}
use Rattle.dri_client.proofs.part.ClientPart.fill_room.Goals as goal

-- the room lies inside
stands : (c : goal.After-set-arg-1) → StandsInside c.args.regions.now.count c.args.self.now.placed.region_size c.args.spot c.args.blocks
stands c = room_inside c.args.regions.now.count c.args.self.now.placed.region_size c.args.blocks c.args.self.now.placed c.args.spot c.requires.kept.inside
    (subst (λ (p : PartState). p.placed.region_size ≤ 65536) c.self.view_is c.self.invariant.sized) c.requires.room

pub set-requires-clause-first : goal.set-requires-clause-first
set-requires-clause-first c = (used_number c.args.script.now c.args.regions.now.count c.args.texture c.args.self.now c.requires.script c.requires.kept c.requires.used).0

pub set-requires-clause-last : goal.set-requires-clause-last
set-requires-clause-last c = omega (arith, (used_number c.args.script.now c.args.regions.now.count c.args.texture c.args.self.now c.requires.script c.requires.kept c.requires.used).1, c.self.invariant.roomy)

pub set-requires-clause-region : goal.set-requires-clause-region
set-requires-clause-region c = λ _. omega (arith, (stands c).first, c.count-count.ensures.heap.most)

pub set-requires-clause-level : goal.set-requires-clause-level
set-requires-clause-level c = omega (arith, (stands c).fits)

pub returns-clause-put : goal.returns-clause-put
returns-clause-put c = record {
  before = record {
    place = ap (λ (p : PartState). p.place) c.self.view_is;
    phase = ap (λ (p : PartState). p.phase) c.self.view_is;
    stamp = ap (λ (p : PartState). p.stamp) c.self.view_is;
    state = ap (λ (p : PartState). p.state) c.self.view_is;
    dirty = ap (λ (p : PartState). p.dirty) c.self.view_is;
    size = c.set.ensures.size ∙ ap (λ (p : PartState). p.placed.region_size) c.self.view_is;
  };
  placed = c.set.ensures.placed ∙ (λ i u. if u == c.args.texture then Some c.args.spot else placed_of (c.self.view_is i).placed u);
  levels = c.set.ensures.levels ∙ ap (λ (p : PartState). levels_after (levels_of p.placed) (λ k. false) (nat_lt 0 c.args.blocks) c.args.spot c.args.blocks) c.self.view_is;
  local = ap (λ (p : PartState). p.local) c.self.view_is;
}

pub returns-clause-kept : goal.returns-clause-kept
returns-clause-kept c =
    let n = c.args.regions.now.count in
    let old = subst (IsKept c.args.script.now n) (sym c.self.view_is) c.requires.kept in
    let inside = room_inside n c.args.self.now.placed.region_size c.args.blocks c.args.self.now.placed c.args.spot c.requires.kept.inside
    (subst (λ (p : PartState). p.placed.region_size ≤ 65536) c.self.view_is c.self.invariant.sized) c.requires.room in
    record {
      started = old.started;
      within = old.within;
      more = old.more;
      bound = old.bound;
      inside = set_inside n _ _ c.args.texture c.args.spot c.args.blocks old.inside inside.run (λ _. inside.first) c.set.ensures.placed c.set.ensures.levels;
      blocks = each_set (λ spot. spot.block ≤ 1024) _ _ c.args.texture c.args.spot old.blocks inside.block c.set.ensures.placed;
    }
