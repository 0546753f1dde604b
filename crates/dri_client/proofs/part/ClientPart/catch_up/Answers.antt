use Rattle.std.proofs.Common.{◌≤◌, ◌∙◌, ap, subst, sym}
use Rattle.dri_base.specs.declared.state.State.{State}
use Rattle.dri_model.specs.Groups.{all_where, with_bound}
use Rattle.dri_model.specs.Heaps.{is_newer}
use Rattle.dri_texheap.specs.Placements.{AreInside, is_bound_lost}
use Rattle.dri_texheap.specs.RegionStates.{heap_of}
use Rattle.dri_texheap.proofs.Losing.{each_lost}
use Rattle.dri_client.proofs.Standing.{lost_inside}
use Rattle.dri_client.specs.Kept.{IsKept, state_of}
use Rattle.dri_client.specs.Parts.{PartState, private_of}
use Rattle.dri_client.specs.Steps.{caught_up}
use Rattle.dri_client.proofs.Losses.{bound_lost_same}
use Rattle.dri_client.proofs.part.ClientPart.catch_up.Goals as goal

pub lose-is_lost-requires : goal.lose-is_lost-requires
lose-is_lost-requires c = subst (λ (p : PartState). AreInside c.args.regions.now.count p.placed) (sym c.self.view_is) c.requires.inside

pub returns-clause-part : goal.returns-clause-part
returns-clause-part c = λ copy origin.
    let m = state_of c.self.inside in
    let f = is_newer (heap_of c.args.regions.now) m.local in
    let owner = c.args.is_new_owner in
    let lost = c.lose-is_lost.ensures.bound ∙ (ap (λ (s : State). is_bound_lost f m.placed s.bound) c.state-bound.ensures ∙ bound_lost_same f m.placed m.state.bound) in
    (λ i. record (private_of m copy origin) {
      state = c.mark.ensures.state i;
      dirty = (c.mark.ensures.dirty ∙ ap (λ b. with_bound b (all_where owner m.dirty)) lost) i;
      placed = c.lose-is_lost.ensures.placed i;
      levels = c.lose-is_lost.ensures.levels i;
      local = c.age-self-inside.ensures.age i;
    }) ∙ ap (λ (p : PartState). caught_up (heap_of c.args.regions.now) owner (private_of p copy origin)) c.self.view_is

pub returns-clause-kept : goal.returns-clause-kept
returns-clause-kept c = λ script n kept.
    let old = subst (IsKept script n) (sym c.self.view_is) kept in
    record {
      started = old.started;
      within = old.within;
      more = old.more;
      bound = λ t e. old.bound t (sym (ap (λ (s : State). s.bound) c.mark.ensures.state) ∙ e);
      inside = lost_inside n (is_newer (heap_of c.args.regions.now) c.self.inside.local) _ _ old.inside c.lose-is_lost.ensures.placed c.lose-is_lost.ensures.levels;
      blocks = each_lost (λ spot. spot.block ≤ 1024) (is_newer (heap_of c.args.regions.now) c.self.inside.local) _ _ old.blocks c.lose-is_lost.ensures.placed;
    }
