use Rattle.std.proofs.Common.{◌≡◌, ◌≤◌, ◌+◌, ◌-◌, ◌∙◌, Some, ap, arith, false, get_or, length, sym, subst, true}
use Rattle.std.specs.Prelude.{Contains}
use Rattle.dri_base.specs.Ranges.{client_numbers}
use Rattle.dri_core.specs.CoreRuns.{world_of}
use Rattle.dri_core.specs.Cores.{journal_of}
use Rattle.dri_world.specs.Currents.{is_over, standing}
use Rattle.dri_world.specs.Seats.{order_of}
use Rattle.dri_world.proofs.Playing.{good_by}
use Rattle.dri_world.proofs.Seating.{Passes, passes_all, passes_client, passes_current, passes_none, passes_one, passes_seat}
use Rattle.dri_world.proofs.world.World.current.Goals as goal

pub loop-passed-init : goal.loop-passed-init
loop-passed-init c = passes_none _ _ _ _ c.requires.seated

pub current_at-member-requires : goal.current_at-member-requires
current_at-member-requires c = c.loop-passed.invariant.from.inside

pub is_over-requires : goal.is_over-requires
is_over-requires c =
    let s = c.args.self.now.scene in
    subst (Contains (client_numbers s.clients)) (sym c.current_at-member.ensures) (passes_client s _ _ _ _ _ _ c.requires.grouping c.loop-passed.invariant)

pub returns-then-not-is_over-clause-member : goal.returns-then-not-is_over-clause-member
returns-then-not-is_over-clause-member c =
    let w = world_of c.args.self.now.scene c.args.self.now.events in
    let g = c.args.grouping.now in
    let live : is_over w (get_or (order_of g) c.loop-passed.seat.place 0) ≡ false = ap (is_over w) (sym c.current_at-member.ensures) ∙ sym c.is_over.ensures ∙ c.if-not-is_over.true in
    ap Some c.current_at-member.ensures ∙ sym (passes_current g w _ _ _ _ (good_by c.args.self.now.scene g c.requires.grouping) c.loop-passed.invariant live).1

pub returns-then-not-is_over-clause-seated : goal.returns-then-not-is_over-clause-seated
returns-then-not-is_over-clause-seated c = passes_seat _ _ _ _ _ _ c.loop-passed.invariant

pub returns-then-not-is_over-clause-settled : goal.returns-then-not-is_over-clause-settled
returns-then-not-is_over-clause-settled c =
    let w = world_of c.args.self.now.scene c.args.self.now.events in
    let g = c.args.grouping.now in
    let live : is_over w (get_or (order_of g) c.loop-passed.seat.place 0) ≡ false = ap (is_over w) (sym c.current_at-member.ensures) ∙ sym c.is_over.ensures ∙ c.if-not-is_over.true in
    (passes_current g w _ _ _ _ (good_by c.args.self.now.scene g c.requires.grouping) c.loop-passed.invariant live).0

pub next_place-seat-requires-clause-inside : goal.next_place-seat-requires-clause-inside
next_place-seat-requires-clause-inside c = c.loop-passed.invariant.from.inside

pub loop-passed-preserved : goal.loop-passed-preserved
loop-passed-preserved c =
    let s = c.args.self.now.scene in
    let w = world_of s c.args.self.now.events in
    let g = c.args.grouping.now in
    let over : is_over w (get_or (order_of g) c.loop-passed.seat.place 0) ≡ true = ap (is_over w) (sym c.current_at-member.ensures) ∙ sym c.is_over.ensures ∙ c.if-not-is_over.false in
    subst (λ q. Passes g w (standing s g (journal_of c.args.self.now.events)) c.args.seat.now (record { place = q; ran = c.loop-passed.seat.ran }) (c.loop-passed.passed + 1)) (sym c.next_place-seat.ensures)
    (passes_one g w _ _ _ _ (good_by s g c.requires.grouping) c.loop-passed.invariant over)

pub returns-clause-member : goal.returns-clause-member
returns-clause-member c =
    let s = c.args.self.now.scene in
    let g = c.args.grouping.now in
    let enough : length (order_of g) - c.args.seat.now.place + length g.members ≤ c.loop-passed.passed = omega (arith, c.loop-passed-test.false, c.places.ensures, c.len.ensures) in
    sym (passes_all g (world_of s c.args.self.now.events) _ _ _ _ (good_by s g c.requires.grouping) c.loop-passed.invariant enough)

pub returns-clause-seated : goal.returns-clause-seated
returns-clause-seated c = passes_seat _ _ _ _ _ _ c.loop-passed.invariant
