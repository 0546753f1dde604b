use Rattle.std.proofs.Common.{◌∙◌, ap, sym, subst}
use Rattle.std.specs.Prelude.{Option, ℕ}
use Rattle.dri_clips.specs.Boards.{Screen}
use Rattle.dri_clips.specs.Layouts.{SameNumbers}
use Rattle.dri_clips.specs.Paints.{ArePaints, IsCarried, moves_whole}
use Rattle.dri_clips.proofs.Carrying.{carry_is_carried, motion_on, whole_is_moved}
use Rattle.dri_clips.proofs.Telling.{restacked}
use Rattle.dri_clips.proofs.board.Board.restack.Goals as goal

pub mend-requires-clause-absent : goal.mend-requires-clause-absent
mend-requires-clause-absent g c = λ n a. (subst (λ (v : Screen). SameNumbers v.stack c.args.stack) (sym c.self.view_is) c.requires.numbers n).1 a

pub restamp-requires-clause-numbers : goal.restamp-requires-clause-numbers
restamp-requires-clause-numbers g c = subst (λ (v : Screen). SameNumbers v.stack c.args.stack) (sym c.self.view_is) c.requires.numbers

pub carry_of-requires : goal.carry_of-requires
carry_of-requires g c = motion_on c.self.inside.layout.width c.self.inside.layout.height c.self.inside.layout.stack c.args.stack c.in_ok-motion.motion c.self.invariant.0.wide.1 c.self.invariant.0.high.1 c.in_ok-motion.ensures.motion

pub returns-clause-ok : goal.returns-clause-ok
returns-clause-ok g c =
    rw (← c.self.view_is) (restacked c.self.inside.layout.width c.self.inside.layout.height _ _ c.self.inside.root c.self.inside.layout.stack c.args.stack _ c.self.inside.stamps c.self.inside.counter c.in_ok-new.new c.put.ensures.width c.put.ensures.height c.put.ensures.stack c.self.invariant.0.ranged
    (subst (λ (v : Screen). SameNumbers v.stack c.args.stack) (sym c.self.view_is) c.requires.numbers) c.in_ok-new.ensures)

pub returns-clause-touched : goal.returns-clause-touched
returns-clause-touched g c = rw (← c.self.view_is) (record {
  windows = c.in_ok-new.ensures.numbers;
  carry = subst (λ (o : Option ℕ). IsCarried c.self.inside.layout.width c.self.inside.layout.height c.self.inside.layout.stack c.args.stack o c.in_ok-carry.carry) c.in_ok-motion.ensures.moved
      (carry_is_carried c.self.inside.layout.width c.self.inside.layout.height c.self.inside.layout.stack c.args.stack c.in_ok-motion.motion c.in_ok-carry.carry c.in_ok-motion.ensures.motion c.in_ok-carry.ensures);
  whole = c.moves_whole.ensures ∙ whole_is_moved c.self.inside.layout.width c.self.inside.layout.height c.self.inside.layout.stack c.args.stack c.in_ok-motion.motion c.in_ok-motion.ensures.motion
      ∙ ap (λ (o : Option ℕ). moves_whole c.self.inside.layout.width c.self.inside.layout.height c.self.inside.layout.stack c.args.stack o) c.in_ok-motion.ensures.moved;
  paints = subst (λ (o : Option ℕ). ArePaints c.self.inside.layout.width c.self.inside.layout.height c.self.inside.root c.self.inside.layout.stack c.args.stack o c.in_ok-paints.paints) c.in_ok-motion.ensures.moved c.in_ok-paints.ensures;
})
