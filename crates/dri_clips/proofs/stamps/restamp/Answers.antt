use Rattle.std.proofs.Common.{◌≡◌, ◌<◌, ◌+◌, ℕ, arith, rules, refl, sym, subst}
use Rattle.dri_model.specs.Counting.{how_many}
use Rattle.dri_model.specs.Stacks.{is_touched}
use Rattle.dri_clips.specs.Layouts.{IsRestamped}
use Rattle.dri_clips.proofs.Stamping.{many_most, restamp_no, restamp_none, restamp_yes, touched_none}
use Rattle.dri_clips.proofs.stamps.restamp.Goals as goal
use Rattle.dri_clips.proofs.stamps.restamp.Goals.{then-is_touched+in_ok-push, else-is_touched}

pub loop-number-init : goal.loop-number-init
loop-number-init c = restamp_none _ c.args.counter c.args.stamps.now _ (touched_none c.args.old.now.width c.args.old.now.height c.args.old.now.stack c.args.new.now c.requires.layout.ranged c.requires.numbers) (search rules) c.new.ensures refl refl

pub overflow_add-out : goal.overflow_add-out
overflow_add-out c =
    let most : how_many (is_touched c.args.old.now.width c.args.old.now.height c.args.old.now.stack c.args.new.now) c.loop-number.number < c.loop-number.number =
    many_most (is_touched c.args.old.now.width c.args.old.now.height c.args.old.now.stack c.args.new.now) (touched_none c.args.old.now.width c.args.old.now.height c.args.old.now.stack c.args.new.now c.requires.layout.ranged c.requires.numbers) c.loop-number.number (omega arith) in
    let at : c.loop-number.out.counter ≡ c.args.counter + how_many (is_touched c.args.old.now.width c.args.old.now.height c.args.old.now.stack c.args.new.now) c.loop-number.number = c.loop-number.invariant.counter in
    omega arith

pub loop-number-preserved : goal.loop-number-preserved
loop-number-preserved c = elim c.if-is_touched.branch [
  | then-is_touched+in_ok-push w ↦ rw w.out-is (restamp_yes _ c.loop-number.number c.args.counter c.args.stamps.now c.loop-number.out _ c.loop-number.invariant (sym w.if-is_touched.ensures) c.loop-number-test.true w.in_ok-push.ensures.ok refl refl)
  | else-is_touched w ↦ restamp_no _ c.loop-number.number c.args.counter c.args.stamps.now c.loop-number.out c.if-is_touched.out c.loop-number.invariant (sym w.if-is_touched.ensures) w.out-is
]

pub returns : goal.returns
returns c =
    let e : c.loop-number.number ≡ 65 = omega arith in
    subst (λ (n : ℕ). IsRestamped (is_touched c.args.old.now.width c.args.old.now.height c.args.old.now.stack c.args.new.now) n c.args.counter c.args.stamps.now c.loop-number.out) e c.loop-number.invariant
