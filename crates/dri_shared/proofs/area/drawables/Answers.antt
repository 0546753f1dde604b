-- One drawable more, and all of them.
use Rattle.std.proofs.Common.{◌≡◌, ◌∙◌, ℕ, map, ap, arith}
use Rattle.std.specs.List.{range_with_len}
use Rattle.std.proofs.lemmas.Bool.Decides.{nat_tests}
use Rattle.dri_clips.specs.Boards.{stamps_of}
use Rattle.dri_shared.specs.Areas.{drawable_of}
use Rattle.dri_shared.proofs.Shown.{shown_more}
use Rattle.dri_shared.proofs.area.drawables.Goals as goal

pub loop-number-preserved : goal.loop-number-preserved
loop-number-preserved c =
    shown_more c.args.board.now.stack (stamps_of c.args.board.now) c.loop-number.list.items c.push.new.self.items c.drawable.result c.loop-number.number c.in_ok-push.ensures.items c.loop-number.invariant c.drawable.ensures

pub returns : goal.returns
returns c =
    let all : c.loop-number.number ≡ 256 = grind (arith, nat_tests, c.loop-number.auto.number-end, c.loop-number-test.false) in
    c.loop-number.invariant ∙ ap (λ (n : ℕ). map (drawable_of c.args.board.now.stack (stamps_of c.args.board.now)) (range_with_len 0 n)) all
