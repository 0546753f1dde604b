-- What comes from where.
use Rattle.std.proofs.Common.{pos, ◌-ℤ◌, ◌∙◌, sym}
use Rattle.dri_history.proofs.Placing.{any_has}
use Rattle.dri_history.proofs.touching.comes_to.Goals as goal

pub returns-in-Some : goal.returns-in-Some
returns-in-Some c = rw c.in-Some.is (c.comes_by.ensures ∙ sym (any_has c.in-Some.carry.rects (pos c.args.x -ℤ c.in-Some.carry.dx) (pos c.args.y -ℤ c.in-Some.carry.dy)))
