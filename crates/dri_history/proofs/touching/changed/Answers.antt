-- What is carried there, else what is painted.
use Rattle.std.proofs.Common.{refl}
use Rattle.dri_history.proofs.Doings.{kind_carried, kind_none, kind_painted}
use Rattle.dri_history.proofs.touching.changed.Goals as goal

pub returns-then-comes_to : goal.returns-then-comes_to
returns-then-comes_to c = (kind_carried c.args.touched.now c.args.x c.args.y c.comes_to.result c.comes_to.ensures c.if-comes_to.true, λ v n. refl)

pub returns-then-is_painted : goal.returns-then-is_painted
returns-then-is_painted c = (kind_painted c.args.touched.now c.args.x c.args.y c.comes_to.result c.is_painted.result c.comes_to.ensures c.if-comes_to.false (rw c.as_slice.ensures at c.is_painted.ensures) c.if-is_painted.true, λ v n. refl)

pub returns : goal.returns
returns c = kind_none c.args.touched.now c.args.x c.args.y c.comes_to.result c.is_painted.result c.comes_to.ensures c.if-comes_to.false (rw c.as_slice.ensures at c.is_painted.ensures) c.if-is_painted.false
