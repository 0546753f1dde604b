use Rattle.std.proofs.Common.{◌≡◌, ◌∙◌, [], ◌∷◌, arith, refl}
use Rattle.std.specs.Prelude.{Result, Ok, Err, IfOk}
use Rattle.dri_base.specs.declared.memory.OutOfMemory.{OutOfMemory}
use Rattle.dri_base.specs.declared.scene.Scene.{Scene}
use Rattle.dri_base.specs.declared.scene.Window.{Window}
use Rattle.dri_clips.specs.Boards.{IsOpening, Screen}
use Rattle.dri_leaf_tests.specs.Boards.{HasBoth}
use Rattle.dri_leaf_tests.proofs.clips.board.Goals as goal

opening : (r : Result Screen OutOfMemory) (s : Scene) (a b : Window) → IfOk r (IsOpening s) → s.windows ≡ a ∷ b ∷ [] → a.number ≡ 1 → b.number ≡ 2 → IfOk r HasBoth
opening (Err e) s a b is ws one two = tt
opening (Ok v) s a b is ws one two = let e : v.stack ≡ a ∷ b ∷ [] = is.stack ∙ ws in record { first = rw e (0, omega arith, one); second = rw e (1, omega arith, two) }

pub returns-clause-both : goal.returns-clause-both
returns-clause-both c = opening c.new-4.result _ c.window.result c.window-2.result c.new-4.ensures (rw (c.in_ok-push-2.ensures.ok, c.in_ok-push.ensures.ok, c.new-windows.ensures) refl) c.window.ensures c.window-2.ensures
