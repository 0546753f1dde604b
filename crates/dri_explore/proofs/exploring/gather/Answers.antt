use Rattle.std.proofs.Common.{◌≡◌, ◌+◌, ◌∙◌, ap, arith, subst, sym, Bool}
use Rattle.std.specs.Arc.{arc_value}
use Rattle.std.specs.Prelude.{All}
use Rattle.dri_core.specs.Cores.{journal_of}
use Rattle.dri_core.specs.Turns.{round}
use Rattle.dri_explore.specs.Ends.{is_over}
use Rattle.dri_explore.specs.Gathering.{Notes}
use Rattle.dri_explore.specs.Runs.{run_by}
use Rattle.dri_explore.specs.declared.ends.Ends.{Ends}
use Rattle.dri_explore.proofs.Choosing.{round_may}
use Rattle.dri_explore.proofs.Finding.{Gathers, cut_told, gathered, gathers_open, gathers_over, gathers_start}
use Rattle.dri_explore.proofs.Steps.{node_at}
use Rattle.dri_explore.proofs.exploring.gather.Goals.{then-branch+in_ok-note, else-branch}
use Rattle.dri_world.specs.Courses.{Course, MayTake}
use Rattle.dri_explore.proofs.exploring.gather.Goals as goal

pub loop-i-init : goal.loop-i-init
loop-i-init c = gathers_start (arc_value c.args.scene.now) c.args.level.now c.args.found.now c.requires.found

pub replayed-requires-clause-may : goal.replayed-requires-clause-may
replayed-requires-clause-may c = (node_at (arc_value c.args.scene.now) c.args.level.now c.loop-i.i c.get.result.now c.requires.level c.get.ensures).kept.may

pub is_over-requires-clause-may : goal.is_over-requires-clause-may
is_over-requires-clause-may c = subst (λ items. All (MayTake c.in_ok-world.world.scene) items) (sym c.requires.turns) (subst (λ (w : Course). All (MayTake w.scene) (round (arc_value c.args.scene.now))) (sym c.in_ok-world.ensures) (round_may (arc_value c.args.scene.now)))

pub loop-i-preserved : goal.loop-i-preserved
loop-i-preserved c = let s = arc_value c.args.scene.now in
    let level = c.args.level.now in
    let node = c.get.result.now in
    let told : is_over s (run_by s node.items) ≡ c.in_ok-is_over.field-0 = ap (λ (w : Course). is_over w.scene w.events) (sym c.in_ok-world.ensures) ∙ sym c.in_ok-is_over.ensures.told in
    elim c.if-branch.branch [
      | then-branch+in_ok-note w ↦
          let same = c.in_ok-is_over.ensures.same w.if-branch.true ∙ c.in_ok-world.ensures in
          let notes = subst (λ (x : Course). Notes x.scene c.loop-i.found w.note.new.self (journal_of x.events)) same w.in_ok-note.ensures in
          subst (λ (f : Ends). Gathers s level (c.loop-i.i + 1) c.args.found.now f c.if-branch.cut) (sym w.found-is) (subst (λ (b : Bool). Gathers s level (c.loop-i.i + 1) c.args.found.now w.note.new.self b) (sym w.cut-is)
          (gathers_over s level c.loop-i.i node c.args.found.now c.loop-i.found w.note.new.self c.loop-i.cut c.requires.in_range c.requires.level c.get.ensures c.loop-i.invariant (told ∙ w.if-branch.true) notes))
      | else-branch w ↦
          subst (λ (f : Ends). Gathers s level (c.loop-i.i + 1) c.args.found.now f c.if-branch.cut) (sym w.found-is) (subst (λ (b : Bool). Gathers s level (c.loop-i.i + 1) c.args.found.now c.loop-i.found b) (sym w.cut-is)
          (gathers_open s level c.loop-i.i node c.args.found.now c.loop-i.found c.loop-i.cut c.requires.in_range c.requires.level c.get.ensures c.loop-i.invariant (told ∙ w.if-branch.false)))
    ]

pub returns-clause-found : goal.returns-clause-found
returns-clause-found c = gathered (arc_value c.args.scene.now) c.args.level.now c.loop-i.i c.args.found.now c.loop-i.found c.loop-i.cut c.requires.level (omega (arith, c.loop-i-test.false, c.len-i-end.ensures)) c.loop-i.invariant

pub returns-clause-cut : goal.returns-clause-cut
returns-clause-cut c = cut_told (arc_value c.args.scene.now) c.args.level.now c.loop-i.i c.args.found.now c.loop-i.found c.loop-i.cut c.requires.level (omega (arith, c.loop-i-test.false, c.len-i-end.ensures)) c.loop-i.invariant
