use Rattle.std.proofs.Common.{◌≡◌, ◌∙◌, None, Some, ap, false, subst, sym}
use Rattle.dri_core.specs.Turns.{all_pass, item_event}
use Rattle.dri_explore.proofs.Walking.{did_event, passed_event, passes_more, passes_not, stays}
use Rattle.dri_world.specs.Courses.{Course, core_of}
use Rattle.dri_explore.proofs.playing.is_over.Goals as goal

pub returns-in-Did-clause-told : goal.returns-in-Did-clause-told
returns-in-Did-clause-told c = let w = c.args.world.now in
    let item = c.get.result.now in
    let made : item_event w.scene (core_of w) item ≡ Some c.in-Did.field-0 = ap (λ (x : Course). item_event x.scene (core_of x) item) (sym c.loop-i.invariant.same) ∙ did_event _ _ (sym c.in-Did.is ∙ c.in_ok-take.ensures.told) in
    sym (subst (λ items. all_pass w.scene (core_of w) items ≡ false) c.requires.turns (passes_not w.scene (core_of w) c.args.turns.now c.loop-i.i item c.in-Did.field-0 c.get.ensures made))

pub loop-i-preserved : goal.loop-i-preserved
loop-i-preserved c = let w = c.args.world.now in
    let item = c.get.result.now in
    let none = passed_event _ (sym c.in-Passed.is ∙ c.in_ok-take.ensures.told) in
    let passed : item_event w.scene (core_of w) item ≡ None = ap (λ (x : Course). item_event x.scene (core_of x) item) (sym c.loop-i.invariant.same) ∙ none in
    record {
      same = stays c.loop-i.world c.take.new.self _ none c.in_ok-take.ensures.made ∙ c.loop-i.invariant.same;
      passed = passes_more w.scene (core_of w) c.args.turns.now c.loop-i.i item c.get.ensures c.loop-i.invariant.passed passed;
    }
