-- What is a line is drawn as one, and what isn't as a triangle.
use Rattle.std.proofs.Common.{if◌then◌else◌, subst, sym, ◌*◌, ◌+◌, ◌∙◌, ◌≡◌, ◌≤◌, true, false}
use Rattle.dri_card16.specs.Lines.{is_line, line_places}
use Rattle.dri_card16.specs.Widened.{seen}
use Rattle.dri_card16.proofs.Drawn16.{drawn_as}
use Rattle.dri_card16.proofs.drawing.draw16.Goals as goal
use Rattle.dri_model.specs.Words.{card_image, rules_in}
use Rattle.dri_plane.specs.Runs.{HoldPairs}
use Rattle.dri_walk.specs.Clips.{covered_places}
use Rattle.dri_walk.specs.Samplings.{byte_in}

pub returns-then-is_line-clause-pairs : goal.returns-then-is_line-clause-pairs
returns-then-is_line-clause-pairs g c = λ f holds.
    let r = c.args.registers.now in
    let t = c.args.triangle.now in
    let new = c.draw_line.new.surface in
    let line : is_line t ≡ true = sym c.is_line.ensures ∙ c.if-is_line.true in
    subst (λ b. HoldPairs (seen new.back) new.depth (drawn_as b (rules_in r) (card_image (byte_in c.args.memory.now) r.bound) t c.args.clip.now c.args.origin f)) (sym line) (c.draw_line.ensures.pairs f holds)

pub returns-else-is_line-clause-pairs : goal.returns-else-is_line-clause-pairs
returns-else-is_line-clause-pairs g c = λ f holds.
    let r = c.args.registers.now in
    let t = c.args.triangle.now in
    let new = c.draw_triangle.new.surface in
    let line : is_line t ≡ false = sym c.is_line.ensures ∙ c.if-is_line.false in
    subst (λ b. HoldPairs (seen new.back) new.depth (drawn_as b (rules_in r) (card_image (byte_in c.args.memory.now) r.bound) t c.args.clip.now c.args.origin f)) (sym line) (c.draw_triangle.ensures.pairs f holds)

pub returns-then-is_line-clause-bound : goal.returns-then-is_line-clause-bound
returns-then-is_line-clause-bound g c =
    let t = c.args.triangle.now in
    let line : is_line t ≡ true = sym c.is_line.ensures ∙ c.if-is_line.true in
    subst (λ b. c.draw_line.new.steps ≤ c.args.steps.now + 4 * (if b then line_places t c.args.clip.now c.args.origin else covered_places t c.args.clip.now c.args.origin)) (sym line) c.draw_line.ensures.bound

pub returns-else-is_line-clause-bound : goal.returns-else-is_line-clause-bound
returns-else-is_line-clause-bound g c =
    let t = c.args.triangle.now in
    let line : is_line t ≡ false = sym c.is_line.ensures ∙ c.if-is_line.false in
    subst (λ b. c.draw_triangle.new.steps ≤ c.args.steps.now + 4 * (if b then line_places t c.args.clip.now c.args.origin else covered_places t c.args.clip.now c.args.origin)) (sym line) c.draw_triangle.ensures.bound
