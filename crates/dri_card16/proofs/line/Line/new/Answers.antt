-- Which axis is the major one.
use Rattle.std.proofs.Common.{true, false, if◌then◌else◌, sym, ap, ◌∙◌, subst}
use Rattle.dri_card16.specs.Dots.{IsLineInRange}
use Rattle.dri_card16.specs.Lines.{exchanged, rising}
use Rattle.dri_card16.proofs.LineParts.{rising_in_range}
use Rattle.dri_card16.proofs.line.Line.new.Goals as goal

pub returns-then-is_x_major-clause-value : goal.returns-then-is_x_major-clause-value
returns-then-is_x_major-clause-value c =
    let t = c.args.triangle.now in
    c.rising.ensures ∙ sym (ap (λ b. if b then rising true t.c.colour t.a t.b else rising false t.c.colour (exchanged t.a) (exchanged t.b)) (sym c.is_x_major.ensures ∙ c.if-is_x_major.true))

pub returns-then-is_x_major-clause-in_range : goal.returns-then-is_x_major-clause-in_range
returns-then-is_x_major-clause-in_range c =
    let t = c.args.triangle.now in
    subst IsLineInRange (sym c.rising.ensures) (rising_in_range true t.c.colour t.a t.b c.requires.0 c.requires.1)

pub returns-else-is_x_major-clause-value : goal.returns-else-is_x_major-clause-value
returns-else-is_x_major-clause-value c =
    let t = c.args.triangle.now in
    c.rising-else-is_x_major.ensures
    ∙ (λ i. rising false t.c.colour (c.exchanged.ensures i) (c.exchanged-else-is_x_major.ensures i))
    ∙ sym (ap (λ b. if b then rising true t.c.colour t.a t.b else rising false t.c.colour (exchanged t.a) (exchanged t.b)) (sym c.is_x_major.ensures ∙ c.if-is_x_major.false))

pub returns-else-is_x_major-clause-in_range : goal.returns-else-is_x_major-clause-in_range
returns-else-is_x_major-clause-in_range c =
    let t = c.args.triangle.now in
    subst IsLineInRange (sym (c.rising-else-is_x_major.ensures ∙ (λ i. rising false t.c.colour (c.exchanged.ensures i) (c.exchanged-else-is_x_major.ensures i))))
    (rising_in_range false t.c.colour (exchanged t.a) (exchanged t.b) (c.requires.0.1, c.requires.0.0) (c.requires.1.1, c.requires.1.0))
