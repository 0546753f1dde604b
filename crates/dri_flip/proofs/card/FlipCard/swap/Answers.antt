-- Back is shown by an exchange of the planes, or by copies.
use Rattle.std.proofs.Common.{◌∙◌, ◌||◌, Bool, sym, ap, if◌then◌else◌}
use Rattle.dri_flip.specs.Meanings.{Meaning}
use Rattle.dri_flip.specs.declared.swapped.Swapped.TheVariants.{Copied, Flipped}
use Rattle.dri_flip.specs.Calls.{fill, owed_after, touch}
use Rattle.dri_flip.proofs.Meant.{flip_alone, flip_of_paid, flip_shows, flip_sides}
use Rattle.dri_flip.proofs.Owed.{copy_count, flip_count, owed_either}
use Rattle.dri_flip.proofs.card.FlipCard.swap.Goals as goal

pub returns-then-covered_by : goal.returns-then-covered_by
returns-then-covered_by g c =
    let old = c.args.self.now in
    let rects = c.args.rects.now in
    let new = c.flip.new.self in
    let is = flip_of_paid old c.pay.new.self new c.pay.ensures.paid c.flip.ensures in
    let fills = sym c.covered_by.ensures.fill ∙ c.if-covered_by.true in
    record {
      shown = λ f shown holds shows. flip_shows old new old.front.width old.front.height rects f shown c.aligned.ensures is fills holds;
      others = flip_alone old new is;
      sides = flip_sides old new is;
      answer = sym (ap (λ (b : Bool). if b then Flipped else Copied) fills);
      owed = ap (λ (m : Meaning). m.owed) is ∙ sym (ap (λ (b : Bool). b || owed_after old (touch old rects)) fills);
      cost = flip_count old rects c.args.steps.now c.pay.new.steps (c.covered_by.ensures.touch c.if-covered_by.true) fills c.pay.ensures.cost;
    }

pub returns-else-covered_by : goal.returns-else-covered_by
returns-else-covered_by g c =
    let old = c.args.self.now in
    let rects = c.args.rects.now in
    let part = sym c.covered_by.ensures.fill ∙ c.if-covered_by.false in
    let show = c.show.ensures in
    record {
      shown = show.shown;
      others = show.others;
      sides = show.sides;
      answer = sym (ap (λ (b : Bool). if b then Flipped else Copied) part);
      owed = show.owed ∙ sym (owed_either old (touch old rects) (fill old rects) part);
      cost = copy_count old rects c.args.steps.now c.show.new.steps part show.cost;
    }
