-- One row more, and all of them.
use Rattle.std.proofs.Common.{arith, ◌∙◌}
use Rattle.dri_card16.proofs.Packed.{rows_more, rows_packed}
use Rattle.dri_card16.proofs.opening.packed.Goals as goal

pub loop-y-preserved : goal.loop-y-preserved
loop-y-preserved g c =
    let seen = c.loop-y.invariant in
    record {
      width = c.pack_row.ensures.width ∙ seen.width;
      height = c.pack_row.ensures.height ∙ seen.height;
      pixels = λ f shows. rows_more c.args.colours.now c.loop-y.words c.pack_row.new.words f c.loop-y.y seen.width seen.height (c.pack_row.ensures.pixels f shows) (seen.pixels f shows);
    }

pub returns-clause-pixels : goal.returns-clause-pixels
returns-clause-pixels g c = λ f shows. rows_packed c.args.colours.now c.loop-y.words f c.loop-y.y c.loop-y.invariant.width c.loop-y.invariant.height (omega arith) (c.loop-y.invariant.pixels f shows)
