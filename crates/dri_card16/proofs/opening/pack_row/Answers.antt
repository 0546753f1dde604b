-- One column more, and all of them.
use Rattle.std.proofs.Common.{arith, ◌∙◌}
use Rattle.dri_card16.proofs.Packed.{column_packed, row_packed}
use Rattle.dri_card16.proofs.opening.pack_row.Goals as goal

pub loop-x-preserved : goal.loop-x-preserved
loop-x-preserved g c =
    let seen = c.loop-x.invariant in
    record {
      width = c.put.ensures.width ∙ seen.width;
      height = c.put.ensures.height ∙ seen.height;
      pixels = λ f shows. column_packed c.args.colours.now c.args.words.now c.loop-x.words c.put.new.self f c.loop-x.x c.args.y c.get.result c.pack-word.result seen.width seen.height (omega arith) c.requires.row
          c.get.ensures.pixel c.pack-word.ensures c.put.ensures.pixels shows (seen.pixels f shows);
    }

pub returns-clause-pixels : goal.returns-clause-pixels
returns-clause-pixels g c = λ f shows. row_packed c.args.words.now c.loop-x.words f c.loop-x.x c.args.y (omega arith) (c.loop-x.invariant.pixels f shows)
