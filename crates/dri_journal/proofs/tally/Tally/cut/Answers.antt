use Rattle.std.proofs.Common.{◌∙◌, sym, arith}
use Rattle.std.proofs.Math.ListN.{length-set}
use Rattle.std.proofs.lemmas.Option.{slice_get_within}
use Rattle.dri_journal.specs.Tallies.{is_cut}
use Rattle.dri_journal.proofs.Cutting.{cut_more, keep_more, set_other}
use Rattle.dri_journal.proofs.tally.Tally.cut.Goals.{then-is_cut, else-is_cut}
use Rattle.dri_journal.proofs.tally.Tally.cut.Goals as goal

pub loop-at-preserved : goal.loop-at-preserved
loop-at-preserved c = let t = c.loop-at.self in let n = c.loop-at.at in let is = c.loop-at.invariant in elim c.if-is_cut.branch [
  | then-is_cut w ↦ rw w.self-is (record {
    room = length-set t.standings.items n w.cut.result ∙ is.room;
    before = cut_more (is_cut c.args.windows.now c.args.whole) c.args.clients.now n c.index-clients-at.result c.args.self.now.standings.items t.standings.items is.before (is.behind n (omega arith))
        w.index.result.now w.cut.result (sym c.is_cut.ensures ∙ w.if-is_cut.true) w.index.ensures w.cut.ensures;
    behind = λ i above. set_other t.standings.items n i w.cut.result (λ e. absurd (omega (arith, above, e))) ∙ is.behind i (omega (arith, above));
    frames = is.frames;
    stood = is.stood;
  })
  | else-is_cut w ↦ rw w.self-is (record {
    room = is.room;
    before = keep_more (is_cut c.args.windows.now c.args.whole) c.args.clients.now n c.index-clients-at.result c.args.self.now.standings.items t.standings.items is.before (is.behind n (omega arith))
        (sym c.is_cut.ensures ∙ w.if-is_cut.false);
    behind = λ i above. is.behind i (omega (arith, above));
    frames = is.frames;
    stood = is.stood;
  })
]

pub returns-clause-cut : goal.returns-clause-cut
returns-clause-cut c = record {
  room = c.loop-at.invariant.room;
  each = λ i p x y at_p at_x at_y. c.loop-at.invariant.before i p x y (omega (arith, slice_get_within c.args.clients.now i p at_p, c.loop-at-test.false)) at_p at_x at_y;
}
