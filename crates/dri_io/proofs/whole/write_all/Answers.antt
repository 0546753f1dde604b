-- The sink took the next bytes too.
use Rattle.std.proofs.Common.{◌≡◌, ◌-◌, ◌+◌, ◌∙◌, arith, subst}
use Rattle.dri_io.proofs.LeftOver.{sent_more}
use Rattle.dri_io.proofs.whole.write_all.Goals as goal

pub loop-taken-preserved : goal.loop-taken-preserved
loop-taken-preserved g c =
    let t = c.loop-taken.taken in
    let k = c.in-Ok.count in record {
      within = omega (arith, c.in-Ok.ensures.bound, c.split_at.ensures.back_len);
      prefix = sent_more _ _ _ c.args.bytes.now _ c.loop-taken.taken c.in-Ok.count c.split_at.ensures.back c.loop-taken.invariant.prefix c.in-Ok.ensures.bytes;
      later = omega (arith, c.in-Ok.ensures.cause.later);
      room = λ n enough takes.
          let before = c.loop-taken.invariant.room n enough takes in
          let after = c.in-Ok.ensures.room (n - t) (omega (arith, c.split_at.ensures.back_len)) before.1 in
          let rest : (n - t) - k ≡ n - (t + k) = omega arith in
          (after.0 ∙ before.0, subst (g.N.Sink.takes _) rest after.1);
    }
