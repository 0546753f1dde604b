-- The rectangle of the clip list, and the stamp.
use Rattle.std.proofs.Common.{refl, ◌∙◌, sym, ap, pos}
use Rattle.dri_base.specs.declared.scene.ClientScript.{ClientScript}
use Rattle.dri_history.proofs.touching.drawn.Goals as goal

pub returns-in_default : goal.returns-in_default
returns-in_default c = sym (c.clips-clips.ensures (pos c.args.x) (pos c.args.y)) ∙ sym c.in_default.ensures.found

pub returns : goal.returns
returns c = (
  sym (c.clips-clips.ensures (pos c.args.x) (pos c.args.y)) ∙ sym c.in-Some.ensures.found,
  refl,
  record {
    stamp = c.stamp-stamp.ensures ∙ (λ k. c.board.ensures.given k (ap (λ (p : ClientScript). p.window) c.script.ensures.same k));
    rects = c.clips-clips.result.now;
    list = record { order = c.arranged.ensures.order; proper = c.arranged.ensures.proper; apart = c.arranged.ensures.apart; has = c.clips-clips.ensures };
    rect = c.in-Some.ensures.one;
  },
)
