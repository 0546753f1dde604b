use Rattle.std.proofs.Common.{◌≡◌, ◌<◌, List, [], ◌∷◌, ◌++◌, length, take, arith, sym, ◌∙◌, ap}
use Rattle.std.proofs.lemmas.List.{take_more}
use Rattle.dri_base.specs.Limits.{word_end}
use Rattle.dri_sarea.specs.declared.drawable.Drawable.{Drawable}
use Rattle.dri_sarea.specs.Areas.{no_drawable}
use Rattle.dri_sarea.proofs.Reading.{put_each, length_take}
use Rattle.dri_sarea.proofs.sarea.copied.Goals as goal

pub loop-drawable-preserved : goal.loop-drawable-preserved
loop-drawable-preserved c =
    let i = c.loop-drawable.drawable-index in let ds = c.args.drawables.now in let items = c.loop-drawable.list.items in let more = c.push.new.self.items in let d = c.shown.result in
    let put : more ≡ items ++ d ∷ [] = c.in_ok-push.ensures.items in
    let size : length items ≡ i = ap (λ (xs : List Drawable). length xs) c.loop-drawable.invariant.same ∙ length_take i ds (omega (arith, c.loop-drawable-test.true)) in
    record {
      same = put ∙ ap (λ (xs : List Drawable). xs ++ d ∷ []) c.loop-drawable.invariant.same ∙ ap (λ (x : Drawable). take i ds ++ x ∷ []) c.shown.ensures.same ∙ sym (take_more ds i no_drawable c.loop-drawable-test.true);
      small = put_each (λ k d. d.stamp < word_end) items more d no_drawable i put size c.loop-drawable.invariant.small c.shown.ensures.small;
    }
