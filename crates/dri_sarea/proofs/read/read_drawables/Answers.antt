use Rattle.std.proofs.Common.{◌≡◌, ◌+◌, ◌*◌, ℕ, List, [], ◌∷◌, ◌++◌, length, arith, refl, sym, ◌∙◌, ap, length-append}
use Rattle.dri_sarea.specs.declared.drawable.Drawable.{Drawable}
use Rattle.dri_sarea.specs.Areas.{no_drawable}
use Rattle.dri_sarea.specs.Layouts.{drawable_fields, drawable_values}
use Rattle.dri_sarea.specs.Images.{numbers_at}
use Rattle.dri_sarea.proofs.Pieces.{size_eights}
use Rattle.dri_sarea.proofs.Reading.{read_none, read_more}
use Rattle.dri_sarea.proofs.read.read_drawables.Goals as goal

pub loop-i-init : goal.loop-i-init
loop-i-init c = record {
  values = read_none c.args.bytes.now 128 (λ i. drawable_fields) (λ k d. drawable_values d) no_drawable c.in_ok-list.list.items;
  size = ap (λ (xs : List Drawable). length xs) c.in_ok-list.ensures.items;
}

pub loop-i-preserved : goal.loop-i-preserved
loop-i-preserved c =
    let b = c.args.bytes.now in let i = c.loop-i.i in let items = c.loop-i.list.items in let more = c.push.new.self.items in
    let d : Drawable = record { stamp = c.number_at.result; flags = c.number_at-in-loop-i.result } in
    let last : numbers_at b (128 + 8 * i) drawable_fields ≡ drawable_values d = λ j. sym c.number_at.ensures.number j ∷ sym c.number_at-in-loop-i.ensures.number j ∷ [] in
    let put : more ≡ items ++ d ∷ [] = c.in_ok-push.ensures.items in
    record {
      values = read_more b 128 (128 + 8 * i) (λ i. drawable_fields) (λ k d. drawable_values d) no_drawable items more d i put c.loop-i.invariant.size (omega (arith, size_eights (λ i. drawable_fields) i (λ i. refl))) c.loop-i.invariant.values last;
      size = ap (λ (xs : List Drawable). length xs) put ∙ length-append items (d ∷ []) ∙ ap (λ (n : ℕ). n + 1) c.loop-i.invariant.size;
    }
