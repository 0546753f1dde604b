use Rattle.std.proofs.Common.{◌≡◌, ◌<◌, ◌+◌, ◌*◌, ℕ, List, [], ◌∷◌, ◌++◌, length, arith, ◌∙◌, ap, length-append}
use Rattle.dri_base.specs.declared.texture.TexRegion.{TexRegion}
use Rattle.dri_sarea.specs.Areas.{no_region}
use Rattle.dri_sarea.specs.Layouts.{entry_fields, entry_values}
use Rattle.dri_sarea.proofs.Pieces.{piece_good, size_eights, size_entry}
use Rattle.dri_sarea.proofs.Reading.{read_none, read_more, put_each, none_each}
use Rattle.dri_sarea.proofs.read.read_entries.Goals as goal

pub read_entry-requires-clause-good : goal.read_entry-requires-clause-good
read_entry-requires-clause-good c =
    piece_good c.args.bytes.now 2216 (2216 + 8 * c.loop-i.i) (entry_fields c.args.count) 65 c.loop-i.i (omega (arith, size_eights (entry_fields c.args.count) c.loop-i.i (size_entry c.args.count))) c.requires.good c.loop-i-test.true

pub loop-i-init : goal.loop-i-init
loop-i-init c = record {
  values = read_none c.args.bytes.now 2216 (entry_fields c.args.count) (entry_values c.args.count) no_region c.in_ok-list.list.items;
  size = ap (λ (xs : List TexRegion). length xs) c.in_ok-list.ensures.items;
  unused = λ k l. none_each c.in_ok-list.list.items no_region k c.in_ok-list.ensures.items;
}

pub loop-i-preserved : goal.loop-i-preserved
loop-i-preserved c =
    let b = c.args.bytes.now in let i = c.loop-i.i in let n = c.args.count in let items = c.loop-i.list.items in let more = c.push.new.self.items in let d = c.read_entry.result in
    let put : more ≡ items ++ d ∷ [] = c.in_ok-push.ensures.items in
    record {
      values = read_more b 2216 (2216 + 8 * i) (entry_fields n) (entry_values n) no_region items more d i put c.loop-i.invariant.size (omega (arith, size_eights (entry_fields n) i (size_entry n))) c.loop-i.invariant.values c.read_entry.ensures.values;
      size = ap (λ (xs : List TexRegion). length xs) put ∙ length-append items (d ∷ []) ∙ ap (λ (n : ℕ). n + 1) c.loop-i.invariant.size;
      unused = put_each (λ k r. n < k → r ≡ no_region) items more d no_region i put c.loop-i.invariant.size c.loop-i.invariant.unused c.read_entry.ensures.unused;
    }
