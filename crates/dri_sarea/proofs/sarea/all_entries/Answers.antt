use Rattle.std.proofs.Common.{◌≡◌, ◌<◌, List, length, arith, ◌∙◌, ap}
use Rattle.std.specs.Prelude.{replicate}
use Rattle.std.proofs.lemmas.List.{length-replicate}
use Rattle.dri_base.specs.declared.texture.TexRegion.{TexRegion}
use Rattle.dri_texheap.specs.RegionStates.{heap_of}
use Rattle.dri_texheap.specs.Ring.{entry}
use Rattle.dri_sarea.specs.Areas.{no_region}
use Rattle.dri_sarea.proofs.Making.{entries_is, no_entries, set_length, set_here, set_other, set_each}
use Rattle.dri_sarea.proofs.sarea.all_entries.Goals as goal

pub loop-i-init : goal.loop-i-init
loop-i-init c =
    let list = c.in_ok-list.list.items in
    let e : list ≡ replicate 65 no_region = c.in_ok-list.ensures.items_if_clones_equal (λ y h. h) in
    record {
      size = ap (λ (xs : List TexRegion). length xs) e ∙ length-replicate 65 no_region;
      set = λ k l. absurd (omega (arith, l));
      left = λ k l. no_entries list e k;
      small = λ k. let z = ap (λ (r : TexRegion). r.age) (no_entries list e k) in omega (arith, z);
    }

pub loop-i-preserved : goal.loop-i-preserved
loop-i-preserved c =
    let i = c.loop-i.i in let list = c.loop-i.list.items in let r = c.entry.result in
    let room : i < length list = omega (arith, c.loop-i.invariant.size, c.loop-i-test.true, c.count-i-end.ensures.count, c.count-i-end.ensures.heap.most) in
    record {
      size = set_length list i r ∙ c.loop-i.invariant.size;
      set = set_here list i r (entry c.args.regions.now.count (heap_of c.args.regions.now)) room c.entry.ensures.entry c.loop-i.invariant.set;
      left = λ k l. set_other list i k r (λ e. absurd (omega (arith, e, l))) ∙ c.loop-i.invariant.left k (omega (arith, l));
      small = set_each list i r room c.entry.ensures.small c.loop-i.invariant.small;
    }

pub returns-clause-entries : goal.returns-clause-entries
returns-clause-entries c = entries_is c.loop-i.list.items c.args.regions.now.count c.loop-i.i (heap_of c.args.regions.now) c.count-i-end.ensures.heap.most c.loop-i.invariant.size (omega (arith, c.count-i-end.ensures.count, c.loop-i-test.false, c.loop-i.auto.i-end)) c.loop-i.invariant.set c.loop-i.invariant.left
