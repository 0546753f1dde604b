-- The run's first region is in use.
use Rattle.std.proofs.Common.{◌≡◌, ◌≤◌, ℕ, true, Ok, arith, ap, refl, subst, sym, ◌∙◌}
use Rattle.std.proofs.lemmas.Bool.Decides.{nat_tests}
use Rattle.dri_model.specs.Heaps.{Heap, Run, allocated, in_run, is_place_for}
use Rattle.dri_texheap.specs.RegionStates.{heap_of}
use Rattle.dri_client.proofs.spots.allocated.Goals as goal

first_in : (run : Run) → 1 ≤ run.count → in_run run run.first ≡ true
first_in run some = grind (arith, nat_tests)

first_used : (n : ℕ) (h : Heap) (run : Run) → 1 ≤ run.count → (allocated n h run).used run.first ≡ true
first_used n h run some = rw (first_in run some) refl

pub mark_shared-requires : goal.mark_shared-requires
mark_shared-requires c =
    let done : c.allocate.result ≡ Ok c.unwrap-run.result = c.unwrap-run.ensures in
    let run = c.unwrap-run.result in
    let some : 1 ≤ run.count = omega (arith, (rw done at c.allocate.ensures.size), c.regions_for.ensures, c.requires.some) in
    let used : (heap_of c.allocate.new.self).used run.first ≡ true =
    ap (λ (h : Heap). h.used run.first) (rw done at c.allocate.ensures.heap) ∙ first_used c.args.regions.now.count (heap_of c.args.regions.now) run some in
    record { in_use = ap (λ (r : Run). (heap_of c.allocate.new.self).used r.first) c.run.view_is ∙ used }

pub returns-clause-start : goal.returns-clause-start
returns-clause-start c =
    let done : c.allocate.result ≡ Ok c.unwrap-run.result = c.unwrap-run.ensures in
    let run = c.unwrap-run.result in
    subst (λ n. is_place_for c.args.regions.now.count (heap_of c.args.regions.now) n run.first ≡ true) (sym (rw done at c.allocate.ensures.size)) (rw done at c.allocate.ensures.place)
