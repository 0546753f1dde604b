use Rattle.std.proofs.Common.{sym, arith}
use Rattle.dri_texheap.specs.RegionStates.{heap_from}
use Rattle.dri_texheap.proofs.Choosing.{least_is, sought_none, sought_more, chosen, no_choice}
use Rattle.dri_texheap.proofs.choice.choose.Goals as goal

pub overflow_add-bound : goal.overflow_add-bound
overflow_add-bound c =
    let r = least_is (heap_from 0 c.args.used.now c.args.ages.now) c.loop-first.bound c.args.count c.in-Some-least_age.next (sym c.in-Some-least_age.ensures) in
    let a = c.requires.aged r.region in
    omega (arith, r.age, a, c.requires.small)

pub loop-first-smaller : goal.loop-first-smaller
loop-first-smaller c =
    let r = least_is (heap_from 0 c.args.used.now c.args.ages.now) c.loop-first.bound c.args.count c.in-Some-least_age.next (sym c.in-Some-least_age.ensures) in
    let a = c.requires.aged r.region in
    omega (arith, r.age, a, r.high)

pub loop-first-preserved : goal.loop-first-preserved
loop-first-preserved c =
    let r = least_is (heap_from 0 c.args.used.now c.args.ages.now) c.loop-first.bound c.args.count c.in-Some-least_age.next (sym c.in-Some-least_age.ensures) in
    let a = c.requires.aged r.region in
    record {
      sought = sought_more c.args.count (heap_from 0 c.args.used.now c.args.ages.now) c.args.k c.loop-first.bound c.in-Some-least_age.next c.loop-first.invariant.sought c.in-None.ensures.lowest (sym c.in-Some-least_age.ensures);
      high = omega (arith, r.age, a);
    }

pub loop-first-init : goal.loop-first-init
loop-first-init c = record { sought = sought_none c.args.count (heap_from 0 c.args.used.now c.args.ages.now) c.args.k; high = omega arith }

pub returns-in-None-least_age : goal.returns-in-None-least_age
returns-in-None-least_age c = absurd (no_choice (heap_from 0 c.args.used.now c.args.ages.now) c.loop-first.bound c.args.count c.args.k c.requires.k c.in-None.ensures.lowest (sym c.in-None-least_age.ensures))

pub returns-in-Some-clause-chosen : goal.returns-in-Some-clause-chosen
returns-in-Some-clause-chosen c =
    chosen c.args.count (heap_from 0 c.args.used.now c.args.ages.now) c.args.k c.loop-first.bound c.in-Some.first c.loop-first.invariant.sought c.requires.some c.in-Some.ensures.inside c.in-Some.ensures.holds c.in-Some.ensures.lowest
