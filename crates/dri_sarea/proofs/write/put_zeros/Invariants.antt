use Rattle.std.proofs.Common.{◌≡◌, ◌++◌}
use Rattle.dri_sarea.specs.Layouts.{zero_fields, zero_values}
use Rattle.dri_sarea.specs.Images.{written}
use Rattle.dri_sarea.proofs.write.put_zeros.Given as goal

abbrev pub invariant-loop : goal.invariant-loop
invariant-loop l = l.out.items ≡ l.fn.out.items ++ written (zero_fields l.counter) (zero_values l.counter)
