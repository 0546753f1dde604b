use Rattle.std.proofs.Common.{◌≡◌, ◌++◌, drop, true}
use Rattle.dri_sarea.specs.Images.{written, are_held}
use Rattle.dri_sarea.proofs.write.put_fields.Given as goal

abbrev pub invariant-loop-i : goal.invariant-loop-i
invariant-loop-i l = record {
  put : l.out.items ++ written (drop l.i l.fields) (drop l.i l.values) ≡ l.fn.out.items ++ written l.fields l.values;
  held : are_held (drop l.i l.fields) (drop l.i l.values) ≡ true;
}
