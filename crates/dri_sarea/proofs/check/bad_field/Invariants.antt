use Rattle.std.proofs.Common.{◌≡◌, ◌+◌, drop}
use Rattle.dri_sarea.specs.Layouts.{size}
use Rattle.dri_sarea.specs.Images.{first_bad}
use Rattle.dri_sarea.proofs.check.bad_field.Given as goal

abbrev pub invariant-loop-field : goal.invariant-loop-field
invariant-loop-field l = record {
  passed : first_bad l.bytes l.at l.fields ≡ first_bad l.bytes l.place (drop l.field-index l.fields);
  room : l.place + size (drop l.field-index l.fields) ≡ l.at + size l.fields;
}
