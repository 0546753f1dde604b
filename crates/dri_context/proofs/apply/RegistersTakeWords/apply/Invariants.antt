use Rattle.std.proofs.Common.{◌≡◌, ◌+◌, ◌*◌, ◌≤◌, Some, take}
use Rattle.dri_context.specs.Reading.{IsReader, opened, run}
use Rattle.dri_context.proofs.apply.RegistersTakeWords.apply.Given as goal

abbrev pub invariant-loop-at : goal.invariant-loop-at
invariant-loop-at l = record {
  same : l.self ≡ l.fn.self;
  ran : run (Some (opened l.fn.self)) (take l.at l.words) ≡ Some l.reader;
  reader : IsReader l.reader;
  count : l.at ≤ 4 * l.reader.group + l.reader.at;
}
