use Rattle.std.proofs.Common.{◌≡◌, ◌+◌, ◌++◌, [], ◌∷◌, length, take}
use Rattle.dri_context.proofs.emit.EmitWords.group.Given as goal

abbrev pub invariant-loop-value : goal.invariant-loop-value
invariant-loop-value l = record {
  words : l.self ≡ (l.fn.self ++ (0x52000000 + l.number) ∷ []) ++ take l.value-index l.values;
  len : length l.self ≡ length l.fn.self + 1 + l.value-index;
}
