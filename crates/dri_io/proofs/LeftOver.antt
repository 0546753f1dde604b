-- What is left of a list after a prefix of it went.
use Rattle.std.proofs.Common.{◌≡◌, ℕ, ◌+◌, ◌-◌, ◌<◌, List, [], ◌++◌, length, take, drop, min, sym, ap, ◌∙◌, arith, subst}
use Rattle.std.proofs.lemmas.List.{drop-drop, drop_all, take-append-drop}
use Rattle.std.proofs.Math.Seq.{take-add}
use Rattle.std.proofs.KnownBytes.{Appends-trans}
use Rattle.std.specs.Io.KnownBytes.{Appends}
use Rattle.std.specs.declared.option.Option.{Option}

-- what is left is what was given, and what is left then
pub left_splits : (at n : ℕ) (bytes buf : List ℕ) → take n buf ≡ take n (drop at bytes) → drop at bytes ≡ take n buf ++ drop (at + n) bytes
left_splits at n bytes buf same =
    sym (take-append-drop n (drop at bytes)) ∙ ap (λ xs. take n (drop at bytes) ++ xs) (drop-drop n at bytes) ∙ ap (λ xs. xs ++ drop (at + n) bytes) (sym same)

-- nothing is given only at the end
pub none_left : (at n piece room : ℕ) (bytes : List ℕ) → n ≡ min piece (min room (length bytes - at)) → 0 < piece → 0 < room → n ≡ 0 → drop (at + n) bytes ≡ []
none_left at n piece room bytes count some room_some none = drop_all (at + n) bytes (omega arith)

-- a sink took the next bytes too
pub sent_more : (a b c : Option (List ℕ)) (bytes rest : List ℕ) (taken count : ℕ) → rest ≡ drop taken bytes → Appends a b (take taken bytes) → Appends b c (take count rest) → Appends a c (take (taken + count) bytes)
sent_more a b c bytes rest taken count is first second =
    let next : Appends b c (take count (drop taken bytes)) = subst (λ xs. Appends b c (take count xs)) is second in
    subst (Appends a c) (sym (take-add taken count bytes)) (Appends-trans a b c _ _ first next)
