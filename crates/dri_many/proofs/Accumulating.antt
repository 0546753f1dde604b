-- What was read before, in front of what is read behind it.
use Rattle.std.proofs.Common.{◌≡◌, List, [], ◌∷◌, ◌++◌, Option, Some, None, refl, sym, ap, append_assoc}
use Rattle.dri_words.specs.Words.{◌>>=◌}

abbrev pub behind : {X : Type 0} → List X → Option (List X) → Option (List X)
behind before (Some more) = Some (before ++ more)
behind before None = None

pub behind_more : {X : Type 0} (before : List X) (x : X) (r : Option (List X)) → behind before (r >>= λ more. Some (x ∷ more)) ≡ behind (before ++ x ∷ []) r
behind_more before x (Some more) = ap Some (sym (append_assoc before (x ∷ []) more))
behind_more before x None = refl
