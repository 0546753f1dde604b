-- Each word adds its number, and one that spells none ends it.
use Rattle.std.proofs.Common.{◌≡◌, List, [], ◌∷◌, ◌++◌, ℤ, ap, ◌∙◌, sym, subst, FitsSigned, w64, rules}
use Rattle.std.proofs.lemmas.Int.{to_z-of_z}
use Rattle.dri_many.specs.Lines.{numbers_of}
use Rattle.dri_many.proofs.Accumulating.{behind}
use Rattle.dri_many.proofs.Numbers.{fewer, stopped, went_on}
use Rattle.dri_many.proofs.line.numbers_of.Goals as goal

pub returns-in_default : goal.returns-in_default
returns-in_default c = stopped c.loop-words.numbers c.loop-words.words c.args.words (cc) c.in_default.ensures c.loop-words.invariant

pub loop-words-smaller : goal.loop-words-smaller
loop-words-smaller c = fewer c.loop-words.words c.in-Some.rest c.in-Some.found c.in-Some.ensures

pub loop-words-preserved : goal.loop-words-preserved
loop-words-preserved c =
    let fits : FitsSigned w64 c.in-Some.found = search rules in
    let same = to_z-of_z w64 c.in-Some.found fits in
    subst (λ (ns : List ℤ). behind ns (numbers_of c.in-Some.rest) ≡ numbers_of c.args.words) (sym (c.in_ok-push.ensures.ok ∙ ap (λ (n : ℤ). c.loop-words.numbers ++ n ∷ []) same))
    (went_on c.loop-words.numbers c.loop-words.words c.in-Some.rest c.args.words c.in-Some.found c.in-Some.ensures c.loop-words.invariant)
