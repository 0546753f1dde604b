-- What holds of each texture holds of the one that is found.
use Rattle.std.proofs.Common.{ℕ, List, [], ◌∷◌, All, IfSome, inl, inr, sym, subst}
use Rattle.std.proofs.lemmas.Bool.Decides.{eqb_tells}
use Rattle.std.proofs.lemmas.List.Elements.{All-head, All-tail}
use Rattle.dri_base.specs.declared.texture.Texture.{Texture}
use Rattle.dri_base.specs.Texels.{texture_in}
use Rattle.dri_meaning.specs.Scripts.{HasTexels}
use Rattle.dri_meaning.proofs.bound.texture_bound.Goals as goal

found_has : (ps : List Texture) (t : ℕ) → All HasTexels ps → IfSome (texture_in ps t) HasTexels
found_has [] t all = tt
found_has (p ∷ ps) t all =
    elim (eqb_tells p.number t) as (λ _. IfSome (texture_in (p ∷ ps) t) HasTexels) [
      | inl same ↦ rw same.0 (All-head HasTexels p ps all)
      | inr other ↦ rw other.0 (found_has ps t (All-tail HasTexels p ps all))
    ]

pub returns-in-Some-clause-whole : goal.returns-in-Some-clause-whole
returns-in-Some-clause-whole c = subst (λ o. IfSome o HasTexels) (sym c.texture_in.ensures) (found_has c.args.textures.now c.in-Some.number c.requires)
