-- Clients at the opening, one after another.
use Rattle.std.proofs.Common.{◌≡◌, ℕ, zero, suc, List, [], ◌∷◌, ◌++◌, inl, inr, length, Some, arith, sym, ap, ◌∙◌, refl, subst}
use Rattle.std.specs.Prelude.{◌⊎◌, slice_get}
use Rattle.std.specs.Option.{option_map}
use Rattle.std.proofs.lemmas.Option.{slice_get-map, same_Some}
use Rattle.dri_base.specs.Ranges.{client_numbers}
use Rattle.dri_base.specs.declared.scene.ClientScript.{ClientScript}
use Rattle.dri_base.specs.declared.scene.Scene.{Scene}
use Rattle.dri_driver.specs.Clients.{ClientState}
use Rattle.dri_driver.specs.Opening.{IsOpening}
use Rattle.dri_core.proofs.Lists.{pushed_at}

-- one client more at the opening
pub opening_more : (s : Scene) (numbers : List ℕ) (ks : List ClientState) (i n : ℕ) (k : ClientState) → length ks ≡ i → slice_get numbers i ≡ Some n →
    ((j m : ℕ) (x : ClientState) → slice_get numbers j ≡ Some m → slice_get ks j ≡ Some x → IsOpening s m x) → IsOpening s n k →
    (j m : ℕ) (x : ClientState) → slice_get numbers j ≡ Some m → slice_get (ks ++ k ∷ []) j ≡ Some x → IsOpening s m x
opening_more s numbers ks i n k at_end at_i before is j m x at_j at_x = by_place (pushed_at ks k j x at_x)
  where
    by_place : (slice_get ks j ≡ Some x) ⊎ ((j ≡ length ks) × (k ≡ x)) → IsOpening s m x
    by_place (inl there) = before j m x at_j there
    by_place (inr last) =
        let same : n ≡ m = same_Some _ _ (sym at_i ∙ ap (slice_get numbers) (sym (last.0 ∙ at_end)) ∙ at_j) in
        subst (λ t. IsOpening s t x) same (subst (IsOpening s n) last.1 is)
