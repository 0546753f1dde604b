-- Private parts, with another one put in.
use Rattle.std.proofs.Common.{◌≡◌, ℕ, arith, sym, inl, inr, subst}
use Rattle.std.specs.Prelude.{◌⊎◌, Option, Some}
use Rattle.std.proofs.lemmas.Bool.{cases_eq}
use Rattle.std.proofs.lemmas.Bool.Decides.{nat_tests}
use Rattle.dri_base.specs.declared.state.TexMode.{TexMode}
use Rattle.dri_base.specs.declared.state.TexMode.TheVariants as Mode_is
use Rattle.dri_core.specs.Privates.{Private, texture_used}
use Rattle.dri_core.specs.Worlds.{put}

pub put_here : (f : ℕ → Private) (c : ℕ) (p : Private) → put f c p c ≡ p
put_here f c p = grind (arith, nat_tests)

pub put_there : (f : ℕ → Private) (c : ℕ) (p : Private) (d : ℕ) → (d ≡ c → ⊥) → put f c p d ≡ f d
put_there f c p d ne = grind (arith, nat_tests)

-- what is known of a part where another's is put, if it isn't the same client
pub put_cases : (P : ℕ → Private → Type 0) (f : ℕ → Private) (c : ℕ) (p : Private) (d : ℕ) → P c p → ((d ≡ c → ⊥) → P d (f d)) → P d (put f c p d)
put_cases P f c p d here there = by_client (cases_eq d c)
  where
    by_client : (d ≡ c) ⊎ (d ≡ c → ⊥) → P d (put f c p d)
    by_client (inl same) = subst (λ k. P k (put f c p k)) (sym same) (subst (P c) (sym (put_here f c p)) here)
    by_client (inr ne) = subst (P d) (sym (put_there f c p d ne)) (there ne)

-- what holds of a part holds of it wherever it is put
pub put_keeps : (P : ℕ → Private → Type 0) (f : ℕ → Private) (c : ℕ) (p : Private) (d : ℕ) → P c p → P d (f d) → P d (put f c p d)
put_keeps P f c p d here there = put_cases P f c p d here (λ ne. there)

-- a texture that is used is the bound one
pub used_bound : (mode : TexMode) (bound : Option ℕ) (t : ℕ) → texture_used mode bound ≡ Some t → bound ≡ Some t
used_bound Mode_is.Off bound t is = absurd (cc)
used_bound Mode_is.Replace bound t is = is
used_bound Mode_is.Modulate bound t is = is
