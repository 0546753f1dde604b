-- What a client draws with: its state and its texture.
use Rattle.std.proofs.Common.{◌≡◌, ℕ, List, Option, Some, None, Bor, refl}
use Rattle.std.specs.Prelude.{◌↔◌, IsSome}
use Rattle.std.specs.Option.{option_copied}
use Rattle.dri_base.proofs.RangeLemmas.{well_formed}
use Rattle.dri_base.specs.Ranges.{InRange}
use Rattle.dri_base.specs.Scenes.{commands_of}
use Rattle.dri_base.specs.States.{state_at}
use Rattle.dri_base.specs.Texels.{texture_bound, texture_in}
use Rattle.dri_base.specs.declared.journal.Entry.{Entry}
use Rattle.dri_base.specs.declared.scene.Scene.{Scene}
use Rattle.dri_base.specs.declared.state.TexMode.{TexMode}
use Rattle.dri_base.specs.declared.texture.Texture.{Texture}
use Rattle.dri_core.specs.Privates.{texture_used}
use Rattle.dri_core.specs.Runs.{HoldRun, after}
use Rattle.dri_core.proofs.Parts.{used_bound}
use Rattle.dri_core.proofs.Sound.{sound_after}

-- a client keeps the state of its script at its next command
pub own_state : (s : Scene) (j : List Entry) (c : ℕ) → InRange s → HoldRun s j → ((after s j).client c).state ≡ state_at (commands_of s c) ((after s j).client c).place
own_state s j c good run = (sound_after s j (well_formed s good) run).main.state c

-- a texture that is used is bound, so it is found
pub found_where_used : (ps : List Texture) (mode : TexMode) (bound : Option ℕ) (r : Option (Bor Texture)) → ((t : ℕ) → bound ≡ Some t → IsSome (texture_in ps t)) → option_copied r ≡ texture_bound ps (texture_used mode bound) → IsSome r ↔ IsSome (texture_used mode bound)
found_where_used ps mode bound r own is = by_use (texture_used mode bound) refl r is
  where
    by_use : (o : Option ℕ) → texture_used mode bound ≡ o → (q : Option (Bor Texture)) → option_copied q ≡ texture_bound ps o → IsSome q ↔ IsSome o
    by_use None e None f = (λ some. some, λ some. some)
    by_use None e (Some x) f = absurd (cc)
    by_use (Some t) e None f = (λ some. absurd (cc), λ some. absurd (none_found (texture_in ps t) f (own t (used_bound mode bound t e))))
      where
        none_found : (o : Option Texture) → None ≡ o → IsSome o → ⊥
        none_found None e some = cc
        none_found (Some p) e some = cc
    by_use (Some t) e (Some x) f = (λ some. refl, λ some. refl)
