-- The clips and the triangle of a client, as jobs take them.
use Rattle.std.proofs.Common.{◌≡◌, ◌-ℤ◌, ℕ, pos, List, if◌then◌else◌, Option, Some, None, IfSome, refl, ◌∙◌, ap}
use Rattle.dri_base.specs.Fragments.{fragment, rules_of}
use Rattle.dri_base.specs.Ranges.{IsPlace}
use Rattle.dri_base.specs.Scenes.{textures_of, window_of}
use Rattle.dri_base.specs.Texels.{own_image, texture_bound}
use Rattle.dri_base.specs.declared.colour.Pixel.{Pixel}
use Rattle.dri_base.specs.declared.shape.Point.{Point}
use Rattle.dri_base.specs.declared.shape.Rect.{Rect}
use Rattle.dri_base.specs.declared.shape.Triangle.{Triangle}
use Rattle.dri_base.specs.declared.state.State.{State}
use Rattle.dri_base.specs.declared.texture.BoundTexture.{BoundTexture}
use Rattle.dri_base.specs.declared.texture.Texture.{Texture}
use Rattle.dri_journal.specs.Replays.{ReplayState, world_of}
use Rattle.dri_journal.specs.declared.deed.Deed.TheVariants as Deed_is
use Rattle.dri_meaning.specs.Canvases.{bound_first}
use Rattle.dri_meaning.specs.Scripts.{HasTexels}
use Rattle.dri_model.specs.Groups.{all_groups}
use Rattle.dri_model.specs.Stacks.{origin}
use Rattle.dri_model.specs.Words.{IsBoundInRange, IsScissorInRange, Spelled, emitted_words, registers_for}
use Rattle.dri_replay.specs.Makings.{back_made, state_now}
use Rattle.dri_ring.specs.Follows.{AreClipsNow, IsTriangleJob}
use Rattle.dri_ring.specs.Jobs.{back_after, spelled_rules}
use Rattle.dri_ring.specs.declared.job.Job.TheVariants as Job_is
use Rattle.dri_ring.proofs.Spells.{rules_spelled}

-- a texture with texels has sides in range
bound_range : (o : Option Texture) → IfSome o HasTexels → IsBoundInRange (bound_first o)
bound_range None whole = tt
bound_range (Some t) whole = (whole.wide, whole.high)

-- a triangle with the words of its client's own state
pub triangle_is : (v : ReplayState) (c : ℕ) (t : Triangle) (clips : List Rect) (corner : Point) (words : List ℕ) (state : State) (image : Option Texture) (bound : Option BoundTexture) →
    AreClipsNow v c clips → (corner.x, corner.y) ≡ origin (world_of v).stack (window_of v.scene c) → IsPlace corner.x → IsPlace corner.y →
    state ≡ state_now v c → IsScissorInRange state.scissor → image ≡ texture_bound (textures_of v.scene c) state.bound → IfSome image HasTexels → bound ≡ bound_first image → words ≡ emitted_words all_groups state bound →
    IsTriangleJob v c t (Job_is.Draw clips corner words c state.bound t)
triangle_is v c t clips corner words state image bound are stands px py own scissor found whole placed emitted = record {
  good = (are.within, record { spelled = spelled; all = refl; bound = placed ∙ ap bound_first found });
  drawable = λ range. (px, py, range);
  front = λ f shown x y. refl;
  back = back;
}
  where
    spelled : Spelled words
    spelled = record { groups = all_groups; registers = registers_for state bound; bound = rw placed (bound_range image whole); scissor = scissor; spells = emitted }

    rules : spelled_rules words ≡ rules_of (state_now v c)
    rules = rules_spelled words spelled refl ∙ ap rules_of own

    back : (f : ℕ → ℕ → Pixel) (x y : ℕ) → back_after v.scene (Job_is.Draw clips corner words c state.bound t) f x y ≡ back_made v c (Deed_is.Triangle t) f x y
    back f x y = λ k. if are.has x y k then fragment (rules k) (own_image (textures_of v.scene c) (own k).bound) t (pos x -ℤ (stands k).0) (pos y -ℤ (stands k).1) (f x y) else f x y
