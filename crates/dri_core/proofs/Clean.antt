-- What leaves a group clean: not dirty, and in the card as the client would emit it.
use Rattle.std.proofs.Common.{◌≡◌, ◌+◌, ℕ, Bool, true, false, not, Option, Some, None, arith, refl, sym, ap, ◌∙◌, subst}
use Rattle.std.specs.Prelude.{◌&&◌, if◌then◌else◌}
use Rattle.std.proofs.lemmas.Bool.{or_parts, true≢false}
use Rattle.dri_base.specs.declared.scene.Scene.{Scene}
use Rattle.dri_base.specs.declared.state.Registers.{Registers}
use Rattle.dri_base.specs.declared.state.State.{State}
use Rattle.dri_base.specs.declared.texture.BoundTexture.{BoundTexture}
use Rattle.dri_core.specs.Privates.{Private, loses, own_registers, spot_of}
use Rattle.dri_core.specs.Runs.{IsClean, OwnerIsClean}
use Rattle.dri_core.specs.Worlds.{World, put}
use Rattle.dri_core.proofs.Parts.{put_here, put_keeps}
use Rattle.dri_model.specs.Groups.{Groups, all_groups, all_where, dirtied, no_groups, with_bound}
use Rattle.dri_model.specs.Heaps as Heaps
use Rattle.dri_model.specs.Heaps.{lose}
use Rattle.dri_model.specs.Words.{loaded, registers_for}
use Rattle.dri_model.proofs.Values.{one_shade, one_flag, one_depth, one_blend, one_mode, one_wrap, one_number, one_rect}

-- a group that isn't dirty after a command wasn't, and its value is as it was
kept_shade : (old new : State) (g : Groups) → (dirtied old new g).shade ≡ false → (g.shade ≡ false) × (old.shade ≡ new.shade)
kept_shade old new g e = let h = or_parts _ _ e in (h.0, one_shade old.shade new.shade h.1)

kept_blend : (old new : State) (g : Groups) → (dirtied old new g).blend ≡ false → (g.blend ≡ false) × (old.blend ≡ new.blend)
kept_blend old new g e = let h = or_parts _ _ e in (h.0, one_blend old.blend new.blend h.1)

kept_mode : (old new : State) (g : Groups) → (dirtied old new g).mode ≡ false → (g.mode ≡ false) × (old.tex_mode ≡ new.tex_mode)
kept_mode old new g e = let h = or_parts _ _ e in (h.0, one_mode old.tex_mode new.tex_mode h.1)

kept_wrap : (old new : State) (g : Groups) → (dirtied old new g).wrap ≡ false → (g.wrap ≡ false) × (old.wrap ≡ new.wrap)
kept_wrap old new g e = let h = or_parts _ _ e in (h.0, one_wrap old.wrap new.wrap h.1)

kept_bound : (old new : State) (g : Groups) → (dirtied old new g).bound ≡ false → (g.bound ≡ false) × (old.bound ≡ new.bound)
kept_bound old new g e = let h = or_parts _ _ e in (h.0, one_number old.bound new.bound h.1)

kept_scissor : (old new : State) (g : Groups) → (dirtied old new g).scissor ≡ false → (g.scissor ≡ false) × (old.scissor ≡ new.scissor)
kept_scissor old new g e = let h = or_parts _ _ e in (h.0, one_rect old.scissor new.scissor h.1)

parts_of : (a b : Bool) → not (a && b) ≡ false → (not a ≡ false) × (not b ≡ false)
parts_of true true e = (refl, refl)
parts_of true false e = absurd (true≢false e)
parts_of false b e = absurd (true≢false e)

kept_depth : (old new : State) (g : Groups) → (dirtied old new g).depth ≡ false → (g.depth ≡ false) × (old.depth_func ≡ new.depth_func) × (old.depth_write ≡ new.depth_write)
kept_depth old new g e = let h = or_parts _ _ e in let p = parts_of _ _ h.1 in (h.0, one_depth old.depth_func new.depth_func p.0, one_flag old.depth_write new.depth_write p.1)

-- a spot that isn't lost is as it was
pub kept_spot : (f : ℕ → Bool) (placed : ℕ → Option Heaps.Spot) (bound : Option ℕ) → loses f (spot_of placed bound) ≡ false → spot_of (λ t. lose f (placed t)) bound ≡ spot_of placed bound
kept_spot f placed None e = refl
kept_spot f placed (Some t) e = by_run (placed t) e
  where
    by_run : (o : Option Heaps.Spot) → loses f o ≡ false → lose f o ≡ o
    by_run None e = refl
    by_run (Some run) e = rw e refl

-- where all groups are dirty nothing is said
pub all_dirty : (own card : Registers) → IsClean all_groups own card
all_dirty own card = record {
  shade = λ e. absurd (true≢false e);
  depth_func = λ e. absurd (true≢false e);
  depth_write = λ e. absurd (true≢false e);
  blend = λ e. absurd (true≢false e);
  mode = λ e. absurd (true≢false e);
  wrap = λ e. absurd (true≢false e);
  bound = λ e. absurd (true≢false e);
  scissor = λ e. absurd (true≢false e);
}

-- all groups may become dirty; the bound texture may be another where its group becomes dirty
pub more_dirty : (g : Groups) (all other : Bool) (own card : Registers) (bound : Option BoundTexture) → (all ≡ false → IsClean g own card) → (other ≡ false → bound ≡ own.bound) →
    IsClean (with_bound other (all_where all g)) (record own { bound = bound }) card
more_dirty g true other own card bound clean same = record {
  shade = λ e. absurd (true≢false e);
  depth_func = λ e. absurd (true≢false e);
  depth_write = λ e. absurd (true≢false e);
  blend = λ e. absurd (true≢false e);
  mode = λ e. absurd (true≢false e);
  wrap = λ e. absurd (true≢false e);
  bound = λ e. absurd (true≢false e);
  scissor = λ e. absurd (true≢false e);
}
more_dirty g false other own card bound clean same = record {
  shade = (clean refl).shade;
  depth_func = (clean refl).depth_func;
  depth_write = (clean refl).depth_write;
  blend = (clean refl).blend;
  mode = (clean refl).mode;
  wrap = (clean refl).wrap;
  bound = λ e. let h = or_parts g.bound other e in (clean refl).bound h.0 ∙ sym (same h.1);
  scissor = (clean refl).scissor;
}

-- the dirty groups are loaded
picked : {A : Type 0} (b : Bool) (new old : A) → (b ≡ false → old ≡ new) → (if b then new else old) ≡ new
picked true new old same = refl
picked false new old same = same refl

pub emitted_clean : (g : Groups) (own card : Registers) → IsClean g own card → IsClean no_groups own (loaded g own card)
emitted_clean g own card clean = record {
  shade = λ e. picked g.shade own.shade card.shade clean.shade;
  depth_func = λ e. picked g.depth own.depth_func card.depth_func clean.depth_func;
  depth_write = λ e. picked g.depth own.depth_write card.depth_write clean.depth_write;
  blend = λ e. picked g.blend own.blend card.blend clean.blend;
  mode = λ e. picked g.mode own.tex_mode card.tex_mode clean.mode;
  wrap = λ e. picked g.wrap own.wrap card.wrap clean.wrap;
  bound = λ e. picked g.bound own.bound card.bound clean.bound;
  scissor = λ e. picked g.scissor own.scissor card.scissor clean.scissor;
}

-- the state changes, and the groups of what differs are dirty
pub changed_clean : (old new : State) (g : Groups) (bound_to : Option ℕ → Option BoundTexture) (card : Registers) →
    IsClean g (registers_for old (bound_to old.bound)) card → IsClean (dirtied old new g) (registers_for new (bound_to new.bound)) card
changed_clean old new g bound_to card clean = record {
  shade = λ e. let h = kept_shade old new g e in clean.shade h.0 ∙ h.1;
  depth_func = λ e. let h = kept_depth old new g e in clean.depth_func h.0 ∙ h.1;
  depth_write = λ e. let h = kept_depth old new g e in clean.depth_write h.0 ∙ h.2;
  blend = λ e. let h = kept_blend old new g e in clean.blend h.0 ∙ h.1;
  mode = λ e. let h = kept_mode old new g e in clean.mode h.0 ∙ h.1;
  wrap = λ e. let h = kept_wrap old new g e in clean.wrap h.0 ∙ h.1;
  bound = λ e. let h = kept_bound old new g e in clean.bound h.0 ∙ ap bound_to h.1;
  scissor = λ e. let h = kept_scissor old new g e in clean.scissor h.0 ∙ h.1;
}

-- client c gets another part, which is clean where it is the owner's
pub put_clean : (s : Scene) (w : World) (c : ℕ) (p : Private) → OwnerIsClean s w → (w.owner ≡ c + 1 → IsClean p.dirty (own_registers s c p) w.registers) →
    (d : ℕ) → w.owner ≡ d + 1 → IsClean (put w.client c p d).dirty (own_registers s d (put w.client c p d)) w.registers
put_clean s w c p clean here d = put_keeps (λ k q. w.owner ≡ k + 1 → IsClean q.dirty (own_registers s k q) w.registers) w.client c p d here (clean d)

-- client c, the owner, gets another part, and the card other registers
pub owned_clean : (s : Scene) (f : ℕ → Private) (c owner : ℕ) (p : Private) (card : Registers) → owner ≡ c + 1 → IsClean p.dirty (own_registers s c p) card →
    (d : ℕ) → owner ≡ d + 1 → IsClean (put f c p d).dirty (own_registers s d (put f c p d)) card
owned_clean s f c owner p card owns clean d own = subst (λ k. IsClean (put f c p k).dirty (own_registers s k (put f c p k)) card) same (subst (λ q. IsClean q.dirty (own_registers s c q) card) (sym (put_here f c p)) clean)
  where
    same : c ≡ d
    same = omega (arith, owns, own)
