-- The planes of a card that follows a replay, and a client's clips on them.
use Rattle.std.proofs.Common.{◌≡◌, ◌≤◌, ◌&&◌, ℕ, ℤ, pos, negsuc, List, nat_lt, true, All, refl, ◌∙◌, sym, subst, arith}
use Rattle.std.proofs.lemmas.Bool.{and_parts, true≢false}
use Rattle.dri_base.specs.Planes.{plane}
use Rattle.dri_base.specs.Scenes.{window_of}
use Rattle.dri_base.specs.declared.colour.Rgb.{Rgb}
use Rattle.dri_base.specs.declared.scene.Window.{Window}
use Rattle.dri_base.specs.declared.shape.Rect.{Rect}
use Rattle.dri_card.specs.Contents.{Contents, HaveSides, KeepSides, Shows}
use Rattle.dri_clips.specs.Boards.{shows}
use Rattle.dri_clips.specs.Paints.{IsOnScreen}
use Rattle.dri_clips.specs.declared.touched.Paint.{Paint}
use Rattle.dri_draw.specs.Drawing.{IsScreen, StayOn, has_place}
use Rattle.dri_journal.specs.Replays.{AreCurrentClips, ReplayState, world_of}
use Rattle.dri_model.specs.Stacks.{is_window, top}
use Rattle.dri_plane.specs.Grids.{Grid}
use Rattle.dri_replay.specs.Cards.{OnlyLoaded}

-- planes of the sides of a screen
pub aligned : (card : Contents) (width height : ℕ) → HaveSides card width height → HaveSides card card.front.width card.front.height
aligned card width height s = record {
  front_width = refl;
  front_height = refl;
  back_width = s.back_width ∙ sym s.front_width;
  back_height = s.back_height ∙ sym s.front_height;
  depth_width = s.depth_width ∙ sym s.front_width;
  depth_height = s.depth_height ∙ sym s.front_height;
}

pub screen_of : (card : Contents) (width height : ℕ) → HaveSides card width height → width ≤ 1024 → height ≤ 1024 → IsScreen card
screen_of card width height s wide high = record {
  sides = aligned card width height s;
  wide = omega (arith, s.front_width, wide);
  high = omega (arith, s.front_height, high);
}

-- where a window shows is on the screen
shown_on : (width height : ℕ) (ws : List Window) (n : ℕ) (x y : ℤ) → shows width height ws n x y ≡ true → has_place (λ a b. nat_lt a width && nat_lt b height) x y ≡ true
shown_on width height ws n (pos x) (pos y) e =
    let first = and_parts (nat_lt x width) (nat_lt y height && is_window n (top ws x y)) e in
    let second = and_parts (nat_lt y height) (is_window n (top ws x y)) first.1 in
    λ k. first.0 k && second.0 k
shown_on width height ws n (pos x) (negsuc y) e = absurd (true≢false (sym e))
shown_on width height ws n (negsuc x) (pos y) e = absurd (true≢false (sym e))
shown_on width height ws n (negsuc x) (negsuc y) e = absurd (true≢false (sym e))

-- a client's clips lie on them
pub clips_stay : (v : ReplayState) (c : ℕ) (clips : List Rect) (card : Contents) → AreCurrentClips v c clips → HaveSides card v.scene.width v.scene.height → StayOn card clips
clips_stay v c clips card are s x y e = rw (s.front_width, s.front_height) (shown_on v.scene.width v.scene.height (world_of v).stack (window_of v.scene c) x y (sym (are x y) ∙ e))

-- what is loaded into the card leaves its planes
pub loaded_sides : (old new : Contents) → OnlyLoaded old new → KeepSides old new
loaded_sides old new only w h s = subst (λ (v : Contents). HaveSides v w h) (sym only) (record { front_width = s.front_width; front_height = s.front_height; back_width = s.back_width; back_height = s.back_height; depth_width = s.depth_width; depth_height = s.depth_height })

-- where only back was drawn, front shows what it showed
pub front_left : (old new : Contents) (shown : ℕ → ℕ → Rgb) → new.front ≡ old.front → Shows old shown → Shows new shown
front_left old new shown same is = subst (λ (g : Grid Rgb). g.pixels ≡ plane g.width g.height shown) (sym same) is

-- where the sides stay, paints of the screen stay on it
pub paints_kept : (a b : Contents) (ps : List Paint) → IsScreen a → KeepSides a b → All (λ p. IsOnScreen a.front.width a.front.height p.rect) ps → All (λ p. IsOnScreen b.front.width b.front.height p.rect) ps
paints_kept a b ps screen keep on = rw (s.front_width, s.front_height) on
  where
    s : HaveSides b a.front.width a.front.height
    s = keep a.front.width a.front.height screen.sides
