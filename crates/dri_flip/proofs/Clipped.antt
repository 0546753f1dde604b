-- The rectangles of a window's clips, as the card takes them.
use Rattle.std.proofs.Common.{◌≡◌, ◌<◌, ◌≤◌, ℕ, ℤ, pos, negsuc, List, map, take, length, get_or, ◌&&◌, nat_lt, All, AllPairs, ◌∙◌, sym, ap, arith}
use Rattle.std.specs.List.{AllByRecursion}
use Rattle.std.proofs.lemmas.Bool.{and_parts, true≢false}
use Rattle.std.proofs.lemmas.Bool.Decides.{nat_tests}
use Rattle.std.proofs.lemmas.List.{get_or-map, length-map, take_all}
use Rattle.std.proofs.lemmas.List.Elements.{All-map}
use Rattle.dri_base.specs.declared.scene.Window.{Window}
use Rattle.dri_base.specs.declared.shape.ClipRect.{ClipRect}
use Rattle.dri_base.specs.declared.shape.Rect.{Rect}
use Rattle.dri_clips.proofs.Gaining.{on_it}
use Rattle.dri_clips.proofs.Painting.{card_rect, card_rects_apart, card_rects_have, no_rect, rects_on}
use Rattle.dri_clips.specs.Boards.{shows}
use Rattle.dri_clips.specs.Gains.{AreOnScreen, clip_rect}
use Rattle.dri_clips.specs.Paints.{IsOnScreen}
use Rattle.dri_flip.specs.Follows.{AreRectsOf}
use Rattle.dri_model.specs.Stacks.{clips, is_window, top}
use Rattle.dri_plane.specs.Grids.{IsInside}
use Rattle.dri_base.specs.Rectangles.{AreApart}
use Rattle.dri_rect.specs.Pixels.{IsApart, IsProper, inside}

-- where a window shows is on the screen
pub clips_on : (width height : ℕ) (ws : List Window) (n : ℕ) (rs : List Rect) → ((x y : ℤ) → inside rs x y ≡ shows width height ws n x y) → AreOnScreen width height rs
clips_on width height ws n rs is (pos x) (pos y) e =
    let shown = sym (is (pos x) (pos y)) ∙ e in
    let first = and_parts (nat_lt x width) (nat_lt y height && is_window n (top ws x y)) shown in
    let second = and_parts (nat_lt y height) (is_window n (top ws x y)) first.1 in
    let column : x < width = grind (arith, nat_tests, first.0) in
    let row : y < height = grind (arith, nat_tests, second.0) in
    on_it width height x y column row
clips_on width height ws n rs is (pos x) (negsuc y) e = absurd (true≢false (sym e ∙ is (pos x) (negsuc y)))
clips_on width height ws n rs is (negsuc x) (pos y) e = absurd (true≢false (sym e ∙ is (negsuc x) (pos y)))
clips_on width height ws n rs is (negsuc x) (negsuc y) e = absurd (true≢false (sym e ∙ is (negsuc x) (negsuc y)))

within : (width height : ℕ) (r : ClipRect) → IsOnScreen width height r → IsInside r width height
within width height r on = record { columns = omega (arith, on.across); right = on.right; rows = omega (arith, on.down); bottom = on.bottom }

-- the rectangles of the clips
pub rects_are : (width height : ℕ) (ws : List Window) (n : ℕ) (rs : List Rect) (cs : List ClipRect) (k : ℕ) → cs ≡ map clip_rect (take k rs) → length rs ≤ k → AllByRecursion IsProper rs → AllPairs IsApart rs →
    ((x y : ℤ) → inside rs x y ≡ shows width height ws n x y) → AreRectsOf width height (clips width height ws n) cs
rects_are width height ws n rs cs k are whole proper apart is = rw same (record { inside = each; apart = pairs; has = λ x y. card_rects_have width height rs (rects_on width height rs proper on) x y ∙ is (pos x) (pos y) })
  where
    on : AreOnScreen width height rs
    on = clips_on width height ws n rs is

    same : cs ≡ map clip_rect rs
    same = are ∙ ap (map clip_rect) (take_all k rs whole)

    each : All (λ r. IsInside r width height) (map clip_rect rs)
    each = All-map (λ r. IsInside r width height) clip_rect rs (λ i d below. within width height (clip_rect (get_or rs i d)) (card_rect width height rs proper on i d below))

    pairs : AllPairs AreApart (map clip_rect rs)
    pairs i j d up below =
        let room = length-map rs clip_rect in
        rw (get_or-map clip_rect rs i no_rect d (omega arith), get_or-map clip_rect rs j no_rect d (omega arith)) (card_rects_apart width height rs apart proper on i j no_rect up (omega arith))
