-- Frames that stood are shown as they are drawn alone, on a card with a pixel rule of its own.
use Rattle.std.proofs.Common.{◌≡◌, ◌≢◌, if◌then◌else◌, ◌+◌, ◌-◌, ℕ, zero, suc, List, [], ◌∷◌, ◌++◌, Bool, true, false, Option, Some, None, arith, refl, sym, ap, ◌∙◌, inl, inr, subst}
use Rattle.std.proofs.lemmas.Bool.Decides.{nat_tests}
use Rattle.std.proofs.lemmas.Bool.{and_right, cases_eq, false_from_ne_true, true≢false}
use Rattle.std.specs.Prelude.{◌&&◌, ◌==◌, ◌||◌, ◌⊎◌, pred, slice_get, ℤ}
use Rattle.dri_base.proofs.RangeLemmas.{IsWellFormed}
use Rattle.dri_base.specs.Fragments.{Rules}
use Rattle.dri_base.specs.Scenes.{command_at, commands_of, script_of, window_of}
use Rattle.dri_base.specs.Texels.{Image}
use Rattle.dri_base.specs.declared.colour.Pixel.{Pixel}
use Rattle.dri_base.specs.declared.colour.Rgb.{Rgb}
use Rattle.dri_base.specs.declared.command.Command.TheVariants.{Clear}
use Rattle.dri_base.specs.declared.command.Command.{Command}
use Rattle.dri_base.specs.declared.journal.Entry.TheVariants.{Change, Gone, Run}
use Rattle.dri_base.specs.declared.journal.Entry.{Entry}
use Rattle.dri_base.specs.declared.scene.Scene.{Scene}
use Rattle.dri_base.specs.declared.scene.Window.{Window}
use Rattle.dri_card16.proofs.Differing.{differ_after, differ_along, differ_step, entry_over, over, with_append}
use Rattle.dri_card16.proofs.Planes.{drawn_kept}
use Rattle.dri_card16.specs.PixelRules.{KeepsForGood, PixelRule, drawn_with, solo_with}
use Rattle.dri_card16.specs.RuleRuns.{DifferInPlanes, ShowsWith, SoloLeftWith, StoodIsShownWith, after_entries_with, after_entry_with, after_with, back_with, front_with, opening_with}
use Rattle.dri_core.proofs.Carried.{CameFrom, IsKept, apart_at, came_from, restack_keeps}
use Rattle.dri_core.proofs.FrameNumbers.{is_frame}
use Rattle.dri_core.proofs.Laws.{LegalEntries-append}
use Rattle.dri_core.proofs.Stood.{can_script, has_script}
use Rattle.dri_core.proofs.Sound.{Sound, sound_after, sound_along, sound_kept}
use Rattle.dri_core.specs.EntryTable.{LegalEntry, after_entry}
use Rattle.dri_core.specs.Frames.{IsNoSwap, NoSwap, Stands, across, down, keeps, moves_whole}
use Rattle.dri_core.specs.Privates.{can_draw}
use Rattle.dri_core.specs.Restacks.{next_moved, next_stack, stamps_after}
use Rattle.dri_core.specs.Runs.{HoldRun, LegalEntries, after, after_entries}
use Rattle.dri_core.specs.Solo.{IsFrame, blank, frame, is_clear, is_swap}
use Rattle.dri_core.specs.Worlds.{World, clips_in, opening}
use Rattle.dri_model.specs.Stacks.{is_moved_whole, without_owner}

-- what a frame's last clear and the commands behind it leave is kept
clear_kept : (rule : PixelRule) (r : Rules) (image : Option Image) (command : Option Command) (x y : ℤ) (under : Pixel) → KeepsForGood rule → is_clear command ≡ true →
    rule.kept (drawn_with rule r image command x y under).colour ≡ (drawn_with rule r image command x y under).colour
clear_kept rule r image (Some (Clear colour depth)) x y under for_good is = for_good.colour colour
clear_kept rule r image _ x y under for_good is = absurd (true≢false (sym is))

-- a clear leaves the same whatever lies under it
clear_same : (rule : PixelRule) (r : Rules) (image : Option Image) (command : Option Command) (x y : ℤ) (under : Pixel) → is_clear command ≡ true →
    drawn_with rule r image command x y under ≡ drawn_with rule r image command x y blank
clear_same rule r image (Some (Clear colour depth)) x y under is = refl
clear_same rule r image _ x y under is = absurd (true≢false (sym is))

-- a client c of a scene, whose command at place first is a clear, on a card
module _ (rule : PixelRule) (for_good : KeepsForGood rule) (s : Scene) (good : IsWellFormed s) (c first : ℕ) (is : is_clear (slice_get (commands_of s c) (pred first)) ≡ true) where
  -- what it has drawn since, with n commands, at a pixel of its window
  abbrev alone : ℕ → World → ℕ → ℕ → Pixel
  alone n w x y = solo_with rule (script_of s c) first n (across s w c x) (down s w c y)

  alone_kept : (n : ℕ) (x y : ℤ) → rule.kept (solo_with rule (script_of s c) first n x y).colour ≡ (solo_with rule (script_of s c) first n x y).colour
  alone_kept zero x y = clear_kept rule _ _ (slice_get (commands_of s c) (pred first)) x y blank for_good is
  alone_kept (suc n) x y = drawn_kept rule _ _ (slice_get (commands_of s c) (pred (first + suc n))) x y (solo_with rule (script_of s c) first n x y) for_good (alone_kept n x y)

  -- in a world back has what client c has drawn since its clear, with n commands behind it
  record Drawn (n : ℕ) (w : World) (drawn : ℕ → ℕ → Pixel) : Type 0 where
    pub at : (w.client c).place ≡ first + n + 1
    pub back : (x y : ℕ) → clips_in s w c x y ≡ true → drawn x y ≡ alone n w x y

  -- and front shows it
  abbrev Shown : ℕ → World → (ℕ → ℕ → Rgb) → Type 0
  Shown n w shown = (x y : ℕ) → clips_in s w c x y ≡ true → shown x y ≡ (alone n w x y).colour

  -- a client that runs a command beside it draws on another window
  other_window : (w : World) (d i : ℕ) → d ≢ c → LegalEntry s w (Run d i) → window_of s c ≢ window_of s d
  other_window w d i ne legal same =
      ne (sym (good.apart c d (has_script (commands_of s c) (pred first) is) (can_script (commands_of s d) (pred i) (can_draw (w.client d)) legal.2) same))

  module _ (w : World) (shown : ℕ → ℕ → Rgb) (drawn : ℕ → ℕ → Pixel) where
    -- each pixel of its window came from one that had its drawing
    drawn_came : (v : World) (new_shown : ℕ → ℕ → Rgb) (new_drawn : ℕ → ℕ → Pixel) (n : ℕ) → (v.client c).place ≡ (w.client c).place →
        ((x y : ℕ) → clips_in s v c x y ≡ true → CameFrom s (over w shown drawn) v.stack new_shown new_drawn (window_of s c) x y) → Drawn n w drawn → Drawn n v new_drawn
    drawn_came v new_shown new_drawn n place came was = record {
      at = place ∙ was.at;
      back = λ x y inside. let p = came x y inside in p.back ∙ was.back p.column p.row p.inside
          ∙ ap (λ a. solo_with rule (script_of s c) first n a (down s w c p.row)) (sym p.across) ∙ ap (solo_with rule (script_of s c) first n (across s v c x)) (sym p.down);
    }

    -- or that showed it
    shown_came : (v : World) (new_shown : ℕ → ℕ → Rgb) (new_drawn : ℕ → ℕ → Pixel) (n : ℕ) →
        ((x y : ℕ) → clips_in s v c x y ≡ true → CameFrom s (over w shown drawn) v.stack new_shown new_drawn (window_of s c) x y) → Shown n w shown → Shown n v (λ x y. rule.kept (new_shown x y))
    shown_came v new_shown new_drawn n came was x y inside = let p = came x y inside in
        ap rule.kept (p.front ∙ was p.column p.row p.inside) ∙ alone_kept n (across s w c p.column) (down s w c p.row)
        ∙ ap (λ a. (solo_with rule (script_of s c) first n a (down s w c p.row)).colour) (sym p.across) ∙ ap (λ b. (solo_with rule (script_of s c) first n (across s v c x) b).colour) (sym p.down)

    module _ (sound : Sound s w) where
      -- a change that keeps what stands on the window leaves it or moves it whole, and so does a death
      kept_by : (moved : Option ℕ) (new : List Window) (whole : Bool) → ((stamps_after s w new (window_of s c) == w.stamps (window_of s c)) || whole) ≡ true →
          (whole ≡ true → is_moved_whole s.width s.height w.stack new moved (window_of s c) ≡ true) → IsKept s (over w shown drawn) moved new (window_of s c)
      kept_by moved new true stands moves = inr (moves refl)
      kept_by moved new false stands moves = inl (restack_keeps s w new (window_of s c) (sound.main.counted (window_of s c) (good.few c)) (grind (arith, nat_tests)))

      change_came : (i x y : ℕ) → keeps s w (Change i) (window_of s c) ≡ true → clips_in s (after_entry s w (Change i)) c x y ≡ true →
          CameFrom s (over w shown drawn) (next_stack s w) (after_entry s (over w shown drawn) (Change i)).front (after_entry s (over w shown drawn) (Change i)).back (window_of s c) x y
      change_came i x y stands inside =
          came_from s (over w shown drawn) (next_stack s w) (window_of s c) x y inside (next_moved s w) (kept_by (next_moved s w) (next_stack s w) (moves_whole s w (Change i) (window_of s c)) stands (λ whole. whole))

      gone_came : (d x y : ℕ) → keeps s w (Gone d) (window_of s c) ≡ true → clips_in s (after_entry s w (Gone d)) c x y ≡ true →
          CameFrom s (over w shown drawn) (without_owner d w.stack) (after_entry s (over w shown drawn) (Gone d)).front (after_entry s (over w shown drawn) (Gone d)).back (window_of s c) x y
      gone_came d x y stands inside =
          came_from s (over w shown drawn) (without_owner d w.stack) (window_of s c) x y inside None (kept_by None (without_owner d w.stack) false stands (λ whole. absurd (true≢false (sym whole))))

      -- the client's own command goes on by one
      drawn_own : (i n : ℕ) → LegalEntry s w (Run c i) → Drawn n w drawn → Drawn (suc n) (after_entry s w (Run c i)) (back_with rule s (over w shown drawn) (Run c i))
      drawn_own i n legal was = record {
        at = grind (arith, nat_tests, was.at, legal.1);
        back = λ x y inside. rw (inside, place, was.back x y inside) refl;
      }
        where
          place : i ≡ first + suc n
          place = omega (arith, was.at, legal.1)

      -- one entry on
      drawn_step : (e : Entry) (n : ℕ) → LegalEntry s w e → keeps s w e (window_of s c) ≡ true → Drawn n w drawn →
          (m : ℕ) × Drawn m (after_entry s w e) (back_with rule s (over w shown drawn) e)
      drawn_step (Change i) n legal stands was = (n, drawn_came (after_entry s w (Change i)) _ _ n refl (λ x y inside. change_came i x y stands inside) was)
      drawn_step (Gone d) n legal stands was = (n, drawn_came (after_entry s w (Gone d)) _ _ n (grind (arith, nat_tests)) (λ x y inside. gone_came d x y stands inside) was)
      drawn_step (Run d i) n legal stands was = by_client (cases_eq d c)
        where
          by_client : (d ≡ c) ⊎ (d ≡ c → ⊥) → (m : ℕ) × Drawn m (after_entry s w (Run d i)) (back_with rule s (over w shown drawn) (Run d i))
          by_client (inl same) = (suc n, subst (λ k. Drawn (suc n) (after_entry s w (Run k i)) (back_with rule s (over w shown drawn) (Run k i))) (sym same) (drawn_own i n (subst (λ k. LegalEntry s w (Run k i)) same legal) was))
          by_client (inr ne) = (
            n,
            record {
              at = grind (arith, nat_tests, was.at);
              back = λ x y inside. rw (apart_at s w c d x y (other_window w d i ne legal) inside) (was.back x y inside);
            },
          )
      drawn_step _ n legal stands was = (n, record { at = grind (arith, nat_tests, was.at); back = was.back })

      -- the swap shows it
      swap_shows : (last n : ℕ) → LegalEntry s w (Run c last) → is_swap (slice_get (commands_of s c) (pred last)) ≡ true → Drawn n w drawn →
          Shown (last - suc first) (after_entry s w (Run c last)) (front_with rule s (over w shown drawn) (Run c last))
      swap_shows last n legal swaps was x y inside =
          ap (λ (b : Bool). rule.kept (if b then (drawn x y).colour else shown x y)) swapped ∙ ap (λ (p : Pixel). rule.kept p.colour) (was.back x y inside)
          ∙ alone_kept n (across s w c x) (down s w c y) ∙ ap (λ k. (alone k w x y).colour) count
        where
          swapped : (is_swap (command_at s c last) && clips_in s w c x y) ≡ true
          swapped = rw (swaps, inside) refl

          count : n ≡ last - suc first
          count = omega (arith, was.at, legal.1)

      shown_step : (e : Entry) (n : ℕ) → LegalEntry s w e → keeps s w e (window_of s c) ≡ true → IsNoSwap s c e → Shown n w shown → Shown n (after_entry s w e) (front_with rule s (over w shown drawn) e)
      shown_step (Change i) n legal stands noswap was x y inside = shown_came (after_entry s w (Change i)) _ _ n (λ x y inside. change_came i x y stands inside) was x y inside
      shown_step (Gone d) n legal stands noswap was x y inside = shown_came (after_entry s w (Gone d)) _ _ n (λ x y inside. gone_came d x y stands inside) was x y inside
      shown_step (Run d i) n legal stands noswap was x y inside =
          ap (λ (b : Bool). rule.kept (if b then (drawn x y).colour else shown x y)) (unswapped (cases_eq d c)) ∙ ap rule.kept (was x y inside) ∙ alone_kept n (across s w c x) (down s w c y)
        where
          unswapped : (d ≡ c) ⊎ (d ≡ c → ⊥) → (is_swap (command_at s d i) && clips_in s w d x y) ≡ false
          unswapped (inl same) = rw (false_from_ne_true _ (λ swaps. noswap i (subst (λ k. is_swap (command_at s k i) ≡ true) same swaps) (ap (λ k. Run k i) same))) refl
          unswapped (inr ne) = and_right (is_swap (command_at s d i)) (clips_in s w d x y) (apart_at s w c d x y (other_window w d i ne legal) inside)
      shown_step _ n legal stands noswap was x y inside = ap rule.kept (was x y inside) ∙ alone_kept n (across s w c x) (down s w c y)

      -- a frame begins with its clear
      drawn_first : LegalEntry s w (Run c first) → Drawn 0 (after_entry s w (Run c first)) (back_with rule s (over w shown drawn) (Run c first))
      drawn_first legal = record {
        at = grind (arith, nat_tests, legal.1);
        back = λ x y inside. rw inside (clear_same rule _ _ (slice_get (commands_of s c) (pred first)) (across s w c x) (down s w c y) (drawn x y) is);
      }

  -- many entries on
  drawn_steps : (w : World) (shown : ℕ → ℕ → Rgb) (drawn : ℕ → ℕ → Pixel) (es : List Entry) (n : ℕ) → Sound s w → LegalEntries s w es → Stands s (window_of s c) w es → Drawn n w drawn →
      (m : ℕ) × Drawn m (after_entries s w es) (after_entries_with rule s (over w shown drawn) es).back
  drawn_steps w shown drawn [] n sound legal stands was = (n, was)
  drawn_steps w shown drawn (e ∷ es) n sound legal stands was =
      let one = drawn_step w shown drawn sound e n legal.0 stands.0 was in
      subst (λ v. (m : ℕ) × Drawn m (after_entries s (after_entry s w e) es) (after_entries_with rule s v es).back) (sym (entry_over rule s w shown drawn e))
      (drawn_steps (after_entry s w e) (front_with rule s (over w shown drawn) e) (back_with rule s (over w shown drawn) e) es one.0 (sound_kept s w e good sound legal.0) legal.1 stands.1 one.1)

  shown_steps : (w : World) (shown : ℕ → ℕ → Rgb) (drawn : ℕ → ℕ → Pixel) (es : List Entry) (n : ℕ) → Sound s w → LegalEntries s w es → Stands s (window_of s c) w es → NoSwap s c es →
      Shown n w shown → Shown n (after_entries s w es) (after_entries_with rule s (over w shown drawn) es).front
  shown_steps w shown drawn [] n sound legal stands noswap was = was
  shown_steps w shown drawn (e ∷ es) n sound legal stands noswap was =
      subst (λ v. Shown n (after_entries s (after_entry s w e) es) (after_entries_with rule s v es).front) (sym (entry_over rule s w shown drawn e))
      (shown_steps (after_entry s w e) (front_with rule s (over w shown drawn) e) (back_with rule s (over w shown drawn) e) es n (sound_kept s w e good sound legal.0) legal.1 stands.1 noswap.1
      (shown_step w shown drawn sound e n legal.0 stands.0 noswap.0 was))

  -- the same of a world that differs in its planes, after the swap
  shown_later : (k last : ℕ) (v w : World) (later : List Entry) → DifferInPlanes v w → Sound s w → LegalEntries s w later → Stands s (window_of s c) w later → NoSwap s c later →
      frame (commands_of s c) k ≡ Some (first, last) → Shown (last - suc first) w v.front → ShowsWith rule s c k (after_entries_with rule s v later)
  shown_later k last v w later alike sound legal stands noswap numbered was =
      subst (ShowsWith rule s c k) (sym (differ_along rule s v w later alike))
      (λ x y inside. rw numbered (ap Some (subst (λ u. Shown (last - suc first) (after_entries s w later) (after_entries_with rule s u later).front) (sym alike) (shown_steps w v.front v.back later (last - suc first) sound legal stands noswap was) x y inside)))

  -- and of one before its swap
  shown_swapped : (k last n : ℕ) (v w : World) (later : List Entry) → DifferInPlanes v w → Sound s w → LegalEntries s w (Run c last ∷ later) → Stands s (window_of s c) (after_entry s w (Run c last)) later →
      NoSwap s c later → is_swap (slice_get (commands_of s c) (pred last)) ≡ true → frame (commands_of s c) k ≡ Some (first, last) → Drawn n w v.back →
      ShowsWith rule s c k (after_entries_with rule s v (Run c last ∷ later))
  shown_swapped k last n v w later alike sound legal stands noswap swaps numbered was =
      shown_later k last (after_entry_with rule s v (Run c last)) (after_entry s w (Run c last)) later (differ_step rule s v w (Run c last) alike) (sound_kept s w (Run c last) good sound legal.0) legal.1 stands noswap numbered
      (subst (λ u. Shown (last - suc first) (after_entry s w (Run c last)) (front_with rule s u (Run c last))) (sym alike) (swap_shows w v.front v.back sound last n legal.0 swaps was))

-- each frame that stood is left alone in its clips
pub solo_left : (rule : PixelRule) (s : Scene) (journal : List Entry) → KeepsForGood rule → IsWellFormed s → HoldRun s journal → SoloLeftWith rule s journal
solo_left rule s journal for_good good run c k first last past middle later rest numbered e stands_middle stands_later noswap =
    subst (ShowsWith rule s c k) (sym in_parts)
    (shown_swapped rule for_good s good c first is.clear k last drawn.0 (after_entries_with rule s cleared_with middle) drawing later
    (differ_along rule s cleared_with cleared middle refl) inv_drawing (middle_run.1.0, later_run.0) stands_later noswap is.swap numbered drawn.1)
  where
    frame_on : List Entry
    frame_on = Run c first ∷ (middle ++ Run c last ∷ later)

    is : IsFrame (commands_of s c) k first last
    is = is_frame (commands_of s c) k first last numbered

    parts : LegalEntries s (opening s) past × LegalEntries s (after s past) (Run c first ∷ (middle ++ Run c last ∷ (later ++ rest)))
    parts = LegalEntries-append s (opening s) past (Run c first ∷ (middle ++ Run c last ∷ (later ++ rest))) (rw e at run)

    inv_past : Sound s (after s past)
    inv_past = sound_after s past good parts.0

    cleared : World
    cleared = after_entry s (after s past) (Run c first)

    shown : ℕ → ℕ → Rgb
    shown = (after_with rule s past).front

    under : ℕ → ℕ → Pixel
    under = (after_with rule s past).back

    cleared_with : World
    cleared_with = after_entry_with rule s (over (after s past) shown under) (Run c first)

    -- the run goes by its clear, and on to its swap
    in_parts : after_with rule s (past ++ frame_on) ≡ after_entries_with rule s (after_entries_with rule s cleared_with middle) (Run c last ∷ later)
    in_parts =
        with_append rule s (opening_with rule s) past frame_on ∙ ap (λ v. after_entries_with rule s v frame_on) (differ_after rule s past)
        ∙ with_append rule s cleared_with middle (Run c last ∷ later)

    inv_cleared : Sound s cleared
    inv_cleared = sound_kept s (after s past) (Run c first) good inv_past parts.1.0

    drawing : World
    drawing = after_entries s cleared middle

    middle_run : LegalEntries s cleared middle × LegalEntries s drawing (Run c last ∷ (later ++ rest))
    middle_run = LegalEntries-append s cleared middle (Run c last ∷ (later ++ rest)) parts.1.1

    inv_drawing : Sound s drawing
    inv_drawing = sound_along s cleared middle good inv_cleared middle_run.0

    drawn : (m : ℕ) × Drawn rule for_good s good c first is.clear m drawing (after_entries_with rule s cleared_with middle).back
    drawn = drawn_steps rule for_good s good c first is.clear cleared cleared_with.front cleared_with.back middle 0 inv_cleared middle_run.0 stands_middle
        (drawn_first rule for_good s good c first is.clear (after s past) shown under inv_past parts.1.0)

    later_run : LegalEntries s (after_entry s drawing (Run c last)) later × LegalEntries s (after_entries s (after_entry s drawing (Run c last)) later) rest
    later_run = LegalEntries-append s (after_entry s drawing (Run c last)) later rest middle_run.1.1

-- right after its swap too
pub stood_is_shown : (rule : PixelRule) (s : Scene) (journal : List Entry) → KeepsForGood rule → IsWellFormed s → HoldRun s journal → StoodIsShownWith rule s journal
stood_is_shown rule s journal for_good good run c k stood =
    solo_left rule s journal for_good good run c k stood.first stood.last stood.past stood.middle [] stood.rest stood.numbered stood.swapped stood.stands tt tt
