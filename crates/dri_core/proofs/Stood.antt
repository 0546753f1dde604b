-- Frames that stood.
use Rattle.std.proofs.Common.{◌≡◌, ◌≢◌, ◌+◌, ◌-◌, ℕ, suc, List, [], ◌∷◌, ◌++◌, Bool, true, false, Option, Some, None, arith, refl, sym, ap, ◌∙◌, inl, inr, subst}
use Rattle.std.specs.Prelude.{◌==◌, ◌||◌, ◌⊎◌, slice_get, pred, ℤ}
use Rattle.std.proofs.lemmas.Bool.Decides.{nat_tests}
use Rattle.std.proofs.lemmas.Bool.{true≢false, cases_eq, false_from_ne_true}
use Rattle.dri_base.specs.declared.journal.Entry.{Entry}
use Rattle.dri_base.specs.declared.scene.Window.{Window}
use Rattle.dri_base.specs.declared.command.Command.{Command}
use Rattle.dri_base.specs.declared.command.Command.TheVariants.{Clear, Swap}
use Rattle.dri_base.specs.declared.journal.Entry.TheVariants.{Change, Run, Gone}
use Rattle.dri_base.specs.declared.scene.Scene.{Scene}
use Rattle.dri_base.proofs.RangeLemmas.{IsWellFormed}
use Rattle.dri_base.specs.Scenes.{window_of, command_at, commands_of, script_of}
use Rattle.dri_model.specs.Stacks.{is_moved_whole, without_owner}
use Rattle.dri_base.specs.declared.colour.Pixel.{Pixel}
use Rattle.dri_base.specs.States.{state_at}
use Rattle.dri_base.specs.Fragments.{Rules, rules_of}
use Rattle.dri_base.specs.Texels.{Image}
use Rattle.dri_core.specs.Solo.{drawn_by, blank, solo, image_at}
use Rattle.dri_core.proofs.Carried.{CameFrom, IsKept, apart_at, came_from, restack_keeps}
use Rattle.dri_core.proofs.Draws.{ran_back}
use Rattle.dri_core.specs.Worlds.{World, opening, clips_in}
use Rattle.dri_core.specs.EntryTable.{LegalEntry, after_entry}
use Rattle.dri_core.specs.Effects.{front_after}
use Rattle.dri_core.specs.Restacks.{next_moved, next_stack, stamps_after}
use Rattle.dri_core.specs.Privates.{can_run, can_draw}
use Rattle.dri_core.specs.Runs.{after_entries, LegalEntries, after, HoldRun}
use Rattle.dri_core.specs.Frames.{Stands, keeps, moves_whole, IsNoSwap, NoSwap, across, down, SoloLeft}
use Rattle.dri_core.specs.Solo.{is_clear, is_swap, IsFrame}
use Rattle.dri_core.proofs.FrameNumbers.{is_frame}
use Rattle.dri_core.proofs.Sound.{Sound, sound_along, sound_kept, sound_after}
use Rattle.dri_core.proofs.Laws.{back_left, LegalEntries-append, acting_is_current}

-- what client c has drawn since the clear at place first, with n commands behind it
record Drawn (s : Scene) (c first n : ℕ) (w : World) : Type 0 where
  pub at : (w.client c).place ≡ first + n + 1
  pub back : (x y : ℕ) → clips_in s w c x y ≡ true → w.back x y ≡ solo (script_of s c) first n (across s w c x) (down s w c y)

-- the same in a world where each pixel of the client's window came from one with its drawing
drawn_came : (s : Scene) (w v : World) (c first n : ℕ) → (v.client c).place ≡ (w.client c).place →
    ((x y : ℕ) → clips_in s v c x y ≡ true → CameFrom s w v.stack v.front v.back (window_of s c) x y) → Drawn s c first n w → Drawn s c first n v
drawn_came s w v c first n place came drawn = record {
  at = place ∙ drawn.at;
  back = λ x y inside. let p = came x y inside in p.back ∙ drawn.back p.column p.row p.inside
      ∙ ap (λ a. solo (script_of s c) first n a (down s w c p.row)) (sym p.across) ∙ ap (solo (script_of s c) first n (across s v c x)) (sym p.down);
}

-- a client with a command has a script
pub has_script : (cs : List Command) (i : ℕ) → is_clear (slice_get cs i) ≡ true → cs ≢ []
has_script cs i is none = true≢false (sym is ∙ ap (λ l. is_clear (slice_get l i)) none)

pub can_script : (cs : List Command) (i : ℕ) (ready : Bool) → can_run ready (slice_get cs i) ≡ true → cs ≢ []
can_script cs i ready is none = true≢false (sym is ∙ ap (λ l. can_run ready (slice_get l i)) none)

-- a client that runs a command beside c draws on another window
other_window : (s : Scene) (w : World) (c d first i : ℕ) → IsWellFormed s → d ≢ c → is_clear (slice_get (commands_of s c) (pred first)) ≡ true → LegalEntry s w (Run d i) → window_of s c ≢ window_of s d
other_window s w c d first i good ne is legal same =
    ne (sym (good.apart c d (has_script (commands_of s c) (pred first) is) (can_script (commands_of s d) (pred i) (can_draw (w.client d)) legal.2) same))

-- the client's own command goes on by one
drawn_own : (s : Scene) (w : World) (c i first n : ℕ) → IsWellFormed s → Sound s w → LegalEntry s w (Run c i) → Drawn s c first n w → Drawn s c first (suc n) (after_entry s w (Run c i))
drawn_own s w c i first n good inv legal drawn = record {
  at = grind (arith, nat_tests, drawn.at, legal.1);
  back = λ x y inside. ran_back s w c i x y good inv legal inside ∙ rw (place, drawn.back x y inside) refl;
}
  where
    place : i ≡ first + suc n
    place = omega (arith, drawn.at, legal.1)

drawn_clear : (r : Rules) (image : Option Image) (command : Option Command) (x y : ℤ) (under : Pixel) → is_clear command ≡ true → drawn_by r image command x y under ≡ drawn_by r image command x y blank
drawn_clear r image (Some (Clear colour depth)) x y under is = refl
drawn_clear r image _ x y under is = absurd (true≢false (sym is))

drawn_first : (s : Scene) (w : World) (c first : ℕ) → IsWellFormed s → Sound s w → LegalEntry s w (Run c first) → is_clear (slice_get (commands_of s c) (pred first)) ≡ true → Drawn s c first 0 (after_entry s w (Run c first))
drawn_first s w c first good inv legal is = record {
  at = grind (arith, nat_tests);
  back = λ x y inside. ran_back s w c first x y good inv legal inside ∙ drawn_clear (rules_of (state_at (commands_of s c) first)) (image_at (script_of s c) first) (command_at s c first) (across s w c x) (down s w c y) (w.back x y) is;
}

-- a change that keeps what stands on the window leaves it or moves it whole, and so does a death
kept_by : (s : Scene) (w : World) (moved : Option ℕ) (new : List Window) (c : ℕ) (whole : Bool) → IsWellFormed s → Sound s w →
    ((stamps_after s w new (window_of s c) == w.stamps (window_of s c)) || whole) ≡ true → (whole ≡ true → is_moved_whole s.width s.height w.stack new moved (window_of s c) ≡ true) →
    IsKept s w moved new (window_of s c)
kept_by s w moved new c true good inv keeps moves = inr (moves refl)
kept_by s w moved new c false good inv keeps moves = inl (restack_keeps s w new (window_of s c) (inv.main.counted (window_of s c) (good.few c)) (grind (arith, nat_tests)))

change_keeps : (s : Scene) (w : World) (i c : ℕ) → IsWellFormed s → Sound s w → keeps s w (Change i) (window_of s c) ≡ true → IsKept s w (next_moved s w) (next_stack s w) (window_of s c)
change_keeps s w i c good inv keeps = kept_by s w (next_moved s w) (next_stack s w) c (moves_whole s w (Change i) (window_of s c)) good inv keeps (λ whole. whole)

gone_keeps : (s : Scene) (w : World) (d c : ℕ) → IsWellFormed s → Sound s w → keeps s w (Gone d) (window_of s c) ≡ true → IsKept s w None (without_owner d w.stack) (window_of s c)
gone_keeps s w d c good inv keeps = kept_by s w None (without_owner d w.stack) c false good inv keeps (λ whole. absurd (true≢false (sym whole)))

-- one entry on
drawn_step : (s : Scene) (w : World) (e : Entry) (c first n : ℕ) → IsWellFormed s → Sound s w → LegalEntry s w e → is_clear (slice_get (commands_of s c) (pred first)) ≡ true →
    keeps s w e (window_of s c) ≡ true → Drawn s c first n w → (m : ℕ) × Drawn s c first m (after_entry s w e)
drawn_step s w (Change i) c first n good inv legal is keeps drawn =
    (n, drawn_came s w (after_entry s w (Change i)) c first n refl (λ x y inside. came_from s w (next_stack s w) (window_of s c) x y inside (next_moved s w) (change_keeps s w i c good inv keeps)) drawn)
drawn_step s w (Gone d) c first n good inv legal is keeps drawn =
    (n, drawn_came s w (after_entry s w (Gone d)) c first n place (λ x y inside. came_from s w (without_owner d w.stack) (window_of s c) x y inside None (gone_keeps s w d c good inv keeps)) drawn)
  where
    place : ((after_entry s w (Gone d)).client c).place ≡ (w.client c).place
    place = grind (arith, nat_tests)
drawn_step s w (Run d i) c first n good inv legal is keeps drawn = by_client (cases_eq d c)
  where
    by_client : (d ≡ c) ⊎ (d ≡ c → ⊥) → (m : ℕ) × Drawn s c first m (after_entry s w (Run d i))
    by_client (inl same) = (suc n, subst (λ k. Drawn s c first (suc n) (after_entry s w (Run k i))) (sym same) (drawn_own s w c i first n good inv (subst (λ k. LegalEntry s w (Run k i)) same legal) drawn))
    by_client (inr ne) = (
      n,
      record {
        at = grind (arith, nat_tests, drawn.at);
        back = λ x y inside. back_left w (w.client d) (command_at s d i) x y ((acting_is_current s w inv d (inl legal.0)).copy x y ∙ apart_at s w c d x y (other_window s w c d first i good ne is legal) inside) ∙ drawn.back x y inside;
      },
    )
drawn_step s w _ c first n good inv legal is keeps drawn = (n, record { at = grind (arith, nat_tests, drawn.at); back = drawn.back })

drawn_steps : (s : Scene) (w : World) (es : List Entry) (c first n : ℕ) → IsWellFormed s → Sound s w → LegalEntries s w es → is_clear (slice_get (commands_of s c) (pred first)) ≡ true →
    Stands s (window_of s c) w es → Drawn s c first n w → (m : ℕ) × Drawn s c first m (after_entries s w es)
drawn_steps s w [] c first n good inv allowed is stands drawn = (n, drawn)
drawn_steps s w (e ∷ es) c first n good inv allowed is stands drawn =
    let one = drawn_step s w e c first n good inv allowed.0 is stands.0 drawn in
    drawn_steps s (after_entry s w e) es c first one.0 good (sound_kept s w e good inv allowed.0) allowed.1 is stands.1 one.1

-- front shows what was drawn alone between the two places
abbrev ShowsBetween : Scene → ℕ → ℕ → ℕ → World → Type 0
ShowsBetween s c first last w =
    (x y : ℕ) → clips_in s w c x y ≡ true → w.front x y ≡ (solo (script_of s c) first (last - suc first) (across s w c x) (down s w c y)).colour

-- the swap shows it
swap_shows : (s : Scene) (w : World) (c first last n : ℕ) → Sound s w → LegalEntry s w (Run c last) → is_swap (slice_get (commands_of s c) (pred last)) ≡ true → Drawn s c first n w →
    ShowsBetween s c first last (after_entry s w (Run c last))
swap_shows s w c first last n inv legal is drawn x y inside = front (command_at s c last) is ∙ ap (λ v. v.colour) (drawn.back x y inside ∙ ap (λ k. solo (script_of s c) first k (across s w c x) (down s w c y)) count)
  where
    count : n ≡ last - suc first
    count = omega (arith, drawn.at, legal.1)

    copy : (w.client c).copy x y ≡ true
    copy = (acting_is_current s w inv c (inl legal.0)).copy x y ∙ inside

    front : (command : Option Command) → is_swap command ≡ true → front_after w (w.client c).copy command x y ≡ (w.back x y).colour
    front (Some Swap) is = rw copy refl
    front _ is = absurd (true≢false (sym is))

-- a front that isn't swapped at a pixel stays there
front_left : (w : World) (copy : ℕ → ℕ → Bool) (command : Option Command) (x y : ℕ) → (is_swap command ≡ false) ⊎ (copy x y ≡ false) → front_after w copy command x y ≡ w.front x y
front_left w copy (Some Swap) x y (inl noswap) = absurd (true≢false noswap)
front_left w copy (Some Swap) x y (inr out) = rw out refl
front_left w copy _ x y noswap = refl

-- what is shown stays where each pixel of the client's window came from one that showed it
shows_came : (s : Scene) (w v : World) (c first last : ℕ) → ((x y : ℕ) → clips_in s v c x y ≡ true → CameFrom s w v.stack v.front v.back (window_of s c) x y) →
    ShowsBetween s c first last w → ShowsBetween s c first last v
shows_came s w v c first last came shows x y inside = let p = came x y inside in p.front ∙ shows p.column p.row p.inside
    ∙ ap (λ a. (solo (script_of s c) first (last - suc first) a (down s w c p.row)).colour) (sym p.across)
    ∙ ap (λ b. (solo (script_of s c) first (last - suc first) (across s v c x) b).colour) (sym p.down)

shows_step : (s : Scene) (w : World) (e : Entry) (c first last : ℕ) → IsWellFormed s → Sound s w → LegalEntry s w e → is_clear (slice_get (commands_of s c) (pred first)) ≡ true →
    keeps s w e (window_of s c) ≡ true → IsNoSwap s c e → ShowsBetween s c first last w → ShowsBetween s c first last (after_entry s w e)
shows_step s w (Change i) c first last good inv legal is keeps noswap shows =
    shows_came s w (after_entry s w (Change i)) c first last (λ x y inside. came_from s w (next_stack s w) (window_of s c) x y inside (next_moved s w) (change_keeps s w i c good inv keeps)) shows
shows_step s w (Gone d) c first last good inv legal is keeps noswap shows =
    shows_came s w (after_entry s w (Gone d)) c first last (λ x y inside. came_from s w (without_owner d w.stack) (window_of s c) x y inside None (gone_keeps s w d c good inv keeps)) shows
shows_step s w (Run d i) c first last good inv legal is keeps noswap shows = λ x y inside. front_left w (w.client d).copy (command_at s d i) x y (by_client x y inside (cases_eq d c)) ∙ shows x y inside
  where
    by_client : (x y : ℕ) → clips_in s w c x y ≡ true → (d ≡ c) ⊎ (d ≡ c → ⊥) → (is_swap (command_at s d i) ≡ false) ⊎ ((w.client d).copy x y ≡ false)
    by_client x y inside (inl same) = inl (false_from_ne_true _ (λ swaps. noswap i (subst (λ k. is_swap (command_at s k i) ≡ true) same swaps) (ap (λ k. Run k i) same)))
    by_client x y inside (inr ne) = inr ((acting_is_current s w inv d (inl legal.0)).copy x y ∙ apart_at s w c d x y (other_window s w c d first i good ne is legal) inside)
shows_step s w _ c first last good inv legal is keeps noswap shows = shows

shows_steps : (s : Scene) (w : World) (es : List Entry) (c first last : ℕ) → IsWellFormed s → Sound s w → LegalEntries s w es → is_clear (slice_get (commands_of s c) (pred first)) ≡ true →
    Stands s (window_of s c) w es → NoSwap s c es → ShowsBetween s c first last w → ShowsBetween s c first last (after_entries s w es)
shows_steps s w [] c first last good inv allowed is stands noswap shows = shows
shows_steps s w (e ∷ es) c first last good inv allowed is stands noswap shows =
    shows_steps s (after_entry s w e) es c first last good (sound_kept s w e good inv allowed.0) allowed.1 is stands.1 noswap.1 (shows_step s w e c first last good inv allowed.0 is stands.0 noswap.0 shows)

-- each frame that stood is left alone in its clips
pub solo_left : (s : Scene) (journal : List Entry) → IsWellFormed s → HoldRun s journal → SoloLeft s journal
solo_left s journal good run c k first last past middle later rest numbered e stands_middle stands_later noswap x y inside =
    rw numbered (ap Some (shown x y inside))
  where
    frame : IsFrame (commands_of s c) k first last
    frame = is_frame (commands_of s c) k first last numbered

    parts : LegalEntries s (opening s) past × LegalEntries s (after s past) (Run c first ∷ (middle ++ Run c last ∷ (later ++ rest)))
    parts = LegalEntries-append s (opening s) past (Run c first ∷ (middle ++ Run c last ∷ (later ++ rest))) (rw e at run)

    inv_past : Sound s (after s past)
    inv_past = sound_after s past good parts.0

    cleared : World
    cleared = after_entry s (after s past) (Run c first)

    inv_cleared : Sound s cleared
    inv_cleared = sound_kept s (after s past) (Run c first) good inv_past parts.1.0

    drawing : World
    drawing = after_entries s cleared middle

    middle_run : LegalEntries s cleared middle × LegalEntries s drawing (Run c last ∷ (later ++ rest))
    middle_run = LegalEntries-append s cleared middle (Run c last ∷ (later ++ rest)) parts.1.1

    inv_drawing : Sound s drawing
    inv_drawing = sound_along s cleared middle good inv_cleared middle_run.0

    drawn : (m : ℕ) × Drawn s c first m drawing
    drawn = drawn_steps s cleared middle c first 0 good inv_cleared middle_run.0 frame.clear stands_middle (drawn_first s (after s past) c first good inv_past parts.1.0 frame.clear)

    swapped : World
    swapped = after_entry s drawing (Run c last)

    inv_swapped : Sound s swapped
    inv_swapped = sound_kept s drawing (Run c last) good inv_drawing middle_run.1.0

    later_run : LegalEntries s swapped later × LegalEntries s (after_entries s swapped later) rest
    later_run = LegalEntries-append s swapped later rest middle_run.1.1

    shown : ShowsBetween s c first last (after_entries s swapped later)
    shown =
        shows_steps s swapped later c first last good inv_swapped later_run.0 frame.clear stands_later noswap
        (swap_shows s drawing c first last drawn.0 inv_drawing middle_run.1.0 frame.swap drawn.1)
