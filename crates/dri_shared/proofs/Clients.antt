-- What is known of a client that isn't ended: its number, its window, its place and what it is copied.
use Rattle.std.proofs.Common.{◌≡◌, ◌≢◌, ◌<◌, ◌≤◌, ℕ, ◌+◌, pos, negsuc, List, [], ◌∷◌, length, Bool, true, false, ◌&&◌, nat_lt, refl, ◌∙◌, sym, subst, arith, inl, inr, All, Contains}
use Rattle.std.proofs.lemmas.Bool.Decides.{eqb_tells}
use Rattle.std.proofs.lemmas.List.Elements.{All-head, All-tail}
use Rattle.std.proofs.lemmas.List.Sums.{sum_by-cons}
use Rattle.dri_base.specs.Ranges.{InRange, command_count, window_numbers}
use Rattle.dri_base.specs.Scenes.{commands_of, script_in, window_of}
use Rattle.dri_base.specs.declared.journal.Entry.{Entry}
use Rattle.dri_base.specs.declared.scene.ClientScript.{ClientScript}
use Rattle.dri_base.specs.declared.scene.Scene.{Scene}
use Rattle.dri_base.specs.declared.shape.Rect.{Rect}
use Rattle.dri_base.proofs.RangeLemmas.{number_of_script, owns_window, well_formed}
use Rattle.dri_card.specs.Contents.{Contents}
use Rattle.dri_core.specs.Phases.{Ended, In, Phase}
use Rattle.dri_core.specs.Runs.{HoldRun, IsCurrent, after}
use Rattle.dri_core.specs.Worlds.{World, clips_in}
use Rattle.dri_core.proofs.Bounds.{place_bounded}
use Rattle.dri_core.proofs.Kept.{after_kept}
use Rattle.dri_core.proofs.Lively.{lively_after, not_empty}
use Rattle.dri_core.proofs.RunLaws.{acting_current}
use Rattle.dri_model.specs.Stacks.{is_window, top}
use Rattle.dri_shared.specs.Copies.{IsCopyOf}
use Rattle.dri_draw.specs.Drawing.{StayOn}
use Rattle.dri_core.proofs.Windows.{has_after, has_contains, has_owned}

-- what holds of each script, and of a client's without one, holds of each client's
pub script_meets : (P : ClientScript → Type 0) (ps : List ClientScript) (c : ℕ) → All P ps → P (record { number = c; window = 0; textures = []; commands = [] }) → P (script_in ps c)
script_meets P [] c all none = none
script_meets P (p ∷ ps) c all none =
    elim (eqb_tells p.number c) as (λ _. P (script_in (p ∷ ps) c)) [
      | inl same ↦ rw same.0 (All-head P p ps all)
      | inr other ↦ rw other.0 (script_meets P ps c (All-tail P p ps all) none)
    ]

-- a client with a command has a number from 1 to 32
pub number_below : (s : Scene) (c : ℕ) → InRange s → commands_of s c ≢ [] → c < 33
number_below s c range some =
    subst (λ n. n < 33) (number_of_script s.clients c)
    (script_meets (λ p. p.commands ≢ [] → p.number < 33) s.clients c (λ k d below any. let within = (range.scripted.each k d below).numbered in omega (arith, within)) (λ no. absurd (no refl)) some)

commands_counted : (ps : List ClientScript) (c : ℕ) → length (script_in ps c).commands ≤ command_count ps
commands_counted [] c = omega arith
commands_counted (p ∷ ps) c = rw (sum_by-cons (λ (q : ClientScript). length q.commands))
    (elim (eqb_tells p.number c) as (λ _. length (script_in (p ∷ ps) c).commands ≤ length p.commands + command_count ps) [
      | inl same ↦ rw same.0 (omega arith)
      | inr other ↦ rw other.0 (omega (arith, commands_counted ps c))
    ])

module _ (s : Scene) (journal : List Entry) (good : InRange s) (run : HoldRun s journal) (c : ℕ) where
  -- its place can still be counted up
  pub place_small : ((after s journal).client c).place ≤ 100001
  place_small = omega (arith, place_bounded s journal good run c, commands_counted s.clients c, good.few)

  pub place_some : 0 < ((after s journal).client c).place
  place_some = (after_kept s journal (well_formed s good) run).started c

  module _ (p : Phase) (is : ((after s journal).client c).phase ≡ p) (more : Ended ≡ p → ⊥) where
    pub has_commands : commands_of s c ≢ []
    has_commands = not_empty s (after s journal) c p (lively_after s journal (well_formed s good) run) is more

    pub client_below : c < 33
    client_below = number_below s c good has_commands

    pub window_there : Contains (window_numbers (after s journal).stack) (window_of s c)
    window_there = has_contains (after s journal).stack (window_of s c) (has_after s journal (window_of s c) (has_owned s.windows (window_of s c) c (owns_window s c good has_commands)))

  module _ (is : ((after s journal).client c).phase ≡ In) where
    pub current : IsCurrent s (after s journal) c
    current = acting_current s journal good run c (inl is)

-- a client's clips lie on the screen
clips_on : (width height : ℕ) (a : Bool) (x y : ℕ) → (nat_lt x width && (nat_lt y height && a)) ≡ true → (nat_lt x width && nat_lt y height) ≡ true
clips_on width height a x y e = both (nat_lt x width) (nat_lt y height) a e
  where
    both : (p q r : Bool) → (p && (q && r)) ≡ true → (p && q) ≡ true
    both true true r e = refl
    both true false r e = e
    both false q r e = e

pub copy_stays : (s : Scene) (w : World) (c : ℕ) (copy : ℕ → ℕ → Bool) (clips : List Rect) (card : Contents) → IsCopyOf clips copy → ((x y : ℕ) → copy x y ≡ clips_in s w c x y) →
    card.front.width ≡ s.width → card.front.height ≡ s.height → StayOn card clips
copy_stays s w c copy clips card is current wide high (pos x) (pos y) e =
    rw (wide, high) (clips_on s.width s.height (is_window (window_of s c) (top w.stack x y)) x y (sym (current x y) ∙ (sym (is (pos x) (pos y)) ∙ e)))
copy_stays s w c copy clips card is current wide high (pos x) (negsuc y) e = sym (is (pos x) (negsuc y)) ∙ e
copy_stays s w c copy clips card is current wide high (negsuc x) (pos y) e = sym (is (negsuc x) (pos y)) ∙ e
copy_stays s w c copy clips card is current wide high (negsuc x) (negsuc y) e = sym (is (negsuc x) (negsuc y)) ∙ e
