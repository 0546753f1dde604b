-- The counts that a replay keeps.
use Rattle.std.specs.Prelude.{◌≡◌, Bool, ℕ, List, [], ◌∷◌, ◌==◌, ◌||◌, ◌&&◌, false, not, length, Option, Some, slice_get}
use Rattle.dri_base.specs.declared.scene.ClientScript.{ClientScript}
use Rattle.dri_base.specs.declared.scene.Scene.{Scene}
use Rattle.dri_journal.specs.declared.tally.Standing.{Standing}
use Rattle.dri_journal.specs.declared.tally.Standing.TheVariants as Standing_is
use Rattle.dri_journal.specs.declared.tally.Tally.{Tally}
use Rattle.dri_meaning.specs.Reports.{cut_by}
use Rattle.dri_meaning.specs.Reports as Reports
use Rattle.dri_model.specs.Stacks.{is_moved}

-- the standing that it stands for
abbrev pub standing_in : Standing → Reports.Standing
standing_in Standing_is.NoClear = Reports.NoClear
standing_in Standing_is.Stood = Reports.Stood
standing_in Standing_is.Cut = Reports.Cut

-- a number of the list is this one
abbrev pub has_number : List ℕ → ℕ → Bool
has_number [] n = false
has_number (m ∷ ms) n = (m == n) || has_number ms n

-- what stands on window n is cut: the window is one of these, and not the one that was moved whole, if one was
abbrev pub is_cut : List ℕ → Option ℕ → ℕ → Bool
is_cut windows whole n = not (is_moved n whole) && has_number windows n

-- before the first entry
abbrev pub no_tally : Reports.Tally
no_tally = record { frames = 0; stood = 0; standing = λ c. Reports.NoClear }

-- the counts are those of the tally, for each script of the scene
pub record IsTallyOf (s : Scene) (t : Reports.Tally) (tally : Tally) : Type 0 where
  pub frames : tally.frames ≡ t.frames
  pub stood : tally.stood ≡ t.stood
  pub room : length tally.standings.items ≡ length s.clients
  pub each : (i : ℕ) (p : ClientScript) (x : Standing) → slice_get s.clients i ≡ Some p → slice_get tally.standings.items i ≡ Some x → standing_in x ≡ t.standing p.number

-- the frame of each client is cut that draws on one of these windows, but for the one that was moved whole, if one was
pub record AreCut (clients : List ClientScript) (windows : List ℕ) (whole : Option ℕ) (old new : List Standing) : Type 0 where
  pub room : length new ≡ length old
  pub each : (i : ℕ) (p : ClientScript) (x y : Standing) → slice_get clients i ≡ Some p → slice_get old i ≡ Some x → slice_get new i ≡ Some y → standing_in y ≡ cut_by (is_cut windows whole p.window) (standing_in x)
