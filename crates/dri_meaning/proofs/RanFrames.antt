-- The tally counts the frames that ran.
use Rattle.std.proofs.Common.{◌≡◌, ◌+◌, ℕ, zero, suc, List, [], ◌∷◌, ◌++◌, true, Option, Some, None, arith, refl, sym, ap, ◌∙◌, subst}
use Rattle.std.specs.Prelude.{Contains}
use Rattle.std.specs.List.{All}
use Rattle.std.proofs.lemmas.Bool.{true≢false}
use Rattle.std.proofs.lemmas.List.{append_assoc}
use Rattle.std.proofs.lemmas.List.Elements.{All-nil, All-cons, All-append}
use Rattle.dri_base.specs.declared.command.Command.{Command}
use Rattle.dri_base.specs.declared.command.Command.TheVariants as Command_is
use Rattle.dri_base.specs.declared.journal.Entry.{Entry}
use Rattle.dri_base.specs.declared.journal.Entry.TheVariants.{Light, Kernel, Stale, Emit, Place, Leave, Info, Change, Run, Gone}
use Rattle.dri_base.specs.declared.scene.Scene.{Scene}
use Rattle.dri_base.specs.Scenes.{commands_of, command_at}
use Rattle.dri_core.specs.EntryTable.{LegalEntry, after_entry}
use Rattle.dri_core.specs.Frames.{FrameRan, Counts}
use Rattle.dri_meaning.specs.Reports.{Standing, NoClear, Stood, Cut, Tally, counts_frame, tally_after, tally}
use Rattle.dri_core.specs.Runs.{LegalEntries, after, HoldRun}
use Rattle.dri_core.specs.Solo.{is_swap, swaps_before, IsFrame}
use Rattle.dri_core.specs.Worlds.{World, opening}
use Rattle.dri_core.proofs.FrameNumbers.{is_frame}
use Rattle.dri_core.proofs.Laws.{LegalEntries-append}
use Rattle.dri_meaning.proofs.OpenFrames.{IsOpen, OpenIn, Tracked, tracked_opened, tracked_on}
use Rattle.dri_meaning.proofs.EndedFrames.{pick, ended, ends, frame_begun, frame_counting, frames_length, counted_swap, apart, counted_there, tracked_along, open_frame, frame_open, open_here}

-- the frame ran, by its client and its number
abbrev pub Ran : Scene → List Entry → ℕ × ℕ → Type 0
Ran s journal f = FrameRan s journal f.0 f.1

-- frames that end are frames that ran
pub ran_listed : (s : Scene) (journal past es : List Entry) (w : World) (t : Tally) → journal ≡ past ++ es → Tracked s w t → LegalEntries s w es → All (Ran s journal) (ends s counts_frame w t es)
ran_listed s journal past [] w t is tracked legal = All-nil (Ran s journal)
ran_listed s journal past (e ∷ es) w t is tracked legal = All-append (Ran s journal) (ended s counts_frame t e) (ends s counts_frame (after_entry s w e) (tally_after s w e t) es)
    (head e is legal.0) (ran_listed s journal (past ++ e ∷ []) es (after_entry s w e) (tally_after s w e t) (is ∙ sym (append_assoc past (e ∷ []) es)) (tracked_on s w t e legal.0 tracked) legal.1)
  where
    head : (e : Entry) → journal ≡ past ++ e ∷ es → LegalEntry s w e → All (Ran s journal) (ended s counts_frame t e)
    head (Run c i) here at = by_count (counts_frame (command_at s c i) (t.standing c)) refl
      where
        ran : (n : ℕ) → counts_frame (command_at s c i) (t.standing c) ≡ suc n → FrameRan s journal c (swaps_before (commands_of s c) i + 1)
        ran n counts = let o = open_here s w t c i at tracked (λ none. absurd (omega (arith, sym counts ∙ ap (counts_frame (command_at s c i)) none ∙ frame_begun (command_at s c i)))) in
            record { first = o.0; last = i; numbered = open_frame (commands_of s c) o.0 i o.1 (counted_swap s counts_frame frame_counting (command_at s c i) (t.standing c) n counts); past = past; rest = es; swapped = here }

        by_count : (n : ℕ) → counts_frame (command_at s c i) (t.standing c) ≡ n → All (Ran s journal) (pick n (c, swaps_before (commands_of s c) i + 1))
        by_count zero counts = All-nil (Ran s journal)
        by_count (suc n) counts = All-cons (Ran s journal) (c, swaps_before (commands_of s c) i + 1) [] (ran n counts) (All-nil (Ran s journal))
    head (Light c) here at = All-nil (Ran s journal)
    head (Kernel c found) here at = All-nil (Ran s journal)
    head (Stale c) here at = All-nil (Ran s journal)
    head (Emit c groups) here at = All-nil (Ran s journal)
    head (Place c u first n) here at = All-nil (Ran s journal)
    head (Leave c) here at = All-nil (Ran s journal)
    head (Info c) here at = All-nil (Ran s journal)
    head (Change i) here at = All-nil (Ran s journal)
    head (Gone c) here at = All-nil (Ran s journal)

-- a swap counts where its frame has a clear
pub frame_counts : (command : Option Command) (st : Standing) → is_swap command ≡ true → (st ≡ NoClear → ⊥) → counts_frame command st ≡ 1
frame_counts (Some Command_is.Swap) NoClear e begun = absurd (begun refl)
frame_counts (Some Command_is.Swap) Stood e begun = refl
frame_counts (Some Command_is.Swap) Cut e begun = refl
frame_counts (Some (Command_is.Clear colour depth)) st e begun = absurd (true≢false (sym e))
frame_counts (Some (Command_is.Set setting)) st e begun = absurd (true≢false (sym e))
frame_counts (Some (Command_is.Triangle t)) st e begun = absurd (true≢false (sym e))
frame_counts (Some Command_is.Yield) st e begun = absurd (true≢false (sym e))
frame_counts (Some Command_is.Die) st e begun = absurd (true≢false (sym e))
frame_counts None st e begun = absurd (true≢false (sym e))

pub ran_all : (s : Scene) (journal : List Entry) → HoldRun s journal → (c k : ℕ) → FrameRan s journal c k → Contains (ends s counts_frame (opening s) (tally s []) journal) (c, k)
ran_all s journal run c k f = subst (λ j. Contains (ends s counts_frame (opening s) (tally s []) j) (c, k)) (sym f.swapped) (subst (λ n. Contains (ends s counts_frame (opening s) (tally s []) (f.past ++ Run c f.last ∷ f.rest)) (c, n)) (sym is.number)
    (counted_there s counts_frame frame_counting (opening s) (tally s []) f.past f.rest c f.last (frame_counts (command_at s c f.last) _ is.swap begun)))
  where
    is : IsFrame (commands_of s c) k f.first f.last
    is = is_frame (commands_of s c) k f.first f.last f.numbered

    legal : LegalEntries s (opening s) f.past × LegalEntries s (after s f.past) (Run c f.last ∷ f.rest)
    legal = LegalEntries-append s (opening s) f.past (Run c f.last ∷ f.rest) (subst (LegalEntries s (opening s)) f.swapped run)

    tracked : Tracked s (after s f.past) (tally s f.past)
    tracked = tracked_along s (opening s) (tally s []) f.past legal.0 (tracked_opened s)

    begun : (tally s f.past).standing c ≡ NoClear → ⊥
    begun none = (subst (OpenIn (commands_of s c) ((after s f.past).client c).place) none (tracked.stands c)) f.first (subst (IsOpen (commands_of s c) f.first) legal.1.0.1 (frame_open (commands_of s c) k f.first f.last is))

pub frames_counted : (s : Scene) (journal : List Entry) → HoldRun s journal → Counts (FrameRan s journal) (tally s journal).frames
frames_counted s journal run = record {
  frames = ends s counts_frame (opening s) (tally s []) journal;
  counted = let l = frames_length s (opening s) (tally s []) journal in omega (arith, l);
  apart = apart s counts_frame frame_counting (opening s) (tally s []) journal (tracked_opened s) run;
  listed = ran_listed s journal [] journal (opening s) (tally s []) refl (tracked_opened s) run;
  all = ran_all s journal run;
}
