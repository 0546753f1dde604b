-- The tally counts the frames that stood.
use Rattle.std.proofs.Common.{◌≡◌, ◌<◌, ◌≤◌, ◌+◌, ℕ, zero, suc, List, [], ◌∷◌, ◌++◌, Bool, true, false, not, Option, Some, None, arith, refl, sym, ap, ◌∙◌, inl, inr, subst}
use Rattle.std.specs.Prelude.{◌==◌, ◌⊎◌, if◌then◌else◌, Contains}
use Rattle.std.specs.List.{All}
use Rattle.std.proofs.lemmas.Bool.{true≢false, cases_eq}
use Rattle.std.proofs.lemmas.Bool.Decides.{nat_tests}
use Rattle.std.proofs.lemmas.List.{append_assoc}
use Rattle.std.proofs.lemmas.List.Elements.{All-nil, All-cons, All-append}
use Rattle.dri_base.specs.declared.command.Command.{Command}
use Rattle.dri_base.specs.declared.command.Command.TheVariants as Command_is
use Rattle.dri_base.specs.declared.journal.Entry.{Entry}
use Rattle.dri_base.specs.declared.journal.Entry.TheVariants.{Light, Kernel, Stale, Emit, Place, Leave, Info, Change, Run, Gone}
use Rattle.dri_base.specs.declared.scene.Scene.{Scene}
use Rattle.dri_base.specs.Scenes.{commands_of, window_of, command_at}
use Rattle.dri_core.specs.Effects.{run_by}
use Rattle.dri_core.specs.EntryTable.{LegalEntry, after_entry}
use Rattle.dri_core.specs.Frames.{Stands, FrameStood, Counts, keeps}
use Rattle.dri_meaning.specs.Reports.{Standing, NoClear, Stood, Cut, Tally, standing_after, cut_by, counts_stood, tally_after, tally_from, tally}
use Rattle.dri_core.specs.Runs.{after_entries, LegalEntries, after, HoldRun}
use Rattle.dri_core.specs.Solo.{is_clear, is_swap, swaps_before, IsFrame}
use Rattle.dri_core.specs.Worlds.{World, opening}
use Rattle.dri_core.proofs.FrameNumbers.{is_frame}
use Rattle.dri_core.proofs.Parts.{put_here}
use Rattle.dri_core.proofs.Laws.{after_entries-append, LegalEntries-append}
use Rattle.dri_meaning.proofs.OpenFrames.{IsOpen, Tracked, tracked_opened, tracked_on}
use Rattle.dri_meaning.proofs.EndedFrames.{pick, ended, ends, stood_counting, stood_length, place_on, places_on, counted_swap, apart, counted_there, tally_append, open_frame}
use Rattle.dri_meaning.proofs.StoodSince.{History, history_on}

-- the frame stood, by its client and its number
abbrev pub DidStand : Scene → List Entry → ℕ × ℕ → Type 0
DidStand s journal f = FrameStood s journal f.0 f.1

-- a swap that counts as one that stood is a stood one
pub stood_is : (command : Option Command) (st : Standing) (n : ℕ) → counts_stood command st ≡ suc n → st ≡ Stood
stood_is (Some Command_is.Swap) Stood n e = refl
stood_is (Some Command_is.Swap) NoClear n e = absurd (omega (arith, e))
stood_is (Some Command_is.Swap) Cut n e = absurd (omega (arith, e))
stood_is (Some (Command_is.Clear colour depth)) st n e = absurd (omega (arith, e))
stood_is (Some (Command_is.Set setting)) st n e = absurd (omega (arith, e))
stood_is (Some (Command_is.Triangle t)) st n e = absurd (omega (arith, e))
stood_is (Some Command_is.Yield) st n e = absurd (omega (arith, e))
stood_is (Some Command_is.Die) st n e = absurd (omega (arith, e))
stood_is None st n e = absurd (omega (arith, e))

pub stood_listed : (s : Scene) (journal past es : List Entry) (w : World) (t : Tally) → journal ≡ past ++ es → after s past ≡ w → Tracked s w t → History s past w t → LegalEntries s w es → All (DidStand s journal) (ends s counts_stood w t es)
stood_listed s journal past [] w t is here tracked history legal = All-nil (DidStand s journal)
stood_listed s journal past (e ∷ es) w t is here tracked history legal = All-append (DidStand s journal) (ended s counts_stood t e) (ends s counts_stood (after_entry s w e) (tally_after s w e t) es)
    (head e is legal.0) (stood_listed s journal (past ++ e ∷ []) es (after_entry s w e) (tally_after s w e t) (is ∙ sym (append_assoc past (e ∷ []) es)) (after_entries-append s (opening s) past (e ∷ []) ∙ ap (λ v. after_entry s v e) here)
    (tracked_on s w t e legal.0 tracked) (history_on s past w t e here legal.0 tracked history) legal.1)
  where
    head : (e : Entry) → journal ≡ past ++ e ∷ es → LegalEntry s w e → All (DidStand s journal) (ended s counts_stood t e)
    head (Run c i) there at = by_count (counts_stood (command_at s c i) (t.standing c)) refl
      where
        stood : (n : ℕ) → counts_stood (command_at s c i) (t.standing c) ≡ suc n → FrameStood s journal c (swaps_before (commands_of s c) i + 1)
        stood n counts = let f = history c (stood_is (command_at s c i) (t.standing c) n counts) in
            record {
              first = f.first;
              last = i;
              numbered = open_frame (commands_of s c) f.first i (subst (IsOpen (commands_of s c) f.first) (sym at.1) f.begun) (counted_swap s counts_stood stood_counting (command_at s c i) (t.standing c) n counts);
              past = f.before;
              middle = f.since;
              rest = es;
              swapped = there ∙ ap (λ p. p ++ Run c i ∷ es) f.split ∙ append_assoc f.before (Run c f.first ∷ f.since) (Run c i ∷ es);
              stands = f.stands;
            }

        by_count : (n : ℕ) → counts_stood (command_at s c i) (t.standing c) ≡ n → All (DidStand s journal) (pick n (c, swaps_before (commands_of s c) i + 1))
        by_count zero counts = All-nil (DidStand s journal)
        by_count (suc n) counts = All-cons (DidStand s journal) (c, swaps_before (commands_of s c) i + 1) [] (stood n counts) (All-nil (DidStand s journal))
    head (Light c) there at = All-nil (DidStand s journal)
    head (Kernel c found) there at = All-nil (DidStand s journal)
    head (Stale c) there at = All-nil (DidStand s journal)
    head (Emit c groups) there at = All-nil (DidStand s journal)
    head (Place c u first n) there at = All-nil (DidStand s journal)
    head (Leave c) there at = All-nil (DidStand s journal)
    head (Info c) there at = All-nil (DidStand s journal)
    head (Change i) there at = All-nil (DidStand s journal)
    head (Gone c) there at = All-nil (DidStand s journal)

-- a frame that has stood goes on standing, until its swap
pub stays_by : (command : Option Command) → is_swap command ≡ false → standing_after command Stood ≡ Stood
stays_by (Some Command_is.Swap) e = absurd (true≢false e)
stays_by (Some (Command_is.Clear colour depth)) e = refl
stays_by (Some (Command_is.Set setting)) e = refl
stays_by (Some (Command_is.Triangle t)) e = refl
stays_by (Some Command_is.Yield) e = refl
stays_by (Some Command_is.Die) e = refl
stays_by None e = refl

pub stays_uncut : (st : Standing) (keeps : Bool) → keeps ≡ true → st ≡ Stood → cut_by (not keeps) st ≡ Stood
stays_uncut st keeps k h = rw (k, h) refl

module _ (s : Scene) (c k first last : ℕ) (f : IsFrame (commands_of s c) k first last) where
  pub stays : (w : World) (t : Tally) (es : List Entry) → t.standing c ≡ Stood → Stands s (window_of s c) w es → LegalEntries s w es → first < (w.client c).place → ((after_entries s w es).client c).place ≤ last → (tally_from s w t es).standing c ≡ Stood
  stays w t [] stood stands legal after_first upto = stood
  stays w t (e ∷ es) stood stands legal after_first upto =
      stays (after_entry s w e) (tally_after s w e t) es (by_entry e stands.0 legal.0 (omega (arith, upto, places_on s (after_entry s w e) es c legal.1))) stands.1 legal.1 (omega (arith, after_first, place_on s w e c legal.0)) upto
    where
      by_entry : (e : Entry) → keeps s w e (window_of s c) ≡ true → LegalEntry s w e → ((after_entry s w e).client c).place ≤ last → (tally_after s w e t).standing c ≡ Stood
      by_entry (Light d) same at le = stood
      by_entry (Kernel d found) same at le = stood
      by_entry (Stale d) same at le = stood
      by_entry (Emit d groups) same at le = stood
      by_entry (Place d u first n) same at le = stood
      by_entry (Leave d) same at le = stood
      by_entry (Info d) same at le = stood
      by_entry (Change i) same at le = stays_uncut (t.standing c) (keeps s w (Change i) (window_of s c)) same stood
      by_entry (Gone d) same at le = stays_uncut (t.standing c) (keeps s w (Gone d) (window_of s c)) same stood
      by_entry (Run d i) same at le = by_client (cases_eq c d)
        where
          by_client : (c ≡ d) ⊎ (c ≡ d → ⊥) → (if c == d then standing_after (command_at s d i) (t.standing c) else t.standing c) ≡ Stood
          by_client (inr ne) = rw other stood
            where
              other : (c == d) ≡ false
              other = grind (arith, nat_tests)
          by_client (inl e) = rw (is, stood) (stays_by (command_at s d i) (subst (λ x. is_swap (command_at s x i) ≡ false) e no_swap))
            where
              is : (c == d) ≡ true
              is = grind (arith, nat_tests)

              place : ((after_entry s w (Run d i)).client c).place ≡ i + 1
              place = ap (λ x. ((after_entry s w (Run d i)).client x).place) e ∙ ap (λ p. p.place) (put_here w.client d (run_by s w d i))

              at_place : i ≡ (w.client c).place
              at_place = at.1 ∙ ap (λ x. (w.client x).place) (sym e)

              no_swap : is_swap (command_at s c i) ≡ false
              no_swap = (f.inner i (omega (arith, after_first, at_place)) (omega (arith, le, place))).1

pub cleared_stands : (command : Option Command) (st : Standing) → is_clear command ≡ true → standing_after command st ≡ Stood
cleared_stands (Some (Command_is.Clear colour depth)) st e = refl
cleared_stands (Some Command_is.Swap) st e = absurd (true≢false (sym e))
cleared_stands (Some (Command_is.Set setting)) st e = absurd (true≢false (sym e))
cleared_stands (Some (Command_is.Triangle t)) st e = absurd (true≢false (sym e))
cleared_stands (Some Command_is.Yield) st e = absurd (true≢false (sym e))
cleared_stands (Some Command_is.Die) st e = absurd (true≢false (sym e))
cleared_stands None st e = absurd (true≢false (sym e))

-- a stood frame's swap counts
pub stood_counts : (command : Option Command) (st : Standing) → is_swap command ≡ true → st ≡ Stood → counts_stood command st ≡ 1
stood_counts (Some Command_is.Swap) st e h = rw h refl
stood_counts (Some (Command_is.Clear colour depth)) st e h = absurd (true≢false (sym e))
stood_counts (Some (Command_is.Set setting)) st e h = absurd (true≢false (sym e))
stood_counts (Some (Command_is.Triangle t)) st e h = absurd (true≢false (sym e))
stood_counts (Some Command_is.Yield) st e h = absurd (true≢false (sym e))
stood_counts (Some Command_is.Die) st e h = absurd (true≢false (sym e))
stood_counts None st e h = absurd (true≢false (sym e))

pub stood_all : (s : Scene) (journal : List Entry) → HoldRun s journal → (c k : ℕ) → FrameStood s journal c k → Contains (ends s counts_stood (opening s) (tally s []) journal) (c, k)
stood_all s journal run c k f = subst (λ j. Contains (ends s counts_stood (opening s) (tally s []) j) (c, k)) (sym split) (subst (λ n. Contains (ends s counts_stood (opening s) (tally s []) (before ++ Run c f.last ∷ f.rest)) (c, n)) (sym is.number)
    (counted_there s counts_stood stood_counting (opening s) (tally s []) before f.rest c f.last (stood_counts (command_at s c f.last) _ is.swap stood)))
  where
    is : IsFrame (commands_of s c) k f.first f.last
    is = is_frame (commands_of s c) k f.first f.last f.numbered

    before : List Entry
    before = f.past ++ Run c f.first ∷ f.middle

    split : journal ≡ before ++ Run c f.last ∷ f.rest
    split = f.swapped ∙ sym (append_assoc f.past (Run c f.first ∷ f.middle) (Run c f.last ∷ f.rest))

    legal : LegalEntries s (opening s) before × LegalEntries s (after s before) (Run c f.last ∷ f.rest)
    legal = LegalEntries-append s (opening s) before (Run c f.last ∷ f.rest) (subst (LegalEntries s (opening s)) split run)

    parts : LegalEntries s (opening s) f.past × LegalEntries s (after s f.past) (Run c f.first ∷ f.middle)
    parts = LegalEntries-append s (opening s) f.past (Run c f.first ∷ f.middle) legal.0

    cleared : World
    cleared = after_entry s (after s f.past) (Run c f.first)

    at_swap : after_entries s cleared f.middle ≡ after s before
    at_swap = sym (after_entries-append s (opening s) f.past (Run c f.first ∷ f.middle))

    place : ((after_entry s (after s f.past) (Run c f.first)).client c).place ≡ f.first + 1
    place = ap (λ p. p.place) (put_here (after s f.past).client c (run_by s (after s f.past) c f.first))

    same : (c == c) ≡ true
    same = grind (arith, nat_tests)

    after_clear : (tally_after s (after s f.past) (Run c f.first) (tally s f.past)).standing c ≡ Stood
    after_clear = rw same (cleared_stands (command_at s c f.first) ((tally s f.past).standing c) is.clear)

    upto : ((after_entries s cleared f.middle).client c).place ≤ f.last
    upto = rw at_swap (omega (arith, legal.1.0.1))

    stood : (tally s before).standing c ≡ Stood
    stood = ap (λ t. t.standing c) (tally_append s (opening s) (tally s []) f.past (Run c f.first ∷ f.middle)) ∙
        stays s c k f.first f.last is cleared (tally_after s (after s f.past) (Run c f.first) (tally s f.past)) f.middle after_clear f.stands parts.1.1 (rw place (omega arith)) upto

pub no_history : (s : Scene) → History s [] (opening s) (tally s [])
no_history s c e = absurd (none e)
  where
    none : NoClear ≡ Stood → ⊥
    none e = grind arith

pub stood_counted : (s : Scene) (journal : List Entry) → HoldRun s journal → Counts (FrameStood s journal) (tally s journal).stood
stood_counted s journal run = record {
  frames = ends s counts_stood (opening s) (tally s []) journal;
  counted = let l = stood_length s (opening s) (tally s []) journal in omega (arith, l);
  apart = apart s counts_stood stood_counting (opening s) (tally s []) journal (tracked_opened s) run;
  listed = stood_listed s journal [] journal (opening s) (tally s []) refl refl (tracked_opened s) (no_history s) run;
  all = stood_all s journal run;
}
