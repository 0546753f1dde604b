-- The counts of a replay with one entry more, and what it does to the planes.
use Rattle.std.proofs.Common.{◌≡◌, ◌≢◌, ◌<◌, ◌≤◌, ◌+◌, ◌∙◌, ℕ, List, [], ◌∷◌, Bool, true, false, Option, Some, None, length, get_or, refl, sym, ap, subst, arith, inl, inr}
use Rattle.std.specs.Prelude.{◌⊎◌, ◌==◌, if◌then◌else◌, slice_get}
use Rattle.std.proofs.lemmas.Bool.{cases_eq, true≢false}
use Rattle.std.proofs.lemmas.Bool.Decides.{nat_tests}
use Rattle.std.proofs.lemmas.Option.{get_or_from_slice_get, slice_get-get_or, slice_get_within}
use Rattle.dri_base.specs.Ranges.{InRange}
use Rattle.dri_base.specs.Scenes.{command_at, script_of}
use Rattle.dri_base.specs.declared.command.Command.{Command}
use Rattle.dri_base.specs.declared.command.Command.TheVariants as Command_is
use Rattle.dri_base.specs.declared.journal.Entry.{Entry}
use Rattle.dri_base.specs.declared.journal.Entry.TheVariants as Entry_is
use Rattle.dri_base.specs.declared.scene.ClientScript.{ClientScript}
use Rattle.dri_base.specs.declared.scene.Scene.{Scene}
use Rattle.dri_base.proofs.RangeLemmas.{number_of_script}
use Rattle.dri_core.specs.EntryTable.{after_entry}
use Rattle.dri_core.specs.Runs.{client_of}
use Rattle.dri_core.specs.Worlds.{World, opening}
use Rattle.dri_journal.specs.Acts.{is_quiet, ran_by}
use Rattle.dri_journal.specs.Deeds.{Does, deed_by}
use Rattle.dri_journal.specs.Tallies.{IsTallyOf, standing_in}
use Rattle.dri_journal.specs.declared.tally.Standing.{Standing}
use Rattle.dri_journal.specs.declared.tally.Standing.TheVariants as Standing_is
use Rattle.dri_journal.specs.declared.tally.Tally.{Tally}
use Rattle.dri_journal.proofs.Keeping.{other_client}
use Rattle.dri_journal.proofs.Legal.{Runs}
use Rattle.dri_meaning.specs.Reports as Reports
use Rattle.dri_meaning.specs.Reports.{counts_frame, counts_stood, cut_by, standing_after, tally, tally_after, tally_cut, tally_from, tally_run}

some_one : {A : Type 0} {x y : A} → Some x ≡ Some y → x ≡ y
some_one e = cc

-- no more frames are counted than there are entries
one_frame : (command : Option Command) (x : Reports.Standing) → counts_frame command x ≤ 1
one_frame (Some Command_is.Swap) Reports.Stood = omega arith
one_frame (Some Command_is.Swap) Reports.Cut = omega arith
one_frame (Some Command_is.Swap) Reports.NoClear = omega arith
one_frame _ x = omega arith

one_stood : (command : Option Command) (x : Reports.Standing) → counts_stood command x ≤ 1
one_stood (Some Command_is.Swap) Reports.Stood = omega arith
one_stood (Some Command_is.Swap) Reports.Cut = omega arith
one_stood (Some Command_is.Swap) Reports.NoClear = omega arith
one_stood _ x = omega arith

frames_after : (s : Scene) (w : World) (e : Entry) (t : Reports.Tally) → (tally_after s w e t).frames ≤ t.frames + 1
frames_after s w (Entry_is.Run c i) t = omega (arith, one_frame (command_at s c i) (t.standing c))
frames_after s w _ t = omega arith

stood_after : (s : Scene) (w : World) (e : Entry) (t : Reports.Tally) → (tally_after s w e t).stood ≤ t.stood + 1
stood_after s w (Entry_is.Run c i) t = omega (arith, one_stood (command_at s c i) (t.standing c))
stood_after s w _ t = omega arith

few_from : (s : Scene) (w : World) (t : Reports.Tally) (es : List Entry) → ((tally_from s w t es).frames ≤ t.frames + length es) × ((tally_from s w t es).stood ≤ t.stood + length es)
few_from s w t [] = (omega arith, omega arith)
few_from s w t (e ∷ es) = let rest = few_from s (after_entry s w e) (tally_after s w e t) es in (omega (arith, rest.0, frames_after s w e t), omega (arith, rest.1, stood_after s w e t))

pub few_frames : (s : Scene) (j : List Entry) → ((tally s j).frames ≤ length j) × ((tally s j).stood ≤ length j)
few_frames s j = let f = few_from s (opening s) (record { frames = 0; stood = 0; standing = λ c. Reports.NoClear }) j in (omega (arith, f.0), omega (arith, f.1))

-- the client of the script at a place ran a command, or none
module _ (s : Scene) (t : Reports.Tally) (c i : ℕ) (command : Option Command) (old new : Tally) (good : InRange s) (there : slice_get s.clients i ≡ Some (script_of s c)) (is : IsTallyOf s t old)
    (frames : new.frames ≡ old.frames + counts_frame command (standing_in (get_or old.standings.items i Standing_is.NoClear)))
    (stood : new.stood ≡ old.stood + counts_stood command (standing_in (get_or old.standings.items i Standing_is.NoClear)))
    (others : (k : ℕ) → (k ≡ i → ⊥) → slice_get new.standings.items k ≡ slice_get old.standings.items k)
    (own : standing_in (get_or new.standings.items i Standing_is.NoClear) ≡ standing_after command (standing_in (get_or old.standings.items i Standing_is.NoClear)))
    (room : length new.standings.items ≡ length old.standings.items) where
  below : i < length old.standings.items
  below = rw is.room (slice_get_within s.clients i (script_of s c) there)

  was : standing_in (get_or old.standings.items i Standing_is.NoClear) ≡ t.standing c
  was = is.each i (script_of s c) (get_or old.standings.items i Standing_is.NoClear) there (slice_get-get_or old.standings.items i Standing_is.NoClear below) ∙ ap t.standing (number_of_script s.clients c)

  ran : IsTallyOf s (tally_run s t c command) new
  ran = record {
    frames = frames ∙ (λ k. is.frames k + counts_frame command (was k));
    stood = stood ∙ (λ k. is.stood k + counts_stood command (was k));
    room = room ∙ is.room;
    each = each;
  }
    where
      each : (k : ℕ) (p : ClientScript) (x : Standing) → slice_get s.clients k ≡ Some p → slice_get new.standings.items k ≡ Some x → standing_in x ≡ (if p.number == c then standing_after command (t.standing p.number) else t.standing p.number)
      each k p x at_p at_x = by_place (cases_eq k i)
        where
          by_place : (k ≡ i) ⊎ (k ≡ i → ⊥) → standing_in x ≡ (if p.number == c then standing_after command (t.standing p.number) else t.standing p.number)
          by_place (inl same) =
              let script : script_of s c ≡ p = some_one (sym there ∙ ap (slice_get s.clients) (sym same) ∙ at_p) in
              let number : p.number ≡ c = ap (λ (q : ClientScript). q.number) (sym script) ∙ number_of_script s.clients c in
              let here : (c == c) ≡ true = grind (arith, nat_tests) in
              let value : get_or new.standings.items i Standing_is.NoClear ≡ x = get_or_from_slice_get new.standings.items i x Standing_is.NoClear (subst (λ n. slice_get new.standings.items n ≡ Some x) same at_x) in
              ap standing_in (sym value) ∙ own ∙ ap (standing_after command) was ∙ rw (number, here) refl
          by_place (inr other) =
              let ne : p.number ≢ c = other_client s c i k p good there at_p other in
              let test : (p.number == c) ≡ false = grind (arith, nat_tests) in
              is.each k p x at_p (sym (others k other) ∙ at_x) ∙ rw test refl

  same_if : (b : Bool) (x : Reports.Standing) → (if b then standing_after None x else x) ≡ x
  same_if true x = refl
  same_if false x = refl

  idle : command ≡ None → IsTallyOf s t new
  idle none = record {
    frames = ran.frames ∙ (λ k. t.frames + counts_frame (none k) (t.standing c)) ∙ (omega arith);
    stood = ran.stood ∙ (λ k. t.stood + counts_stood (none k) (t.standing c)) ∙ (omega arith);
    room = ran.room;
    each = λ k p x at_p at_x. ran.each k p x at_p at_x ∙ (λ n. if p.number == c then standing_after (none n) (t.standing p.number) else t.standing p.number) ∙ same_if (p.number == c) (t.standing p.number);
  }

  pub counted : (w : World) (e : Entry) (next : Option Command) → client_of e ≡ c → is_quiet e ≡ true → command ≡ ran_by e next → Runs s e next → IsTallyOf s (tally_after s w e t) new
  counted w (Entry_is.Run d n) next at quiet by runs = subst (λ m. IsTallyOf s (tally_run s t m (command_at s d n)) new) (sym at) (subst (λ m. IsTallyOf s (tally_run s t c m) new) (by ∙ runs) ran)
  counted w (Entry_is.Light d) next at quiet by runs = idle by
  counted w (Entry_is.Kernel d found) next at quiet by runs = idle by
  counted w (Entry_is.Stale d) next at quiet by runs = idle by
  counted w (Entry_is.Info d) next at quiet by runs = idle by
  counted w (Entry_is.Emit d groups) next at quiet by runs = idle by
  counted w (Entry_is.Leave d) next at quiet by runs = idle by
  counted w (Entry_is.Place d n first count) next at quiet by runs = idle by
  counted w (Entry_is.Change n) next at quiet by runs = absurd (true≢false (sym quiet))
  counted w (Entry_is.Gone d) next at quiet by runs = absurd (true≢false (sym quiet))

-- what a quiet entry does to the planes
pub does : (s : Scene) (w : World) (e : Entry) (next : Option Command) → is_quiet e ≡ true → Runs s e next → Does s w e (deed_by (ran_by e next))
does s w (Entry_is.Run c i) next quiet runs = ap deed_by runs
does s w (Entry_is.Light d) next quiet runs = refl
does s w (Entry_is.Kernel d found) next quiet runs = refl
does s w (Entry_is.Stale d) next quiet runs = refl
does s w (Entry_is.Info d) next quiet runs = refl
does s w (Entry_is.Emit d groups) next quiet runs = refl
does s w (Entry_is.Leave d) next quiet runs = refl
does s w (Entry_is.Place d n first count) next quiet runs = refl
does s w (Entry_is.Change n) next quiet runs = absurd (true≢false (sym quiet))
does s w (Entry_is.Gone d) next quiet runs = absurd (true≢false (sym quiet))
