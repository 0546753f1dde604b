-- What follows from the central invariant.
use Rattle.std.proofs.Common.{◌≡◌, ◌≢◌, ℕ, suc, List, [], ◌∷◌, ◌++◌, true, false, Option, Some, arith, refl, ◌∙◌, inl, inr}
use Rattle.std.specs.List.{All}
use Rattle.std.proofs.lemmas.List.{take_more}
use Rattle.std.proofs.Common.{take, get_or, length, subst, ◌<◌, ◌+◌, sym}
use Rattle.std.proofs.lemmas.Bool.Decides.{nat_tests}
use Rattle.dri_base.specs.declared.journal.Entry.{Entry}
use Rattle.dri_base.specs.declared.command.Command.{Command}
use Rattle.dri_base.specs.declared.command.Command.TheVariants.{Swap}
use Rattle.dri_base.specs.declared.journal.Entry.TheVariants.{Change, Run}
use Rattle.dri_base.specs.declared.scene.Scene.{Scene}
use Rattle.dri_base.proofs.RangeLemmas.{IsWellFormed}
use Rattle.dri_base.specs.Scenes.{window_of, command_at}
use Rattle.dri_core.specs.Worlds.{World, opening, clips_in}
use Rattle.dri_core.specs.Privates.{Private}
use Rattle.dri_core.specs.EntryTable.{LegalEntry, after_entry}
use Rattle.dri_core.specs.Effects.{front_after, back_after}
use Rattle.dri_core.specs.Runs.{after_entries, LegalEntries, after, HoldRun, Confined, SameOutside, LightIsCurrent, ActingIsCurrent, IsCurrent, client_of}
use Rattle.dri_core.proofs.Invariant.{is_acting}
use Rattle.dri_core.proofs.Sound.{Sound, sound_after}

-- a run in two parts
pub after_entries-append : (s : Scene) (w : World) (past rest : List Entry) → after_entries s w (past ++ rest) ≡ after_entries s (after_entries s w past) rest
after_entries-append s w [] rest = refl
after_entries-append s w (e ∷ past) rest = after_entries-append s (after_entry s w e) past rest

pub LegalEntries-append : (s : Scene) (w : World) (past rest : List Entry) → LegalEntries s w (past ++ rest) → LegalEntries s w past × LegalEntries s (after_entries s w past) rest
LegalEntries-append s w [] rest allowed = (tt, allowed)
LegalEntries-append s w (e ∷ past) rest allowed = let h = LegalEntries-append s (after_entry s w e) past rest allowed.1 in ((allowed.0, h.0), h.1)

pub LegalEntries-from_parts : (s : Scene) (w : World) (past rest : List Entry) → LegalEntries s w past → LegalEntries s (after_entries s w past) rest → LegalEntries s w (past ++ rest)
LegalEntries-from_parts s w [] rest before more = more
LegalEntries-from_parts s w (e ∷ past) rest before more = (before.0, LegalEntries-from_parts s (after_entry s w e) past rest before.1 more)

-- one entry more
pub after-push : (s : Scene) (journal : List Entry) (e : Entry) → after s (journal ++ e ∷ []) ≡ after_entry s (after s journal) e
after-push s journal e = after_entries-append s (opening s) journal (e ∷ [])

pub HoldRun-push : (s : Scene) (journal : List Entry) (e : Entry) → HoldRun s journal → LegalEntry s (after s journal) e → HoldRun s (journal ++ e ∷ [])
HoldRun-push s journal e run legal = LegalEntries-from_parts s (opening s) journal (e ∷ []) run (legal, tt)

-- one entry more of a list that is gone through
pub HoldRun-more : (s : Scene) (xs : List Entry) (i : ℕ) (d : Entry) → i < length xs → HoldRun s (take i xs) → LegalEntry s (after s (take i xs)) (get_or xs i d) → HoldRun s (take (i + 1) xs)
HoldRun-more s xs i d lt run legal = subst (HoldRun s) (sym (take_more xs i d lt)) (HoldRun-push s (take i xs) (get_or xs i d) run legal)

-- the two laws at a world
pub light_is_current : (s : Scene) (w : World) → Sound s w → LightIsCurrent s w
light_is_current s w sound c none left out = record {
  stamp = sound.main.light_stamp c none left out;
  copy = λ x y. sound.main.copy c x y (sound.main.light_stamp c none left out);
  place = sound.main.place c (sound.main.light_stamp c none left out);
  owner = sound.main.light_owner c none left out;
  local = sound.textures.light_local c none left out;
}

pub acting_is_current : (s : Scene) (w : World) → Sound s w → ActingIsCurrent s w
acting_is_current s w sound c phase = record {
  stamp = stamp;
  copy = λ x y. sound.main.copy c x y stamp;
  place = sound.main.place c stamp;
  owner = sound.main.acting_owner c acts;
  local = sound.textures.acting_local c acts;
}
  where
    acts : is_acting (w.client c).phase ≡ true
    acts = elim phase [ inl e ↦ rw e refl | inr e ↦ rw e refl ]

    stamp : (w.client c).stamp ≡ w.stamps (window_of s c)
    stamp = sound.main.acting_stamp c acts

-- a pixel outside the copy stays
pub back_left : (w : World) (p : Private) (command : Option Command) (x y : ℕ) → p.copy x y ≡ false → back_after w p command x y ≡ w.back x y
back_left w p command x y o = rw o refl

same_outside : (s : Scene) (w : World) (c i : ℕ) → ((x y : ℕ) → (w.client c).copy x y ≡ clips_in s w c x y) →
    SameOutside (clips_in s w c) w (after_entry s w (Run c i))
same_outside s w c i copy = record { front = λ x y o. front (command_at s c i) x y (copy x y ∙ o); back = λ x y o. back_left w (w.client c) (command_at s c i) x y (copy x y ∙ o) }
  where
    front : (command : Option Command) (x y : ℕ) → (w.client c).copy x y ≡ false → front_after w (w.client c).copy command x y ≡ w.front x y
    front (Some Swap) x y o = rw o refl
    front _ x y o = refl

pub confined_run : (s : Scene) (journal : List Entry) → IsWellFormed s → HoldRun s journal → Confined s journal
confined_run s journal good run past rest c i e =
    rw after_entries-append (same_outside s (after s past) c i current.copy)
  where
    parts : LegalEntries s (opening s) past × LegalEntries s (after s past) (Run c i ∷ rest)
    parts = LegalEntries-append s (opening s) past (Run c i ∷ rest) (rw e at run)

    current : IsCurrent s (after s past) c
    current = acting_is_current s (after s past) (sound_after s past good parts.0) c (inl parts.1.0.0)

-- others leave a client's part
foreign_entry : (s : Scene) (w : World) (e : Entry) (c : ℕ) → client_of e ≢ c → (after_entry s w e).client c ≡ w.client c
foreign_entry s w (Change i) c ne = refl
foreign_entry s w _ c ne = grind (arith, nat_tests)

pub foreign_entries : (s : Scene) (w : World) (es : List Entry) (c : ℕ) → All (λ e. client_of e ≢ c) es → (after_entries s w es).client c ≡ w.client c
foreign_entries s w [] c others = refl
foreign_entries s w (e ∷ es) c others =
    foreign_entries s (after_entry s w e) es c (λ k d l. others (suc k) d (omega arith)) ∙ foreign_entry s w e c (others 0 e (omega arith))
