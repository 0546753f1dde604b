-- Who is live can go on.
use Rattle.std.proofs.Common.{◌≡◌, ◌<◌, ◌≤◌, ◌+◌, length, ℕ, List, [], ◌∷◌, Bool, true, false, Option, Some, None, arith, refl, sym, ap, ◌∙◌, inl, inr}
use Rattle.std.specs.Prelude.{◌⊎◌, pred}
use Rattle.std.proofs.lemmas.Bool.{true≢false}
use Rattle.std.proofs.lemmas.Bool.Decides.{nat_tests}
use Rattle.dri_base.specs.declared.command.Command.{Command}
use Rattle.dri_base.specs.declared.command.Command.TheVariants as Command_is
use Rattle.dri_base.specs.declared.journal.Entry.{Entry}
use Rattle.dri_base.specs.declared.journal.Entry.TheVariants as Entry_is
use Rattle.dri_core.specs.Phases.{Phase}
use Rattle.dri_core.specs.Phases.{Out, Old, In, Over, Ask, Asking, Ended}
use Rattle.dri_base.specs.declared.scene.Scene.{Scene}
use Rattle.dri_base.proofs.RangeLemmas.{IsWellFormed}
use Rattle.dri_base.specs.Scenes.{command_at, commands_of}
use Rattle.dri_core.specs.Worlds.{World, opening}
use Rattle.dri_core.specs.Privates.{Private}
use Rattle.dri_core.specs.EntryTable.{LegalEntry, after_entry}
use Rattle.dri_core.specs.Phases.{first_phase, is_holding, is_done, phase_after, left_from}
use Rattle.dri_core.specs.Effects.{is_last, run_by, placed_by, taken_in}
use Rattle.dri_core.specs.Runs.{LegalEntries, after_entries, after, HoldRun}
use Rattle.dri_core.specs.EventTable.{world_after}
use Rattle.dri_core.proofs.Parts.{put_keeps}
use Rattle.dri_core.proofs.Sound.{Sound, sound_kept, sound_opened}
use Rattle.dri_core.proofs.Cores.{IsLegal}

-- the client still has a command to run
abbrev pub has_more : Phase → Bool
has_more Out = true
has_more Old = true
has_more In = true
has_more Ask = true
has_more Asking = true
has_more _ = false

pub record Lively (s : Scene) (w : World) : Type 0 where
  -- the holder is in a phase that holds
  pub held : (c : ℕ) → w.holder ≡ Some c → is_holding (w.client c).phase ≡ true
  pub more : (c : ℕ) → has_more (w.client c).phase ≡ true → (w.client c).place ≤ length (commands_of s c)
  pub empty : (c : ℕ) → commands_of s c ≡ [] → (w.client c).phase ≡ Ended
  pub made : w.made ≤ length s.changes

abbrev pub HeldIn : World → ℕ → Private → Type 0
HeldIn w c p = w.holder ≡ Some c → is_holding p.phase ≡ true

abbrev pub MoreIn : Scene → ℕ → Private → Type 0
MoreIn s c p = has_more p.phase ≡ true → p.place ≤ length (commands_of s c)

abbrev pub EmptyIn : Scene → ℕ → Private → Type 0
EmptyIn s c p = commands_of s c ≡ [] → p.phase ≡ Ended

pub first_more : (cs : List Command) → has_more (first_phase cs) ≡ true → 1 ≤ length cs
first_more [] e = absurd (true≢false (sym e))
first_more (c ∷ cs) e = omega arith

pub lively_opened : (s : Scene) → Lively s (opening s)
lively_opened s = record { held = λ c h. absurd (grind arith); more = λ c. first_more (commands_of s c); empty = λ c e. rw e refl; made = omega arith }

-- a client with no command is in no other phase
pub not_empty : (s : Scene) (w : World) (c : ℕ) (p : Phase) → Lively s w → (w.client c).phase ≡ p → (Ended ≡ p → ⊥) → commands_of s c ≡ [] → ⊥
not_empty s w c p l is ne e = ne (sym (l.empty c e) ∙ is)

pub ran_more : (s : Scene) (c i : ℕ) (command : Option Command) (last : Bool) → is_last s c i ≡ last → has_more (phase_after command last) ≡ true → i + 1 ≤ length (commands_of s c)
ran_more s c i (Some Command_is.Swap) last is e = absurd (true≢false (sym e))
ran_more s c i (Some Command_is.Yield) last is e = absurd (true≢false (sym e))
ran_more s c i _ true is e = absurd (true≢false (sym e))
ran_more s c i _ false is e = grind (arith, nat_tests)

pub ran_holds : (command : Option Command) (last : Bool) → is_holding (phase_after command last) ≡ true
ran_holds (Some Command_is.Swap) last = refl
ran_holds (Some Command_is.Yield) last = refl
ran_holds _ true = refl
ran_holds _ false = refl

pub left_more : (s : Scene) (c place : ℕ) → 0 < place → (p : Phase) → (p ≡ Over) ⊎ (p ≡ Ask) → (p ≡ Ask → place ≤ length (commands_of s c)) → (last : Bool) → is_last s c (pred place) ≡ last → has_more (left_from p last) ≡ true → place ≤ length (commands_of s c)
left_more s c place l p (inr ask) old last is e = old ask
left_more s c place l p (inl over) old true is e = absurd (true≢false (sym (rw over at e)))
left_more s c place l p (inl over) old false is e = grind (arith, nat_tests)

pub lively_step : (s : Scene) (w : World) (e : Entry) → Sound s w → Lively s w → LegalEntry s w e → Lively s (after_entry s w e)
lively_step s w (Entry_is.Light c) sound l legal = record {
  held = grind (arith, nat_tests, l.held);
  more = λ d. put_keeps (MoreIn s) w.client c _ d (λ h. l.more c (rw legal.0 refl)) (l.more d);
  empty = λ d. put_keeps (EmptyIn s) w.client c _ d (λ h. absurd (not_empty s w c Out l legal.0 (λ x. grind arith) h)) (l.empty d);
  made = l.made;
}
lively_step s w (Entry_is.Kernel c found) sound l legal = record {
  held = grind (arith, nat_tests, l.held);
  more = λ d. put_keeps (MoreIn s) w.client c (taken_in s w c) d (λ h. l.more c (rw legal.0 refl)) (l.more d);
  empty = λ d. put_keeps (EmptyIn s) w.client c (taken_in s w c) d (λ h. absurd (not_empty s w c Out l legal.0 (λ x. grind arith) h)) (l.empty d);
  made = l.made;
}
lively_step s w (Entry_is.Stale c) sound l legal = record {
  held = λ d. put_keeps (HeldIn w) w.client c _ d (λ h. refl) (l.held d);
  more = λ d. put_keeps (MoreIn s) w.client c _ d (λ h. l.more c (rw legal refl)) (l.more d);
  empty = λ d. put_keeps (EmptyIn s) w.client c _ d (λ h. absurd (not_empty s w c Old l legal (λ x. grind arith) h)) (l.empty d);
  made = l.made;
}
lively_step s w (Entry_is.Emit c groups) sound l legal = record {
  held = λ d. put_keeps (HeldIn w) w.client c _ d (l.held c) (l.held d);
  more = λ d. put_keeps (MoreIn s) w.client c _ d (l.more c) (l.more d);
  empty = λ d. put_keeps (EmptyIn s) w.client c _ d (l.empty c) (l.empty d);
  made = l.made;
}
lively_step s w (Entry_is.Place c t first count) sound l legal = record {
  held = λ d. put_keeps (HeldIn w) w.client c (placed_by s w c t first count) d (l.held c) (l.held d);
  more = λ d. put_keeps (MoreIn s) w.client c (placed_by s w c t first count) d (l.more c) (l.more d);
  empty = λ d. put_keeps (EmptyIn s) w.client c (placed_by s w c t first count) d (l.empty c) (l.empty d);
  made = l.made;
}
lively_step s w (Entry_is.Run c i) sound l legal = record {
  held = λ d. put_keeps (HeldIn w) w.client c (run_by s w c i) d (λ h. ran_holds (command_at s c i) (is_last s c i)) (l.held d);
  more = λ d. put_keeps (MoreIn s) w.client c (run_by s w c i) d (ran_more s c i (command_at s c i) (is_last s c i) refl) (l.more d);
  empty = λ d. put_keeps (EmptyIn s) w.client c (run_by s w c i) d (λ h. absurd (not_empty s w c In l legal.0 (λ x. grind arith) h)) (l.empty d);
  made = l.made;
}
lively_step s w (Entry_is.Leave c) sound l legal = record {
  held = λ d h. absurd (grind arith);
  more = λ d. put_keeps (MoreIn s) w.client c _ d (left_more s c (w.client c).place (sound.main.started c) (w.client c).phase legal (λ a. l.more c (rw a refl)) (is_last s c (pred (w.client c).place)) refl) (l.more d);
  empty = λ d. put_keeps (EmptyIn s) w.client c _ d (λ h. absurd (leaves h legal)) (l.empty d);
  made = l.made;
}
  where
    leaves : commands_of s c ≡ [] → ((w.client c).phase ≡ Over) ⊎ ((w.client c).phase ≡ Ask) → ⊥
    leaves h (inl p) = not_empty s w c Over l p (λ x. grind arith) h
    leaves h (inr p) = not_empty s w c Ask l p (λ x. grind arith) h
lively_step s w (Entry_is.Info c) sound l legal = record {
  held = λ d h. absurd (grind (arith, legal.1));
  more = λ d. put_keeps (MoreIn s) w.client c _ d (λ h. l.more c (rw legal.0 refl)) (l.more d);
  empty = λ d. put_keeps (EmptyIn s) w.client c _ d (λ h. absurd (not_empty s w c Asking l legal.0 (λ x. grind arith) h)) (l.empty d);
  made = l.made;
}
lively_step s w (Entry_is.Change i) sound l legal = record { held = l.held; more = l.more; empty = l.empty; made = omega (arith, legal.1, legal.2) }
lively_step s w (Entry_is.Gone c) sound l legal = record {
  held = λ d h. absurd (grind arith);
  more = λ d. put_keeps (MoreIn s) w.client c _ d (λ h. absurd (true≢false (sym h))) (l.more d);
  empty = λ d. put_keeps (EmptyIn s) w.client c _ d (λ h. absurd (dies h legal)) (l.empty d);
  made = l.made;
}
  where
    ended : commands_of s c ≡ [] → is_done (w.client c).phase ≡ false → ⊥
    ended h live = true≢false (sym (ap is_done (l.empty c h)) ∙ live)

    dies : commands_of s c ≡ [] → LegalEntry s w (Entry_is.Gone c) → ⊥
    dies h (inl p) = not_empty s w c In l p.0 (λ x. grind arith) h
    dies h (inr p) = ended h p.1

pub lively_on : (s : Scene) (w : World) (o : Option Entry) → Sound s w → Lively s w → IsLegal s w o → Lively s (world_after s w o)
lively_on s w None sound l legal = l
lively_on s w (Some e) sound l legal = lively_step s w e sound l legal

pub lively_along : (s : Scene) (w : World) (es : List Entry) → IsWellFormed s → Sound s w → Lively s w → LegalEntries s w es → Lively s (after_entries s w es)
lively_along s w [] good sound l all = l
lively_along s w (e ∷ es) good sound l all = lively_along s (after_entry s w e) es good (sound_kept s w e good sound all.0) (lively_step s w e sound l all.0) all.1

pub lively_after : (s : Scene) (journal : List Entry) → IsWellFormed s → HoldRun s journal → Lively s (after s journal)
lively_after s journal good run = lively_along s (opening s) journal good (sound_opened s good) (lively_opened s) run
