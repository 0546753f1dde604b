-- Whose stamp is old: who has found it, said it, or asks.
use Rattle.std.proofs.Common.{◌≡◌, ℕ, List, [], ◌∷◌, Bool, true, false, arith, refl, sym, ◌∙◌, inl, inr}
use Rattle.std.specs.Prelude.{◌==◌, ◌⊎◌, pred, if◌then◌else◌}
use Rattle.std.proofs.lemmas.Bool.{true≢false}
use Rattle.std.proofs.lemmas.Bool.Decides.{nat_tests}
use Rattle.dri_base.specs.declared.journal.Entry.{Entry}
use Rattle.dri_base.specs.declared.journal.Entry.TheVariants.{Light, Kernel, Stale, Emit, Place, Leave, Info, Change, Run, Gone}
use Rattle.dri_base.specs.declared.command.Command.{Command}
use Rattle.dri_base.specs.declared.command.Command.TheVariants as Command_is
use Rattle.dri_base.specs.declared.scene.Scene.{Scene}
use Rattle.std.specs.Prelude.{Option, Some, None}
use Rattle.dri_core.specs.Effects.{run_by, placed_by, taken_in, is_last}
use Rattle.dri_core.specs.EntryTable.{LegalEntry, after_entry}
use Rattle.dri_core.specs.Phases.{Phase, Old, In, Over, Ask, Asking, phase_after, left_from, first_phase}
use Rattle.dri_core.specs.Privates.{Private}
use Rattle.dri_core.specs.Restacks.{next_stack}
use Rattle.dri_base.specs.Scenes.{window_of, command_at, commands_of}
use Rattle.dri_core.specs.Worlds.{World, opening}
use Rattle.dri_core.specs.EventTable.{world_after}
use Rattle.dri_core.proofs.Cores.{IsLegal}
use Rattle.dri_model.specs.Stacks.{without_owner}
use Rattle.dri_core.proofs.Parts.{put_keeps}
use Rattle.dri_core.proofs.Restacking.{stamp_stood}
use Rattle.dri_core.proofs.Sound.{Sound}

-- phases in which a client's stamp is old
abbrev pub is_aged : Phase → Bool
is_aged Old = true
is_aged Ask = true
is_aged Asking = true
is_aged _ = false

abbrev pub AgedIn : Scene → (ℕ → ℕ) → ℕ → Private → Type 0
AgedIn s stamps c p = is_aged p.phase ≡ true → p.stamp ≡ stamps (window_of s c) → ⊥

-- the stamp of each client in such a phase isn't the shared one
abbrev pub Aged : Scene → World → Type 0
Aged s w = (c : ℕ) → AgedIn s w.stamps c (w.client c)

first_young : (cs : List Command) → is_aged (first_phase cs) ≡ false
first_young [] = refl
first_young (c ∷ cs) = refl

pub aged_opened : (s : Scene) → Aged s (opening s)
aged_opened s c h e = true≢false (sym h ∙ first_young (commands_of s c))

ran_young : (command : Option Command) (last : Bool) → is_aged (phase_after command last) ≡ false
ran_young (Some Command_is.Swap) last = refl
ran_young (Some Command_is.Yield) last = refl
ran_young _ true = refl
ran_young _ false = refl

left_aged : (p : Phase) (last : Bool) → (p ≡ Over) ⊎ (p ≡ Ask) → is_aged (left_from p last) ≡ true → is_aged p ≡ true
left_aged p last (inr ask) e = rw ask refl
left_aged p true (inl over) e = absurd (true≢false (sym (rw over at e)))
left_aged p false (inl over) e = absurd (true≢false (sym (rw over at e)))

taken_aged : (stamp shared : ℕ) → is_aged (if stamp == shared then In else Old) ≡ true → stamp ≡ shared → ⊥
taken_aged stamp shared e same = by_test (stamp == shared) refl
  where
    by_test : (b : Bool) → (stamp == shared) ≡ b → ⊥
    by_test true t = true≢false (sym (rw t at e))
    by_test false t = grind (arith, nat_tests)

pub aged_step : (s : Scene) (w : World) (e : Entry) → Sound s w → Aged s w → LegalEntry s w e → Aged s (after_entry s w e)
aged_step s w (Light c) sound a legal d = put_keeps (AgedIn s w.stamps) w.client c _ d (λ h e. true≢false (sym h)) (a d)
aged_step s w (Kernel c found) sound a legal d = put_keeps (AgedIn s w.stamps) w.client c (taken_in s w c) d (taken_aged (w.client c).stamp (w.stamps (window_of s c))) (a d)
aged_step s w (Stale c) sound a legal d = put_keeps (AgedIn s w.stamps) w.client c _ d (λ h. a c (rw legal refl)) (a d)
aged_step s w (Emit c groups) sound a legal d = put_keeps (AgedIn s w.stamps) w.client c _ d (a c) (a d)
aged_step s w (Place c t first count) sound a legal d = put_keeps (AgedIn s w.stamps) w.client c (placed_by s w c t first count) d (a c) (a d)
aged_step s w (Run c i) sound a legal d = put_keeps (AgedIn s w.stamps) w.client c (run_by s w c i) d (λ h e. true≢false (sym h ∙ ran_young (command_at s c i) (is_last s c i))) (a d)
aged_step s w (Leave c) sound a legal d = put_keeps (AgedIn s w.stamps) w.client c _ d (λ h. a c (left_aged (w.client c).phase (is_last s c (pred (w.client c).place)) legal h)) (a d)
aged_step s w (Info c) sound a legal d = put_keeps (AgedIn s w.stamps) w.client c _ d (λ h e. true≢false (sym h)) (a d)
aged_step s w (Change i) sound a legal d = λ h e. a d h (stamp_stood s w (next_stack s w) (w.client d).stamp (window_of s d) (sound.main.stamped d) e).0
aged_step s w (Gone c) sound a legal d =
    put_keeps (AgedIn s (after_entry s w (Gone c)).stamps) w.client c _ d (λ h e. true≢false (sym h))
    (λ h e. a d h (stamp_stood s w (without_owner c w.stack) (w.client d).stamp (window_of s d) (sound.main.stamped d) e).0)

pub aged_on : (s : Scene) (w : World) (o : Option Entry) → Sound s w → Aged s w → IsLegal s w o → Aged s (world_after s w o)
aged_on s w None sound a legal = a
aged_on s w (Some e) sound a legal = aged_step s w e sound a legal
