-- The journal of a run is a hold-run.
use Rattle.std.proofs.Common.{◌≡◌, ◌+◌, ℕ, List, [], ◌∷◌, true, false, Option, Some, None, arith, refl, sym, ◌∙◌, inl, inr}
use Rattle.std.specs.Prelude.{◌⊎◌}
use Rattle.std.proofs.lemmas.Bool.Decides.{nat_tests}
use Rattle.dri_base.specs.declared.journal.Entry.{Entry}
use Rattle.dri_base.specs.declared.journal.Event.{Event}
use Rattle.dri_base.specs.declared.journal.Event.TheVariants.{Light, Kernel, Queue, Mark, Stale, Emit, Place, Run, LeaveLight, LeaveKernel, Info, Change, Stop, Gone}
use Rattle.dri_core.specs.Phases.{Phase}
use Rattle.dri_base.specs.declared.scene.Scene.{Scene}
use Rattle.dri_base.proofs.RangeLemmas.{IsWellFormed}
use Rattle.dri_base.specs.Scenes.{is_named}
use Rattle.dri_core.specs.Worlds.{World}
use Rattle.dri_core.specs.EntryTable.{LegalEntry}
use Rattle.dri_core.specs.Phases.{is_holding, is_done, wants_in}
use Rattle.dri_core.specs.Effects.{run_by}
use Rattle.dri_core.specs.Runs.{after, HoldRun, LegalEntries, after_entries}
use Rattle.dri_core.specs.Cores.{Core, entry_of, with_entry, journal_of, opening_core}
use Rattle.dri_core.specs.EventTable.{LegalEvent, after_event, world_after}
use Rattle.dri_core.specs.CoreRuns.{after_events, LegalEvents, IsRun, WordHasImages, WordIsClean, WordIsCurrent}
use Rattle.std.proofs.lemmas.Bool.{true≢false}
use Rattle.dri_core.proofs.Parts.{put_keeps}
use Rattle.dri_core.proofs.Laws.{light_is_current}
use Rattle.dri_core.proofs.Sound.{Sound, sound_kept, sound_opened}

-- the word, the holder and the stopped clients belong together
pub record Tied (s : Scene) (k : Core) : Type 0 where
  pub held : (c : ℕ) → k.world.holder ≡ Some c → (k.word.held ≡ true) × (k.word.context ≡ c + 1)
  pub free : k.world.holder ≡ None → k.word.held ≡ false
  pub left : k.word.held ≡ false → (k.word.context ≡ 0) ⊎ (k.word.context ≡ k.world.left)
  pub dying : (c : ℕ) → k.dying c ≡ true → (is_named s c ≡ true) × (is_done (k.world.client c).phase ≡ false) × (is_holding (k.world.client c).phase ≡ false)

pub holding_live : (p : Phase) → is_holding p ≡ true → is_done p ≡ false
holding_live p h = grind arith

pub wanting_live : (p : Phase) → wants_in p ≡ true → is_done p ≡ false
wanting_live p h = grind arith

some_none : {o : Option ℕ} {d : ℕ} → o ≡ Some d → o ≡ None → ⊥
some_none a b = grind arith

-- an unheld word has no holder
nobody : (s : Scene) (k : Core) → Tied s k → k.word.held ≡ false → k.world.holder ≡ None
nobody s k tied e = by_holder k.world.holder refl
  where
    by_holder : (o : Option ℕ) → k.world.holder ≡ o → o ≡ None
    by_holder None h = refl
    by_holder (Some c) h = absurd (grind (arith, tied.held c h))

abbrev pub IsLegal : Scene → World → Option Entry → Type 0
IsLegal s w None = Unit {0}
IsLegal s w (Some e) = LegalEntry s w e

-- what is possible in the core is legal in the hold-run
pub legal_of : (s : Scene) (k : Core) (e : Event) → Sound s k.world → Tied s k → LegalEvent s k e → IsLegal s k.world (entry_of e)
legal_of s k (Light c) inv tied possible = (possible.1, nobody s k tied possible.2, grind (arith, tied.left possible.2))
legal_of s k (Kernel c found) inv tied possible = (possible.1, nobody s k tied possible.2, grind (arith, tied.left possible.2), possible.4)
legal_of s k (Queue a) inv tied possible = tt
legal_of s k (Mark a) inv tied possible = tt
legal_of s k (Stale c) inv tied possible = possible
legal_of s k (Emit c groups) inv tied possible = possible
legal_of s k (Place c t first count) inv tied possible = possible
legal_of s k (Run c i) inv tied possible = possible
legal_of s k (LeaveLight c) inv tied possible = possible.0
legal_of s k (LeaveKernel c) inv tied possible = possible.0
legal_of s k (Info c) inv tied possible = (possible.1, nobody s k tied possible.2)
legal_of s k (Change i) inv tied possible = (nobody s k tied possible.0, possible.1, possible.2)
legal_of s k (Stop c) inv tied possible = tt
legal_of s k (Gone c) inv tied (inl (h, inl named)) = inr (named, holding_live _ h, inl h)
legal_of s k (Gone c) inv tied (inl (h, inr dies)) = inl dies
legal_of s k (Gone c) inv tied (inr dying) = let t = tied.dying c dying.0 in inr (t.0, t.1, inr (nobody s k tied dying.1))

pub tied_step : (s : Scene) (k : Core) (e : Event) → Sound s k.world → Tied s k → LegalEvent s k e → Tied s (after_event s k e)
tied_step s k (Light c) inv tied possible = record { held = grind (arith, nat_tests); free = grind arith; left = grind arith; dying = grind (arith, nat_tests, tied.dying) }
tied_step s k (Kernel c found) inv tied possible = record { held = grind (arith, nat_tests); free = grind arith; left = grind arith; dying = grind (arith, nat_tests, tied.dying) }
tied_step s k (Queue a) inv tied possible = record { held = tied.held; free = tied.free; left = tied.left; dying = tied.dying }
tied_step s k (Mark a) inv tied possible = record { held = tied.held; free = tied.free; left = tied.left; dying = tied.dying }
tied_step s k (Stale c) inv tied possible = record { held = tied.held; free = tied.free; left = tied.left; dying = grind (arith, nat_tests, tied.dying) }
tied_step s k (Emit c groups) inv tied possible = record { held = tied.held; free = tied.free; left = tied.left; dying = grind (arith, nat_tests, tied.dying) }
tied_step s k (Place c t first count) inv tied possible = record { held = tied.held; free = tied.free; left = tied.left; dying = grind (arith, nat_tests, tied.dying) }
tied_step s k (Run c i) inv tied possible = record {
  held = tied.held;
  free = tied.free;
  left = tied.left;
  dying = λ d. put_keeps (λ e q. k.dying e ≡ true → (is_named s e ≡ true) × (is_done q.phase ≡ false) × (is_holding q.phase ≡ false)) k.world.client c (run_by s k.world c i) d
      (λ st. absurd (true≢false (rw possible.0 at (tied.dying c st).2)))
      (tied.dying d);
}
tied_step s k (LeaveLight c) inv tied possible = record { held = grind arith; free = grind arith; left = λ e. inr refl; dying = grind (arith, nat_tests, tied.dying) }
tied_step s k (LeaveKernel c) inv tied possible = record { held = grind arith; free = grind arith; left = λ e. inl refl; dying = grind (arith, nat_tests, tied.dying) }
tied_step s k (Info c) inv tied possible = record { held = λ d h. absurd (some_none h (nobody s k tied possible.2)); free = λ e. refl; left = λ e. inr refl; dying = grind (arith, nat_tests, tied.dying) }
tied_step s k (Change i) inv tied possible = record { held = λ d h. absurd (some_none h (nobody s k tied possible.0)); free = λ e. refl; left = λ e. inr refl; dying = tied.dying }
tied_step s k (Stop c) inv tied possible = record { held = tied.held; free = tied.free; left = tied.left; dying = grind (arith, nat_tests, tied.dying) }
tied_step s k (Gone c) inv tied possible = record { held = grind arith; free = grind arith; left = λ e. inl refl; dying = grind (arith, nat_tests, tied.dying) }

pub tied_start : (s : Scene) → Tied s (opening_core s)
tied_start s = record { held = grind arith; free = λ e. refl; left = λ e. inr refl; dying = grind arith }

pub invariant_on : (s : Scene) (w : World) (o : Option Entry) → IsWellFormed s → Sound s w → IsLegal s w o → Sound s (world_after s w o)
invariant_on s w None good inv legal = inv
invariant_on s w (Some e) good inv legal = sound_kept s w e good inv legal

with_entry_legal : (s : Scene) (w : World) (o : Option Entry) (es : List Entry) → IsLegal s w o → LegalEntries s (world_after s w o) es → LegalEntries s w (with_entry o es)
with_entry_legal s w None es legal more = more
with_entry_legal s w (Some e) es legal more = (legal, more)

with_entry_after : (s : Scene) (w : World) (o : Option Entry) (es : List Entry) → after_entries s w (with_entry o es) ≡ after_entries s (world_after s w o) es
with_entry_after s w None es = refl
with_entry_after s w (Some e) es = refl

journal_is_legal : (s : Scene) (k : Core) (events : List Event) → IsWellFormed s → Sound s k.world → Tied s k → LegalEvents s k events → LegalEntries s k.world (journal_of events)
journal_is_legal s k [] good inv tied possible = tt
journal_is_legal s k (e ∷ es) good inv tied possible =
    let legal = legal_of s k e inv tied possible.0 in
    with_entry_legal s k.world (entry_of e) (journal_of es) legal
    (journal_is_legal s (after_event s k e) es good (invariant_on s k.world (entry_of e) good inv legal) (tied_step s k e inv tied possible.0) possible.1)

pub journal_world : (s : Scene) (k : Core) (events : List Event) → after_entries s k.world (journal_of events) ≡ (after_events s k events).world
journal_world s k [] = refl
journal_world s k (e ∷ es) = with_entry_after s k.world (entry_of e) (journal_of es) ∙ journal_world s (after_event s k e) es

-- the journal of a run is a hold-run, and leaves the run's world
pub journal_is_hold_run : (s : Scene) (events : List Event) → IsWellFormed s → IsRun s events → HoldRun s (journal_of events)
journal_is_hold_run s events good run = journal_is_legal s (opening_core s) events good (sound_opened s good) (tied_start s) run

pub journal_after : (s : Scene) (events : List Event) → after s (journal_of events) ≡ (after_events s (opening_core s) events).world
journal_after s events = journal_world s (opening_core s) events

-- who may take the word lightly is current
pub word_is_current : (s : Scene) (k : Core) → Sound s k.world → Tied s k → WordIsCurrent s k
word_is_current s k sound tied c free mine out = light_is_current s k.world sound c (nobody s k tied free) (left_by (tied.left free)) out
  where
    left_by : (k.word.context ≡ 0) ⊎ (k.word.context ≡ k.world.left) → k.world.left ≡ c + 1
    left_by (inl none) = absurd (omega (arith, none, mine))
    left_by (inr left) = sym left ∙ mine

-- its clean groups are in the card
pub word_is_clean : (s : Scene) (k : Core) → Sound s k.world → Tied s k → WordIsClean s k
word_is_clean s k sound tied c free mine out = sound.main.clean c (word_is_current s k sound tied c free mine out).owner

-- and so are the images of its placed textures, since it knows all ages
pub word_has_images : (s : Scene) (k : Core) → Sound s k.world → Tied s k → WordHasImages s k
word_has_images s k sound tied c free mine out t spot placed =
    let known = (word_is_current s k sound tied c free mine out).local in
    (sound.textures.held c t spot (placed, λ r inside. omega (arith, known, sound.textures.ages r))).image
