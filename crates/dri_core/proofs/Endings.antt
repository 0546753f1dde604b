-- Where nobody can go on, the run is whole.
use Rattle.std.proofs.Common.{◌≡◌, ◌<◌, ◌≤◌, ◌+◌, length, ℕ, zero, suc, List, [], ◌∷◌, ◌++◌, map, Bool, true, false, Option, Some, None, arith, refl, sym, ap, ◌∙◌, inl, inr, subst}
use Rattle.std.specs.Prelude.{◌==◌, ◌⊎◌, not, ◌&&◌, nat_lt, is_none, pred, slice_get}
use Rattle.std.proofs.lemmas.Bool.{true≢false, and_parts}
use Rattle.std.proofs.lemmas.Bool.Decides.{nat_tests}
use Rattle.dri_base.specs.declared.scene.ClientScript.{ClientScript}
use Rattle.dri_base.specs.declared.command.Item.TheVariants.{Turn}
use Rattle.dri_base.specs.declared.command.Command.{Command}
use Rattle.dri_base.specs.declared.command.Command.TheVariants as Command_is
use Rattle.dri_base.specs.declared.journal.Event.{Event}
use Rattle.dri_base.specs.declared.journal.Event.TheVariants.{Light, Kernel, Emit, Place, Run, LeaveLight, LeaveKernel, Gone, Info, Change}
use Rattle.dri_core.specs.Phases.{Phase}
use Rattle.dri_core.specs.Phases.{Out, Old, In, Over, Ask, Asking, Ended, Dead}
use Rattle.dri_base.specs.declared.scene.Scene.{Scene}
use Rattle.dri_base.proofs.RangeLemmas.{IsWellFormed}
use Rattle.dri_base.specs.Scenes.{script_in, command_at, commands_of, regions_needed}
use Rattle.dri_core.specs.Worlds.{World}
use Rattle.dri_core.specs.Privates.{room_in, textured_with}
use Rattle.dri_core.specs.Phases.{is_holding, is_done}
use Rattle.dri_core.specs.Runs.{IsWholeWorld, Whole}
use Rattle.dri_core.specs.Cores.{Core, opening_core, journal_of, is_next, is_queued}
use Rattle.dri_core.specs.CoreRuns.{after_events, IsRun}
use Rattle.dri_core.specs.Turns.{start_for, turn, turn_of, phase_turn, acting_turn, triangle_turn, emit_turn, or_waiting, server_turn, all_pass, round}
use Rattle.dri_model.specs.Groups.{is_empty, bits}
use Rattle.dri_model.specs.Heaps as Heaps
use Rattle.dri_core.proofs.Cores.{holding_live, journal_after, journal_is_hold_run, wanting_live}
use Rattle.dri_core.proofs.TurnEvents.{Known, known_after}
use Rattle.dri_core.proofs.Lively.{Lively, lively_after}

-- whose turns would all be passed over
pub none_there : (o : Option Event) → is_none o ≡ true → o ≡ None
none_there None e = refl
none_there (Some x) e = absurd (true≢false (sym e))

-- one event can't be none
pub some_none : (o : Option Event) (e : Event) → o ≡ Some e → o ≡ None → ⊥
some_none o e a b = grind arith

pub pass_server : (s : Scene) (k : Core) (ps : List ClientScript) → all_pass s k (map (λ p. Turn p.number) ps ++ Turn 0 ∷ []) ≡ true → server_turn s k ≡ None
pass_server s k [] e = none_there (server_turn s k) (and_parts (is_none (server_turn s k)) true e).0
pass_server s k (p ∷ ps) e = pass_server s k ps (and_parts (is_none (turn s k p.number)) (all_pass s k (map (λ p. Turn p.number) ps ++ Turn 0 ∷ [])) e).1

pub pass_client : (s : Scene) (k : Core) (ps : List ClientScript) (c : ℕ) → ((script_in ps c).commands ≡ [] → ⊥) → all_pass s k (map (λ p. Turn p.number) ps ++ Turn 0 ∷ []) ≡ true → turn s k c ≡ None
pass_client s k [] c some e = absurd (some refl)
pass_client s k (p ∷ ps) c some e = by_number (p.number == c) refl (pass_client s k ps c)
  where
    parts : (is_none (turn s k p.number) ≡ true) × (all_pass s k (map (λ p. Turn p.number) ps ++ Turn 0 ∷ []) ≡ true)
    parts = and_parts (is_none (turn s k p.number)) (all_pass s k (map (λ p. Turn p.number) ps ++ Turn 0 ∷ [])) e

    by_number : (b : Bool) → (p.number == c) ≡ b → (((script_in ps c).commands ≡ [] → ⊥) → all_pass s k (map (λ p. Turn p.number) ps ++ Turn 0 ∷ []) ≡ true → turn s k c ≡ None) → turn s k c ≡ None
    by_number true n on = subst (λ m. turn s k m ≡ None) (same n) (none_there (turn s k p.number) parts.0)
      where
        same : (p.number == c) ≡ true → p.number ≡ c
        same n = grind (arith, nat_tests)
    by_number false n on = on (λ h. some (rw n h)) parts.1

-- a client with a command has a number above 0, so its turn is its own
pub turn_client : (s : Scene) (k : Core) (c : ℕ) → IsWellFormed s → (commands_of s c ≡ [] → ⊥) → turn s k c ≡ None → turn_of s k c ≡ None
turn_client s k zero good some e = absurd (some good.numbered)
turn_client s k (suc c) good some e = e

-- an event that waits for nothing is made
pub goes : (s : Scene) (k : Core) (a : ℕ) (e : Event) → k.word.held ≡ false → is_next a k.queue ≡ true → or_waiting k a e ≡ Some e
goes s k a e free next = rw (free, next) refl

pub acts : (s : Scene) (w : World) (c : ℕ) (command : Option Command) → (command ≡ None → ⊥) → (e : Event) × (acting_turn s w c command ≡ Some e)
acts s w c None some = absurd (some refl)
acts s w c (Some (Command_is.Triangle t)) some = triangle (textured_with (w.client c).state)
  where
    emits : (b : Bool) → is_empty (w.client c).dirty ≡ b → (e : Event) × (emit_turn (w.client c) c ≡ Some e)
    emits true d = (Run c (w.client c).place, rw d refl)
    emits false d = (Emit c (bits (w.client c).dirty), rw d refl)

    triangle : (t : Option ℕ) → (e : Event) × (triangle_turn s w c t ≡ Some e)
    triangle None = emits (is_empty (w.client c).dirty) refl
    triangle (Some u) = by_place ((w.client c).placed u) refl
      where
        by_place : (r : Option Heaps.Spot) → (w.client c).placed u ≡ r → (e : Event) × (triangle_turn s w c (Some u) ≡ Some e)
        by_place None h =
            (Place c u (start_for (room_in s c (w.client c) u) s.regions w.heap (regions_needed s c u)) (regions_needed s c u), rw h refl)
        by_place (Some r) h = let x = emits (is_empty (w.client c).dirty) refl in (x.0, rw h x.1)
acts s w c _ some = (_, refl)

pub there : (cs : List Command) (n : ℕ) → n < length cs → slice_get cs n ≡ None → ⊥
there [] n l e = absurd (omega arith)
there (c ∷ cs) zero l e = grind arith
there (c ∷ cs) (suc n) l e = there cs n (omega arith) e

-- a client that holds, or that is live where the word is free and nobody is before it, can go on
pub moves : (s : Scene) (k : Core) (c : ℕ) → Known s k → Lively s k.world → (is_holding (k.world.client c).phase ≡ true) ⊎ ((is_done (k.world.client c).phase ≡ false) × (k.word.held ≡ false) × (is_next c k.queue ≡ true)) → turn_of s k c ≡ None → ⊥
moves s k c known l can stuck = by_stop (k.dying c) refl
  where
    in_phase : k.dying c ≡ false → (p : Phase) → (k.world.client c).phase ≡ p → (is_holding p ≡ true) ⊎ ((is_done p ≡ false) × (k.word.held ≡ false) × (is_next c k.queue ≡ true)) → (e : Event) × (phase_turn s k c p ≡ Some e)
    in_phase live Old ph by = (_, refl)
    in_phase live In ph by = acts s k.world c (command_at s c (k.world.client c).place) (there (commands_of s c) (pred (k.world.client c).place) (omega (arith, l.more c (rw ph refl), known.sound.main.started c)))
    in_phase live Over ph by = by_mark k.word.contended refl
      where
        by_mark : (b : Bool) → k.word.contended ≡ b → (e : Event) × (phase_turn s k c Over ≡ Some e)
        by_mark true m = (LeaveKernel c, rw m refl)
        by_mark false m = (LeaveLight c, rw m refl)
    in_phase live Ask ph by = by_mark k.word.contended refl
      where
        by_mark : (b : Bool) → k.word.contended ≡ b → (e : Event) × (phase_turn s k c Ask ≡ Some e)
        by_mark true m = (LeaveKernel c, rw m refl)
        by_mark false m = (LeaveLight c, rw m refl)
    in_phase live Out ph (inl h) = absurd (true≢false (sym h))
    in_phase live Out ph (inr f) = by_name (not k.word.held && (k.word.context == c + 1)) refl
      where
        by_name : (b : Bool) → (not k.word.held && (k.word.context == c + 1)) ≡ b → (e : Event) × (phase_turn s k c Out ≡ Some e)
        by_name true n = (Light c, rw n refl)
        by_name false n = (Kernel c k.word.context, rw n (goes s k c (Kernel c k.word.context) f.1 f.2))
    in_phase live Asking ph (inl h) = absurd (true≢false (sym h))
    in_phase live Asking ph (inr f) = (Info c, goes s k c (Info c) f.1 f.2)
    in_phase live Ended ph (inl h) = absurd (true≢false (sym h))
    in_phase live Ended ph (inr f) = absurd (true≢false f.0)
    in_phase live Dead ph (inl h) = absurd (true≢false (sym h))
    in_phase live Dead ph (inr f) = absurd (true≢false f.0)

    dying : k.dying c ≡ true → (is_holding (k.world.client c).phase ≡ true) ⊎ ((is_done (k.world.client c).phase ≡ false) × (k.word.held ≡ false) × (is_next c k.queue ≡ true)) → ⊥
    dying st (inl h) = true≢false (sym h ∙ known.queued.alive c st)
    dying st (inr f) = some_none (turn_of s k c) (Gone c) (rw st (goes s k c (Gone c) f.1 f.2)) stuck

    by_stop : (b : Bool) → k.dying c ≡ b → ⊥
    by_stop true st = dying st can
    by_stop false st = let x = in_phase st (k.world.client c).phase refl can in some_none (turn_of s k c) x.0 (rw st x.1) stuck

-- a client that isn't done has a command
pub has_command : (s : Scene) (w : World) (c : ℕ) → Lively s w → is_done (w.client c).phase ≡ false → commands_of s c ≡ [] → ⊥
has_command s w c l live none = true≢false (sym (ap is_done (l.empty c none)) ∙ live)

pub whole_at : (s : Scene) (k : Core) → IsWellFormed s → Known s k → Lively s k.world → all_pass s k (round s) ≡ true → IsWholeWorld s k.world
whole_at s k good known l pass = record {
  unheld = unheld;
  asking = λ c p. true≢false (sym (done c) ∙ rw p refl);
  done = done;
  made = made;
}
  where
    stuck : (c : ℕ) → is_done (k.world.client c).phase ≡ false → turn_of s k c ≡ None
    stuck c live = let some = has_command s k.world c l live in turn_client s k c good some (pass_client s k s.clients c some pass)

    holder_moves : (c : ℕ) → k.world.holder ≡ Some c → ⊥
    holder_moves c h = moves s k c known l (inl (l.held c h)) (stuck c (holding_live _ (l.held c h)))

    unheld : k.world.holder ≡ None
    unheld = by_holder k.world.holder refl
      where
        by_holder : (o : Option ℕ) → k.world.holder ≡ o → k.world.holder ≡ None
        by_holder None h = h
        by_holder (Some c) h = absurd (holder_moves c h)

    free : k.word.held ≡ false
    free = known.tied.free unheld

    server_goes : is_next 0 k.queue ≡ true → suc k.world.made ≤ length s.changes → ⊥
    server_goes next left = some_none (server_turn s k) (Change (k.world.made + 1)) (rw (yes, goes s k 0 (Change (k.world.made + 1)) free next) refl) (pass_server s k s.clients pass)
      where
        yes : nat_lt k.world.made (length s.changes) ≡ true
        yes = grind (arith, nat_tests, left)

    -- the first in the queue could go on
    none_waits : (q : List ℕ) → k.queue ≡ q → q ≡ []
    none_waits [] e = refl
    none_waits (zero ∷ q) e = absurd (server_goes (rw e refl) (known.queued.server (rw e refl)))
    none_waits (suc c ∷ q) e = absurd (moves s k (suc c) known l (inr (live, free, next)) (stuck (suc c) live))
      where
        same : (n : ℕ) → (n == n) ≡ true
        same n = grind (arith, nat_tests)

        next : is_next (suc c) k.queue ≡ true
        next = rw e (same (suc c))

        inside : is_queued (suc c) k.queue ≡ true
        inside = rw e (rw (same (suc c)) refl)

        live : is_done (k.world.client (suc c)).phase ≡ false
        live = elim (known.queued.wants (suc c) (omega arith) inside) [ inl st ↦ (known.tied.dying (suc c) st).1 | inr w ↦ wanting_live _ w ]

    empty_queue : k.queue ≡ []
    empty_queue = none_waits k.queue refl

    done : (c : ℕ) → is_done (k.world.client c).phase ≡ true
    done c = by_done (is_done (k.world.client c).phase) refl
      where
        by_done : (b : Bool) → is_done (k.world.client c).phase ≡ b → is_done (k.world.client c).phase ≡ true
        by_done true d = d
        by_done false d = absurd (moves s k c known l (inr (d, free, rw empty_queue refl)) (stuck c d))

    made : k.world.made ≡ length s.changes
    made = by_left (nat_lt k.world.made (length s.changes)) refl
      where
        by_left : (b : Bool) → nat_lt k.world.made (length s.changes) ≡ b → k.world.made ≡ length s.changes
        by_left true n = absurd (server_goes (rw empty_queue refl) (grind (arith, nat_tests)))
        by_left false n = grind (arith, nat_tests, l.made)

-- where a turn of each would be passed over, the journal is whole
pub whole_where_passed : (s : Scene) (events : List Event) → IsWellFormed s → IsRun s events → all_pass s (after_events s (opening_core s) events) (round s) ≡ true → Whole s (journal_of events)
whole_where_passed s events good run pass = subst (IsWholeWorld s) (sym (journal_after s events)) (whole_at s (after_events s (opening_core s) events) good (known_after s events good run) lively pass)
  where
    lively : Lively s (after_events s (opening_core s) events).world
    lively = subst (Lively s) (journal_after s events) (lively_after s (journal_of events) good (journal_is_hold_run s events good run))
