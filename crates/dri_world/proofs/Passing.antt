-- Where a turn and a kill are passed over.
use Rattle.std.proofs.Common.{◌≡◌, ◌+◌, ℕ, zero, suc, List, [], ◌∷◌, Bool, true, false, Option, Some, None, arith, refl, sym, ◌∙◌, inl, inr}
use Rattle.std.specs.Prelude.{◌⊎◌, ◌↔◌, ◌==◌, ◌&&◌, ◌||◌, if◌then◌else◌, not, nat_lt, length, pred}
use Rattle.std.proofs.lemmas.Bool.{true≢false, false_from_ne_true}
use Rattle.std.proofs.lemmas.Bool.Decides.{nat_tests}
use Rattle.dri_base.specs.Scenes.{command_at, commands_of}
use Rattle.dri_base.specs.declared.journal.Event.{Event}
use Rattle.dri_base.specs.declared.journal.Event.TheVariants.{Kernel, Info, Change, Stop, Gone}
use Rattle.dri_base.specs.declared.scene.Scene.{Scene}
use Rattle.dri_core.specs.Cores.{Core, is_first, is_next, is_queued}
use Rattle.dri_core.specs.Phases.{Phase, Out, Old, In, Over, Ask, Asking, Ended, Dead, is_done, is_holding, wants_in}
use Rattle.dri_core.specs.Turns.{kill, or_waiting, turn, phase_turn, waiting}
use Rattle.dri_core.proofs.Endings.{acts, there}
use Rattle.dri_core.proofs.EventTurns.{first_is, first_queued}
use Rattle.dri_core.proofs.Lively.{Lively}
use Rattle.dri_core.proofs.TurnEvents.{Known, is_first_of}
use Rattle.dri_world.specs.Courses.{HasMarked, IsBehind, IsPassedOver, IsPastKilling, turned}
use Rattle.dri_world.specs.declared.turned.Turned.{Turned}
use Rattle.dri_world.specs.declared.turned.Turned.TheVariants.{Did, Passed}

pub some_not_none : {e : Event} → Some e ≡ None → ⊥
some_not_none e = grind arith

-- the front is next
first_next : (a : ℕ) (q : List ℕ) → is_first a q ≡ true → is_next a q ≡ true
first_next a [] f = refl
first_next a (b ∷ bs) f = f

-- who is behind another isn't next
behind_next : (a : ℕ) (q : List ℕ) → is_queued a q ≡ true → is_first a q ≡ false → is_next a q ≡ false
behind_next a [] q f = absurd (true≢false (sym q))
behind_next a (b ∷ bs) q f = f

module _ (s : Scene) (k : Core) (known : Known s k) (lively : Lively s k.world) where
  -- an actor that can't take the word and makes no event waits
  waits : (a : ℕ) → (not k.word.held && is_next a k.queue) ≡ false → waiting k a ≡ None → IsBehind k a ⊎ HasMarked k a
  waits a shut h = by_queue (is_queued a k.queue) refl (is_first a k.queue) refl k.word.held refl k.word.contended refl
    where
      by_queue : (b : Bool) → is_queued a k.queue ≡ b → (f : Bool) → is_first a k.queue ≡ f → (held : Bool) → k.word.held ≡ held → (m : Bool) → k.word.contended ≡ m → IsBehind k a ⊎ HasMarked k a
      by_queue false q f fe held he m me = absurd (some_not_none (rw q at h))
      by_queue true q false fe held he m me = inl (q, fe)
      by_queue true q true fe false he m me = absurd (true≢false (sym (rw he (first_next a k.queue fe)) ∙ shut))
      by_queue true q true fe true he false me = absurd (some_not_none (rw (q, fe, he, me) at h))
      by_queue true q true fe true he true me = inr (is_first_of a k.queue fe, he, me)

  or_waits : (a : ℕ) (e : Event) → or_waiting k a e ≡ None → IsBehind k a ⊎ HasMarked k a
  or_waits a e h = by_way (not k.word.held && is_next a k.queue) refl
    where
      by_way : (b : Bool) → (not k.word.held && is_next a k.queue) ≡ b → IsBehind k a ⊎ HasMarked k a
      by_way true w = absurd (some_not_none (rw w at h))
      by_way false w = waits a w (rw w at h)

  in_phase : (c : ℕ) → (p : Phase) → (k.world.client (suc c)).phase ≡ p → phase_turn s k (suc c) p ≡ None → IsPassedOver s k (suc c)
  in_phase c Out ph h = by_name (not k.word.held && (k.word.context == suc c + 1)) refl
    where
      by_name : (b : Bool) → (not k.word.held && (k.word.context == suc c + 1)) ≡ b → IsPassedOver s k (suc c)
      by_name true n = absurd (some_not_none (rw n at h))
      by_name false n = inr (or_waits (suc c) (Kernel (suc c) k.word.context) (rw n at h))
  in_phase c Old ph h = absurd (some_not_none h)
  in_phase c In ph h = absurd (some_not_none (sym moves.1 ∙ h))
    where
      moves : (e : Event) × (phase_turn s k (suc c) In ≡ Some e)
      moves = acts s k.world (suc c) (command_at s (suc c) (k.world.client (suc c)).place) (there (commands_of s (suc c)) (pred (k.world.client (suc c)).place) (omega (arith, lively.more (suc c) (rw ph refl), known.sound.main.started (suc c))))
  in_phase c Over ph h = by_mark k.word.contended refl
    where
      by_mark : (b : Bool) → k.word.contended ≡ b → IsPassedOver s k (suc c)
      by_mark true m = absurd (some_not_none (rw m at h))
      by_mark false m = absurd (some_not_none (rw m at h))
  in_phase c Ask ph h = by_mark k.word.contended refl
    where
      by_mark : (b : Bool) → k.word.contended ≡ b → IsPassedOver s k (suc c)
      by_mark true m = absurd (some_not_none (rw m at h))
      by_mark false m = absurd (some_not_none (rw m at h))
  in_phase c Asking ph h = inr (or_waits (suc c) (Info (suc c)) h)
  in_phase c Ended ph h = inl (rw ph refl)
  in_phase c Dead ph h = inl (rw ph refl)

  -- a turn that makes no event is passed over
  pub passed : (a : ℕ) → turn s k a ≡ None → IsPassedOver s k a
  passed zero h = by_left (nat_lt k.world.made (length s.changes)) refl
    where
      by_left : (b : Bool) → nat_lt k.world.made (length s.changes) ≡ b → IsPassedOver s k 0
      by_left true l = inr (or_waits 0 (Change (k.world.made + 1)) (rw l at h))
      by_left false l = inl (grind (arith, nat_tests, lively.made))
  passed (suc c) h = by_life (k.dying (suc c)) refl
    where
      by_life : (b : Bool) → k.dying (suc c) ≡ b → IsPassedOver s k (suc c)
      by_life true d = inr (or_waits (suc c) (Gone (suc c)) (rw d at h))
      by_life false d = in_phase c (k.world.client (suc c)).phase refl (rw d at h)

  -- who waits makes no event
  stays : (a : ℕ) (e : Event) → IsBehind k a ⊎ HasMarked k a → or_waiting k a e ≡ None
  stays a e (inl behind) = by_held k.word.held refl
    where
      by_held : (b : Bool) → k.word.held ≡ b → or_waiting k a e ≡ None
      by_held true h = rw (h, behind.0, behind.1) refl
      by_held false h = rw (h, behind_next a k.queue behind.0 behind.1, behind.0, behind.1) refl
  stays a e (inr marked) = rw (marked.1, first_queued a k.queue marked.0, first_is a k.queue marked.0, marked.2) refl

  in_queue : (a : ℕ) → IsBehind k a ⊎ HasMarked k a → is_queued a k.queue ≡ true
  in_queue a (inl behind) = behind.0
  in_queue a (inr marked) = first_queued a k.queue marked.0

  -- the word isn't that of a client in the queue
  unnamed : (c : ℕ) → k.dying c ≡ false → (k.world.client c).phase ≡ Out → is_queued c k.queue ≡ true → (not k.word.held && (k.word.context == c + 1)) ≡ false
  unnamed c live ph queued = by_word k.word.held refl (k.word.context == c + 1) refl
    where
      by_word : (held : Bool) → k.word.held ≡ held → (b : Bool) → (k.word.context == c + 1) ≡ b → (not k.word.held && (k.word.context == c + 1)) ≡ false
      by_word true h b n = rw h refl
      by_word false h false n = rw (h, n) refl
      by_word false h true n = absurd (true≢false (sym queued ∙ known.queued.named c live ph h (grind (arith, nat_tests))))

  waiting_phase : (c : ℕ) → k.dying (suc c) ≡ false → IsBehind k (suc c) ⊎ HasMarked k (suc c) → (p : Phase) → (k.world.client (suc c)).phase ≡ p → wants_in p ≡ true → phase_turn s k (suc c) p ≡ None
  waiting_phase c live waits Out ph w = rw (unnamed (suc c) live ph (in_queue (suc c) waits)) (stays (suc c) (Kernel (suc c) k.word.context) waits)
  waiting_phase c live waits Asking ph w = stays (suc c) (Info (suc c)) waits
  waiting_phase c live waits Old ph w = absurd (true≢false (sym w))
  waiting_phase c live waits In ph w = absurd (true≢false (sym w))
  waiting_phase c live waits Over ph w = absurd (true≢false (sym w))
  waiting_phase c live waits Ask ph w = absurd (true≢false (sym w))
  waiting_phase c live waits Ended ph w = absurd (true≢false (sym w))
  waiting_phase c live waits Dead ph w = absurd (true≢false (sym w))

  through_phase : (c : ℕ) (p : Phase) → is_done p ≡ true → phase_turn s k c p ≡ None
  through_phase c Ended d = refl
  through_phase c Dead d = refl
  through_phase c Out d = absurd (true≢false (sym d))
  through_phase c Old d = absurd (true≢false (sym d))
  through_phase c In d = absurd (true≢false (sym d))
  through_phase c Over d = absurd (true≢false (sym d))
  through_phase c Ask d = absurd (true≢false (sym d))
  through_phase c Asking d = absurd (true≢false (sym d))

  -- a turn that is passed over makes no event
  pub makes_none : (a : ℕ) → IsPassedOver s k a → turn s k a ≡ None
  makes_none zero (inl through) = let l : nat_lt k.world.made (length s.changes) ≡ false = grind (arith, nat_tests, through) in rw l refl
  makes_none zero (inr waits) = by_left (nat_lt k.world.made (length s.changes))
    where
      by_left : (b : Bool) → (if b then or_waiting k 0 (Change (k.world.made + 1)) else None) ≡ None
      by_left true = stays 0 (Change (k.world.made + 1)) waits
      by_left false = refl
  makes_none (suc c) (inl through) = rw live (through_phase (suc c) (k.world.client (suc c)).phase through)
    where
      live : k.dying (suc c) ≡ false
      live = false_from_ne_true _ (λ d. true≢false (sym through ∙ (known.tied.dying (suc c) d).1))
  makes_none (suc c) (inr waits) = by_life (k.dying (suc c)) refl
    where
      wants : k.dying (suc c) ≡ false → (k.dying (suc c) ≡ true) ⊎ (wants_in (k.world.client (suc c)).phase ≡ true) → wants_in (k.world.client (suc c)).phase ≡ true
      wants live (inl d) = absurd (true≢false (sym d ∙ live))
      wants live (inr w) = w

      by_life : (b : Bool) → k.dying (suc c) ≡ b → turn s k (suc c) ≡ None
      by_life true d = rw d (stays (suc c) (Gone (suc c)) waits)
      by_life false d = rw d (waiting_phase c d waits (k.world.client (suc c)).phase refl (wants d (known.queued.wants (suc c) (omega arith) (in_queue (suc c) waits))))

  -- what is answered
  answers : (o : Option Event) (t : Turned) → t ≡ turned o → (t ≡ Passed → o ≡ None) × (o ≡ None → t ≡ Passed)
  answers None t e = (λ h. refl, λ h. e)
  answers (Some x) t e = (λ h. absurd (different (sym e ∙ h)), λ h. absurd (some_not_none h))
    where
      different : Did x ≡ Passed → ⊥
      different d = cc

  pub passed_exactly : (a : ℕ) (t : Turned) → t ≡ turned (turn s k a) → (t ≡ Passed) ↔ IsPassedOver s k a
  passed_exactly a t e = (λ h. passed a ((answers (turn s k a) t e).0 h), λ p. (answers (turn s k a) t e).1 (makes_none a p))

  done_holds : (p : Phase) → is_done p ≡ true → is_holding p ≡ false
  done_holds p d = grind arith

  kill_none : (c : ℕ) → kill k c ≡ None → IsPastKilling k c
  kill_none c h = by_tests (is_holding (k.world.client c).phase) refl (k.dying c) refl (is_done (k.world.client c).phase) refl
    where
      by_tests : (b : Bool) → is_holding (k.world.client c).phase ≡ b → (d : Bool) → k.dying c ≡ d → (f : Bool) → is_done (k.world.client c).phase ≡ f → IsPastKilling k c
      by_tests true be d de f fe = absurd (some_not_none (rw be at h))
      by_tests false be true de f fe = inl de
      by_tests false be false de true fe = inr fe
      by_tests false be false de false fe = absurd (some_not_none (rw (be, de, fe) at h))

  none_kill : (c : ℕ) → IsPastKilling k c → kill k c ≡ None
  none_kill c (inl d) = rw (known.queued.alive c d, d) refl
  none_kill c (inr f) = rw (done_holds (k.world.client c).phase f, f) (by_life (k.dying c))
    where
      by_life : (b : Bool) → (if b || true then None else Some (Stop c)) ≡ None
      by_life true = refl
      by_life false = refl

  pub killed_exactly : (c : ℕ) (t : Turned) → t ≡ turned (kill k c) → (t ≡ Passed) ↔ IsPastKilling k c
  killed_exactly c t e = (λ h. kill_none c ((answers (kill k c) t e).0 h), λ p. (answers (kill k c) t e).1 (none_kill c p))
